-- What is said keeps the rules, line by line.
use Rattle.std.proofs.Common.{◌≡◌, ℕ, ◌+◌, ◌≤◌, Bool, true, false, cond, ◌||◌, eqb, List, [], ◌∷◌, length, Result, Ok, Err, refl, sym, ◌∙◌, subst, codes, inl, inr}
use Rattle.std.proofs.lemmas.List.{length-map}
use Rattle.raid_program.specs.declared.program.Statement.{Statement}
use Rattle.raid_scan.specs.Words.{Word, words_by_line}
use Rattle.raid_tokens.specs.declared.fault.Fault.{Fault}
use Rattle.raid_tokens.specs.declared.fault.Fault.TheVariants as faults
use Rattle.raid_tokens.specs.Reading.{◌>>=◌}
use Rattle.raid_tokens.proofs.Takes.{ok_is}
use Rattle.raid_workload.specs.Rules.{is_statement}
use Rattle.raid_workload.specs.declared.workload.ItemLine.{ItemLine}
use Rattle.raid_text.specs.declared.state.State.{State}
use Rattle.raid_text.specs.declared.state.Place.{Place}
use Rattle.raid_text.specs.declared.state.Place.TheVariants as places
use Rattle.raid_text.specs.Head.{version_line, sites_line, restarts_line, open_line}
use Rattle.raid_text.specs.Body.{done_line, end_line}
use Rattle.raid_text.specs.Names.{names_of}
use Rattle.raid_text.specs.Statements.{read_at, write_at, stop_if_at}
use Rattle.raid_text.specs.Said.{Said, said_by, are_kept, opening}
use Rattle.raid_text.specs.Used.{begins, is_comment, used_line, line_after}
use Rattle.raid_text.specs.Outcome.{Refusal, at_line, ended, ended_at, outcome_from, outcome_of}
use Rattle.raid_text.proofs.Formed.{read_ok, write_ok, stop_if_ok}
use Rattle.raid_text.proofs.Holders.{within_parts}
use Rattle.raid_text.proofs.Kept.{IsSitesState, IsRestartsState, IsItemsState, version_keeps, sites_keeps, restarts_keeps, item_keeps}
use Rattle.raid_text.proofs.States.{Rules, kept_of}
use Rattle.raid_text.proofs.Stays.{IsBodyState, IsProgramState, open_keeps, switch_keeps, event_keeps, program_keeps, statement_keeps, end_keeps, done_keeps}

-- what is kept at each place
abbrev pub IsStateAt : Place → State → Type 0
IsStateAt places.Start s = s ≡ opening
IsStateAt places.Sites s = IsSitesState s
IsStateAt places.Restarts s = IsRestartsState s
IsStateAt places.Items s = IsItemsState s
IsStateAt places.Body s = IsBodyState s
IsStateAt places.Program s = IsProgramState s
IsStateAt places.Over s = IsBodyState s

abbrev pub IsState : State → Type 0
IsState s = IsStateAt s.place s

now_at : (p : Place) (s : State) → p ≡ s.place → IsStateAt p s → IsState s
now_at p s e h = subst (λ (q : Place). IsStateAt q s) e h

-- one of two lines
either : (b : Bool) (x y : Result State Fault) (t : State) → (x ≡ Ok t → IsState t) → (y ≡ Ok t → IsState t) → cond b x y ≡ Ok t → IsState t
either true x y t f g e = f e
either false x y t f g e = g e

by_names : (s : State) (statement : Statement) → is_statement (length (names_of s.items)) statement ≡ true → is_statement (length s.items) statement ≡ true
by_names s statement h = subst (λ (n : ℕ). is_statement n statement ≡ true) (length-map s.items (λ (line : ItemLine). line.name)) h

used_keeps : (p : Place) (s : State) (word : Word) (words : List Word) (t : State) → p ≡ s.place → IsStateAt p s → used_line p s word words ≡ Ok t → IsState t
unfolding used_line
used_keeps places.Start s word words t at kept e =
    let k = version_keeps word words t (subst (λ (u : State). version_line u word words ≡ Ok t) kept e) in
    now_at places.Sites t (sym k.0) k.1
used_keeps places.Sites s word words t at kept e =
    either (begins word (codes "sites")) (sites_line s words) (Err faults.Word) t
    (λ h. elim (sites_keeps s words t kept h) [
      | inl k ↦ now_at places.Restarts t (sym k.0) k.1
      | inr k ↦ now_at places.Items t (sym k.0) k.1
    ])
    (λ h. absurd cc) e
used_keeps places.Restarts s word words t at kept e =
    either (begins word (codes "restarts")) (restarts_line s words) (Err faults.Word) t
    (λ h. let k = restarts_keeps s words t kept h in now_at places.Items t (sym k.0) k.1)
    (λ h. absurd cc) e
used_keeps places.Items s word words t at kept e =
    either (begins word (codes "item")) _ _ t (λ h. let k = item_keeps s words t kept h in now_at places.Items t (sym k.0) k.1)
    (λ h. either (begins word (codes "open")) (open_line s words) (Err faults.Word) t (λ i. let k = open_keeps s words t kept i in now_at places.Body t (sym k.0) k.1) (λ i. absurd cc) h) e
used_keeps places.Body s word words t at kept e =
    either (begins word (codes "switch")) _ _ t (λ h. let k = switch_keeps s words t kept h in now_at places.Body t (at ∙ k.0) k.1)
    (λ h. either (begins word (codes "stop")) _ _ t (λ i. let k = event_keeps s true words t kept i in now_at places.Body t (at ∙ k.0) k.1)
    (λ i. either (begins word (codes "return")) _ _ t (λ j. let k = event_keeps s false words t kept j in now_at places.Body t (at ∙ k.0) k.1)
    (λ j. either (begins word (codes "program")) _ _ t (λ l. let k = program_keeps s words t kept l in now_at places.Program t (sym k.0) k.1)
    (λ l. either (begins word (codes "done")) (done_line s words) (Err faults.Word) t (λ m. let k = done_keeps s words t kept m in now_at places.Over t (sym k.0) k.1) (λ m. absurd cc) l) j) i) h) e
used_keeps places.Program s word words t at kept e =
    either (begins word (codes "read")) _ _ t (λ h. let k = statement_keeps s (read_at (names_of s.items) words) t kept (λ x f. by_names s x (read_ok (names_of s.items) words x f)) h in now_at places.Program t (at ∙ k.0) k.1)
    (λ h. either (begins word (codes "write")) _ _ t (λ i. let k = statement_keeps s (write_at (names_of s.items) words) t kept (λ x f. by_names s x (write_ok (names_of s.items) words x f)) i in now_at places.Program t (at ∙ k.0) k.1)
    (λ i. either (begins word (codes "stop")) _ _ t (λ j. let k = statement_keeps s (stop_if_at words) t kept (stop_if_ok (length s.items) words) j in now_at places.Program t (at ∙ k.0) k.1)
    (λ j. either (begins word (codes "end")) (end_line s words) (Err faults.Word) t (λ l. let k = end_keeps s words t kept l in now_at places.Body t (sym k.0) k.1) (λ l. absurd cc) j) i) h) e
used_keeps places.Over s word words t at kept e = absurd cc

pub line_keeps : (s : State) (words : List Word) (t : State) → IsState s → line_after s words ≡ Ok t → IsState t
unfolding line_after
line_keeps s [] t kept e = subst IsState (ok_is s t e) kept
line_keeps s (word ∷ words) t kept e =
    either (is_comment word) (Ok s) (used_line s.place s word words) t (λ h. subst IsState (ok_is s t h) kept) (λ h. used_keeps s.place s word words t refl kept h) e

-- ---- so the rules are kept

rules_opening : Rules (said_by opening)
rules_opening = record { restarts = refl; sites = refl; together = refl; few_items = refl; items = refl; few_switches = refl; switches = refl; few_events = refl; events = refl; few_programs = refl; programs = refl }

rules_sites : (s : State) → IsSitesState s → Rules (said_by s)
rules_sites s kept = subst (λ (u : State). Rules (said_by u)) (sym kept.is) (record { restarts = rw kept.version (or_true (eqb s.version 2)); sites = refl; together = refl; few_items = refl; items = refl; few_switches = refl; switches = refl; few_events = refl; events = refl; few_programs = refl; programs = refl })
  where
    or_true : (b : Bool) → (b || true) ≡ true
    or_true true = refl
    or_true false = refl

rules_at : (p : Place) (s : State) → IsStateAt p s → Rules (said_by s)
rules_at places.Start s kept = subst (λ (u : State). Rules (said_by u)) (sym kept) rules_opening
rules_at places.Sites s kept = rules_sites s kept
rules_at places.Restarts s kept = kept.rules
rules_at places.Items s kept = kept.rules
rules_at places.Body s kept = kept.rules
rules_at places.Program s kept = let body = kept.body in body.rules
rules_at places.Over s kept = kept.rules

pub state_kept : (s : State) → IsState s → are_kept (said_by s) ≡ true
state_kept s kept = kept_of (said_by s) (rules_at s.place s kept)

pub few_sites : (s : State) → IsState s → s.sites ≤ 8
few_sites s kept =
    let rules = rules_at s.place s kept in
    let w = within_parts 1 8 s.sites rules.sites in
    w.1

-- ---- what is read

abbrev fine : Said → Result Said Refusal
fine p = Ok p

same_said : (p q : Said) → fine p ≡ fine q → p ≡ q
same_said p q e = cc

ended_kept : (p : Place) (number : ℕ) (s : State) (q : Said) → IsStateAt p s → ended_at p number s ≡ Ok q → are_kept q ≡ true
ended_kept places.Over number s q kept e = subst (λ (r : Said). are_kept r ≡ true) (same_said (said_by s) q e) (kept_of (said_by s) (rules_at places.Over s kept))
ended_kept places.Start number s q kept e = absurd cc
ended_kept places.Sites number s q kept e = absurd cc
ended_kept places.Restarts number s q kept e = absurd cc
ended_kept places.Items number s q kept e = absurd cc
ended_kept places.Body number s q kept e = absurd cc
ended_kept places.Program number s q kept e = absurd cc

at_line_ok : (number : ℕ) (r : Result State Fault) (f : State → Result Said Refusal) (q : Said) → (at_line number r >>= f) ≡ Ok q → (x : State) × (r ≡ Ok x) × (f x ≡ Ok q)
at_line_ok number (Ok x) f q e = (x, refl, e)
at_line_ok number (Err d) f q e = absurd cc

outcome_kept : (number : ℕ) (s : State) (lines : List (List Word)) (q : Said) → IsState s → outcome_from number s lines ≡ Ok q → are_kept q ≡ true
unfolding outcome_from ended
outcome_kept number s [] q kept e = ended_kept s.place number s q kept e
outcome_kept number s (words ∷ lines) q kept e =
    let a = at_line_ok number (line_after s words) (λ next. outcome_from (number + 1) next lines) q e in
    outcome_kept (number + 1) a.0 lines q (line_keeps s words a.0 kept a.1) a.2

pub reads_kept : (text : List ℕ) (q : Said) → outcome_of text ≡ Ok q → are_kept q ≡ true
unfolding outcome_of
reads_kept text q e = outcome_kept 1 opening (words_by_line text) q refl e
