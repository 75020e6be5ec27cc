-- What a row places, told of the record as of the turn.
use Rattle.std.proofs.Common.{◌≡◌, ℕ, Bool, true, false, List, Option, Some, None, if◌then◌else◌, refl, subst, sym, ap, ◌∙◌, nat_le}
use Rattle.std.specs.Option.{option_map_or}
use Rattle.std.proofs.lemmas.Bool.{true≢false}
use Rattle.raid_base.specs.declared.names.Txn.{Txn}
use Rattle.raid_base.specs.declared.names.Item.{Item}
use Rattle.raid_base.specs.declared.names.Site.{Site}
use Rattle.raid_base.specs.declared.request.Request.{Request}
use Rattle.raid_base.specs.declared.entry.Cause.{Cause}
use Rattle.raid_base.specs.declared.entry.Cause.TheVariants as causes
use Rattle.raid_base.specs.declared.entry.Act.TheVariants as acts
use Rattle.raid_base.specs.declared.entry.Entry.{Entry}
use Rattle.raid_base.specs.declared.entry.Entry.TheVariants.{Abort, Wait, Down}
use Rattle.raid_base.specs.declared.entry.Noted.{Noted}
use Rattle.raid_base.specs.declared.verdict.Verdict.{Verdict}
use Rattle.raid_base.specs.declared.verdict.Verdict.TheVariants as verdicts
use Rattle.raid_workload.specs.declared.workload.Workload.{Workload}
use Rattle.raid_workload.specs.Parts.{home}
use Rattle.raid_rules.specs.History.{noted, stamp, is_waiting}
use Rattle.raid_rules.specs.Verdicts.{reading, writing}
use Rattle.raid_rules.specs.Sessions.{source_for}
use Rattle.raid_legal.specs.Seen.{sources}
use Rattle.raid_legal.specs.InForce.{verdict}
use Rattle.raid_legal.specs.Answers.{served, answer_read, closes_waits, decided, answered, answer_commit, site_refusal}
use Rattle.raid_legal.specs.Forced.{forced}
use Rattle.raid_legal.specs.Legal.{is_free}
use Rattle.raid_faillock.specs.Stands.{names_sites}
use Rattle.raid_steps.specs.State.{Out, Turn, Sequencer}
use Rattle.raid_steps.specs.Sequencer.{so_far, place, place_if, settle, announced, leave_again, free_row}
use Rattle.raid_placed.specs.Placed.{Goes, Placeable, Sent}
use Rattle.raid_record.specs.declared.records.Record.{Record}
use Rattle.raid_record.specs.Tells.{IsOf, Turns}

-- a choice that is made
pub if_true : {X : Type 0} (b : Bool) (x y : X) → b ≡ true → (if b then x else y) ≡ x
if_true true x y q = refl
if_true false x y q = absurd (true≢false (sym q))

pub if_false : {X : Type 0} (b : Bool) (x y : X) → b ≡ false → (if b then x else y) ≡ y
if_false true x y q = absurd (true≢false q)
if_false false x y q = refl

-- where nothing is forced, what may be sent may be placed
pub quiet_sent : (w : Workload) (p : List Noted) (e : Entry) → forced w p ≡ None → Sent w p e → Placeable w p e
quiet_sent w p e q s = subst (Goes w p e) (sym q) s

-- an entry that is placed where the test passes
pub placed_where : (w : Workload) (ask : ℕ) (test : List Noted → Bool) (e : Entry) (r after : Record) (sent more : List Out) → test (noted r.history) ≡ true →
    Turns w r sent after more (λ turn. place w ask turn e) → Turns w r sent after more (λ turn. place_if w ask turn (if test (so_far turn) then Some e else None))
placed_where w ask test e r after sent more q placed turn o =
    subst (IsOf w after more)
    (sym (ap (place_if w ask turn) (if_true (test (so_far turn)) (Some e) None (subst (λ (h : List Entry). test (noted h) ≡ true) o.state.history q))))
    (placed turn o)

-- and nothing where it doesn't
pub left_where : (w : Workload) (ask : ℕ) (test : List Noted → Bool) (e : Entry) (r : Record) (sent : List Out) → test (noted r.history) ≡ false →
    Turns w r sent r sent (λ turn. place_if w ask turn (if test (so_far turn) then Some e else None))
left_where w ask test e r sent q turn o =
    subst (IsOf w r sent)
    (sym (ap (place_if w ask turn) (if_false (test (so_far turn)) (Some e) None (subst (λ (h : List Entry). test (noted h) ≡ false) o.state.history q))))
    o

-- the answer to a transaction that may ask
pub freed : (w : Workload) (ask : ℕ) (t : Txn) (answer : List Noted → Option Entry) (e : Entry) (r after : Record) (sent more : List Out) → is_free (noted r.history) t ≡ true → answer (noted r.history) ≡ Some e →
    Turns w r sent after more (λ turn. place w ask turn e) → Turns w r sent after more (λ turn. free_row w ask turn t (answer (so_far turn)))
freed w ask t answer e r after sent more free is placed turn o =
    subst (IsOf w after more)
    (sym (if_true (is_free (so_far turn) t) (place_if w ask turn (answer (so_far turn))) turn (subst (λ (h : List Entry). is_free (noted h) t ≡ true) o.state.history free)
    ∙ ap (place_if w ask turn) (subst (λ (h : List Entry). answer (noted h) ≡ Some e) o.state.history is)))
    (placed turn o)

-- and nothing for another
pub unfreed : (w : Workload) (ask : ℕ) (t : Txn) (answer : List Noted → Option Entry) (r : Record) (sent : List Out) → is_free (noted r.history) t ≡ false →
    Turns w r sent r sent (λ turn. free_row w ask turn t (answer (so_far turn)))
unfreed w ask t answer r sent free turn o =
    subst (IsOf w r sent)
    (sym (if_false (is_free (so_far turn) t) (place_if w ask turn (answer (so_far turn))) turn (subst (λ (h : List Entry). is_free (noted h) t ≡ false) o.state.history free)))
    o

-- answers name no site but those that the rules choose
served_names : (n : ℕ) (t : Txn) (x : Item) (o : Option Site) (v : Verdict) → names_sites n (served t x o v) ≡ true
served_names n t x None v = refl
served_names n t x (Some s) (verdicts.Reject why) = refl
served_names n t x (Some s) verdicts.Wait = refl
served_names n t x (Some s) verdicts.Grant = refl

pub read_names : (w : Workload) (p : List Noted) (t : Txn) (x : Item) → names_sites w.sites (answer_read w p t x) ≡ true
read_names w p t x = served_names w.sites t x (source_for (sources w p x) (home w t)) (verdict w p (reading t (stamp p t) x))

abbrev names : ℕ → Option Entry → Bool
names n o = option_map_or (names_sites n) o true

waits_names : (n : ℕ) (t : Txn) (request : Request) (a b : Bool) → names n (if a then None else if b then Some (Abort t causes.Deadlock (acts.Commit request)) else Some (Wait t request)) ≡ true
waits_names n t request true b = refl
waits_names n t request false true = refl
waits_names n t request false false = refl

decided_names : (w : Workload) (p : List Noted) (t : Txn) (request : Request) (v : Verdict) → names w.sites (decided w p t request v) ≡ true
decided_names w p t request (verdicts.Reject why) = refl
decided_names w p t request verdicts.Grant = refl
decided_names w p t request verdicts.Wait = waits_names w.sites t request (is_waiting p t) (closes_waits w p t request)

answered_names : (w : Workload) (p : List Noted) (t : Txn) (request : Request) (o : Option Cause) → names w.sites (answered w p t request o) ≡ true
answered_names w p t request (Some why) = refl
answered_names w p t request None = decided_names w p t request (verdict w p (writing t (stamp p t) request.writes))

pub commit_names : (w : Workload) (p : List Noted) (t : Txn) (request : Request) (e : Entry) → answer_commit w p t request ≡ Some e → names_sites w.sites e ≡ true
commit_names w p t request e q = subst (λ (o : Option Entry). names w.sites o ≡ true) q (answered_names w p t request (site_refusal w p request))

-- the site leaves, or was down
pub left_turns : (w : Workload) (s : Site) (test : List Noted → Bool) (f : Turn Sequencer → Turn Sequencer) (r after : Record) (sent more : List Out) → test (noted r.history) ≡ true →
    Turns w r sent after more f → Turns w r sent after more (λ turn. if test (so_far turn) then f turn else turn)
left_turns w s test f r after sent more q first turn o =
    subst (IsOf w after more) (sym (if_true (test (so_far turn)) (f turn) turn (subst (λ (h : List Entry). test (noted h) ≡ true) o.state.history q))) (first turn o)

-- the end of the new session was announced already
pub again_turns : (w : Workload) (s : Site) (n m : ℕ) (r after : Record) (sent more : List Out) → nat_le n m ≡ true → ((turn : Turn Sequencer) → IsOf w r sent turn → m ≡ announced turn s) →
    Turns w r sent after more (λ turn. place w 0 (settle w turn) (Down s)) → Turns w r sent after more (λ turn. leave_again w turn s n)
again_turns w s n m r after sent more q is gone turn o =
    subst (IsOf w after more) (sym (if_true (nat_le n (announced turn s)) (place w 0 (settle w turn) (Down s)) turn (subst (λ (k : ℕ). nat_le n k ≡ true) (is turn o) q))) (gone turn o)
