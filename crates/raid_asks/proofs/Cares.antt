-- Of each program that runs at a site of a reached world, the Begin is on its way exactly where the history hasn't it: what holds, and that a
-- step of the site keeps it.
use Rattle.std.proofs.Common.{◌≡◌, ℕ, suc, ◌+◌, ◌<◌, ◌≤◌, ◌==◌, Bool, true, false, List, [], ◌∷◌, ◌++◌, if◌then◌else◌, arith, sym, subst, ap, ◌∙◌, refl, append-nil, append_assoc}
use Rattle.std.specs.Prelude.{⊤}
use Rattle.std.specs.List.{AllByRecursion}
use Rattle.std.proofs.lemmas.Bool.{true≢false}
use Rattle.raid_base.specs.declared.names.Txn.{Txn}
use Rattle.raid_base.specs.declared.names.Site.{Site}
use Rattle.raid_base.specs.declared.entry.Noted.{Noted}
use Rattle.raid_base.specs.Sites.{site}
use Rattle.raid_workload.specs.declared.workload.Workload.{Workload}
use Rattle.raid_rules.specs.Sessions.{last_session}
use Rattle.raid_message.specs.declared.letter.Message.{Message}
use Rattle.raid_message.specs.declared.letter.Message.TheVariants as letters
use Rattle.raid_message.specs.declared.letter.Letter.{Letter}
use Rattle.raid_steps.specs.State.{Out, Turn, Running, SiteState}
use Rattle.raid_steps.specs.Site as rows
use Rattle.raid_sessions.proofs.Lists.{is_same}
use Rattle.raid_sessions.proofs.Mail.{letter_of, letters_to}
use Rattle.raid_moves.specs.Moves.{Ascend}
use Rattle.raid_asks.proofs.Least.{Ours}
use Rattle.raid_asks.proofs.Line.{FineAt, NoteOk, CountsAt, FineNow, CountsNow, next_begins, begins_again}
use Rattle.raid_asks.proofs.Notes.{IsPlain, Welcoming}
use Rattle.raid_asks.proofs.Programs.{told, Keeps, Kept, BeginsNext, hears_sequencer, hears_site}
use Rattle.raid_asks.specs.Way.{begun_by, begins_of as begins}

pub begins_append : (m : ℕ) (xs ys : List Letter) → begins m (xs ++ ys) ≡ begins m xs ++ begins m ys
begins_append m [] ys = refl
begins_append m (l ∷ xs) ys = go (l.from == m) (begins_append m xs ys)
  where
    go : (b : Bool) → begins m (xs ++ ys) ≡ begins m xs ++ begins m ys → (if b then begun_by l.message ++ begins m (xs ++ ys) else begins m (xs ++ ys)) ≡ (if b then begun_by l.message ++ begins m xs else begins m xs) ++ begins m ys
    go true q = ap (λ ts. begun_by l.message ++ ts) q ∙ sym (append_assoc (begun_by l.message) (begins m xs) (begins m ys))
    go false q = q

pub begins_told : (m clock : ℕ) (outs : List Out) → begins m (letters_to 1 m clock outs) ≡ told outs
begins_told m clock [] = refl
begins_told m clock (out ∷ outs) = go (out.0 == 1) (begins_told m clock outs)
  where
    go : (b : Bool) → begins m (letters_to 1 m clock outs) ≡ told outs → begins m (if b then letter_of m clock out ∷ letters_to 1 m clock outs else letters_to 1 m clock outs) ≡ (if b then begun_by out.2 ++ told outs else told outs)
    go true q = ap (λ b. if b then begun_by out.2 ++ begins m (letters_to 1 m clock outs) else begins m (letters_to 1 m clock outs)) (is_same m m refl) ∙ ap (λ ts. begun_by out.2 ++ ts) q
    go false q = q

-- no letter of a later session
pub none_later : (m : ℕ) (ls : List Letter) → AllByRecursion (λ (l : Letter). l.from ≤ m) ls → begins (m + 1) ls ≡ []
none_later m [] a = refl
none_later m (l ∷ ls) a = ap (λ b. if b then begun_by l.message ++ begins (m + 1) ls else begins (m + 1) ls) (other l.from m a.0) ∙ none_later m ls a.1
  where
    other : (a m : ℕ) → a ≤ m → (a == m + 1) ≡ false
    other a m q = grind (arith, q)

pub nothing_runs : (rs : List Running) → AllByRecursion (λ (r : Running). ⊥) rs → rs ≡ []
nothing_runs [] a = refl
nothing_runs (r ∷ rs) a = absurd a.0

module _ (w : Workload) (k : ℕ) where
  abbrev pub here : Site
  here = site (k + 1)

  -- a Begin is of the site's own
  abbrev pub IsOurs : Message → Type 0
  IsOurs (letters.Begin t) = Ours w here t
  IsOurs other = ⊤

  abbrev pub AreOurs : List Letter → Type 0
  AreOurs ls = AllByRecursion (λ (l : Letter). IsOurs l.message) ls

  module _ (p : List Noted) where
    -- a site: stopped; or up, and the history doesn't have it in its session yet; or it has, and its Welcome is on its way; or it was welcomed
    pub data Stage (up : Bool) (m : ℕ) (rs : List Running) (nx : ℕ) (bs : List Txn) (notes : List Letter) : Type 0 where
      stopped : up ≡ false → rs ≡ [] → nx ≡ 0 → Stage up m rs nx bs notes
      asleep : up ≡ true → last_session p here < m → rs ≡ [] → nx ≡ 0 → bs ≡ [] → Stage up m rs nx bs notes
      fresh : up ≡ true → last_session p here ≡ m → rs ≡ [] → nx ≡ 0 → bs ≡ [] → Welcoming w here m p notes → Stage up m rs nx bs notes
      awake : up ≡ true → last_session p here ≡ m → AllByRecursion (λ (r : Running). FineAt w here p bs r.txn) rs → CountsAt w here p m notes bs nx → Stage up m rs nx bs notes

    pub record Cares (state : SiteState) (asks notes : List Letter) : Type 0 where
      pub sent : AllByRecursion (λ (l : Letter). l.from ≤ state.session) asks
      pub known : AreOurs asks
      pub stage : Stage state.up state.session state.running state.next (begins state.session asks) notes

    -- the steps of a site that is up
    module _ (state : SiteState) (place : state.site ≡ here) (ascend : Ascend state.running) where
      -- one at which nothing runs, and that isn't welcomed
      pub Idle : List Txn → Txn → Type 0
      Idle ts t = ⊥

      pub None : List Txn → ℕ → Type 0
      None ts n = (n ≡ 0) × (ts ≡ [])

      abbrev pub Still : Turn SiteState → Type 0
      Still turn = (turn.state.running ≡ []) × ((turn.state.next ≡ 0) × (told turn.outs ≡ []))

      pub still_next : BeginsNext w here Idle None
      unfolding Idle None
      still_next ts s rs n q some = absurd (true≢false (sym (ap (λ k. k == 0) q.counts.0) ∙ some))

      still_turn : (turn : Turn SiteState) → Kept w here Idle None turn → Still turn
      unfolding Idle None
      still_turn turn q = (nothing_runs turn.state.running q.1.1.fine, (q.1.1.counts.0, q.1.0 ∙ q.1.1.counts.1))

      pub still_keeps : state.running ≡ [] → state.next ≡ 0 → Keeps w here Idle None [] state.site state.running state.next
      unfolding Idle None
      still_keeps r n = record { site = place; fine = subst (λ rs. AllByRecursion (λ (r : Running). Idle [] r.txn) rs) (sym r) tt; counts = (n, refl); ascend = ascend }

      pub still_heard : state.up ≡ true → state.running ≡ [] → state.next ≡ 0 → (letter : Letter) → ((letter.to == state.session) ≡ true → IsPlain letter.message) → Still (rows.hear_up w state 1 letter)
      unfolding Idle None
      still_heard up r n letter plain =
          still_turn (rows.hear_up w state 1 letter)
          (hears_sequencer w here Idle None still_next state (still_keeps r n) up letter
          (λ to v i e. absurd (subst IsPlain e (plain to)))
          (λ to t e. absurd (subst IsPlain e (plain to))))

      pub still_told : state.up ≡ true → state.running ≡ [] → state.next ≡ 0 → (i : ℕ) (letter : Letter) → Still (rows.hear_up w state (suc (suc i)) letter)
      still_told up r n i letter = still_turn (rows.hear_up w state (suc (suc i)) letter) (hears_site w here Idle None still_next state (still_keeps r n) up i letter)

      -- one that was welcomed
      module _ (m : ℕ) (mine : state.session ≡ m) (bs : List Txn) (rest : List Letter) where
        abbrev pub Runs : Turn SiteState → Type 0
        Runs turn = AllByRecursion (λ (r : Running). FineAt w here p (bs ++ told turn.outs) r.txn) turn.state.running × CountsAt w here p m rest (bs ++ told turn.outs) turn.state.next

        pub runs_turn : (turn : Turn SiteState) → Kept w here (FineNow w here p m rest bs) (CountsNow w here p m rest bs) turn → Runs turn
        runs_turn turn q = subst (λ ts. AllByRecursion (λ (r : Running). FineAt w here p (bs ++ ts) r.txn) turn.state.running × CountsAt w here p m rest (bs ++ ts) turn.state.next) (sym q.1.0) (q.1.1.fine, q.1.1.counts)

        pub runs_keeps : AllByRecursion (λ (r : Running). FineAt w here p bs r.txn) state.running → CountsAt w here p m rest bs state.next → Keeps w here (FineNow w here p m rest bs) (CountsNow w here p m rest bs) [] state.site state.running state.next
        runs_keeps f c = record { site = place; fine = subst (λ bs. AllByRecursion (λ (r : Running). FineAt w here p bs r.txn) state.running) (sym (append-nil bs)) f; counts = subst (λ bs. CountsAt w here p m rest bs state.next) (sym (append-nil bs)) c; ascend = ascend }

        pub no_welcome : (message : Message) (ls : List Letter) (v : List ℕ) (n : ℕ) → message ≡ letters.Welcome v n → NoteOk w here p m bs message ls → ⊥
        no_welcome message ls v n e ok = subst (λ x. NoteOk w here p m bs x ls) e ok

        pub runs_heard : state.up ≡ true → AllByRecursion (λ (r : Running). FineAt w here p bs r.txn) state.running → CountsAt w here p m rest bs state.next → (letter : Letter) → ((letter.to == m) ≡ true → NoteOk w here p m bs letter.message rest) → Runs (rows.hear_up w state 1 letter)
        runs_heard up f c letter ok =
            runs_turn (rows.hear_up w state 1 letter)
            (hears_sequencer w here (FineNow w here p m rest bs) (CountsNow w here p m rest bs) (next_begins w here p m rest bs) state (runs_keeps f c) up letter
            (λ to v n e. absurd (no_welcome letter.message rest v n e (ok (subst (λ n. (letter.to == n) ≡ true) mine to))))
            (λ to t e. begins_again w here p m rest bs t (subst (λ x. NoteOk w here p m bs x rest) e (ok (subst (λ n. (letter.to == n) ≡ true) mine to)))))

        pub runs_told : state.up ≡ true → AllByRecursion (λ (r : Running). FineAt w here p bs r.txn) state.running → CountsAt w here p m rest bs state.next → (i : ℕ) (letter : Letter) → Runs (rows.hear_up w state (suc (suc i)) letter)
        runs_told up f c i letter = runs_turn (rows.hear_up w state (suc (suc i)) letter) (hears_site w here (FineNow w here p m rest bs) (CountsNow w here p m rest bs) (next_begins w here p m rest bs) state (runs_keeps f c) up i letter)
