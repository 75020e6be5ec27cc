-- What begins in a site's step is a transaction of its own that hasn't begun, and doesn't run.
use Rattle.std.proofs.Common.{◌≡◌, ◌⊎◌, inl, inr, ℕ, ◌+◌, ◌==◌, Bool, true, false, not, ◌&&◌, List, [], ◌∷◌, ◌++◌, Option, Some, None, arith, sym, subst, ap, ◌∙◌, refl, append-nil}
use Rattle.std.specs.List.{AllByRecursion, list_any}
use Rattle.std.proofs.lemmas.Bool.{and_from, true≢false}
use Rattle.raid_base.specs.declared.names.Txn.{Txn}
use Rattle.raid_base.specs.declared.names.Site.{Site}
use Rattle.raid_base.specs.declared.entry.Noted.{Noted}
use Rattle.raid_base.specs.Names.{is_txn, is_site, has_txn}
use Rattle.raid_base.specs.Sites.{site}
use Rattle.raid_workload.specs.declared.workload.Workload.{Workload}
use Rattle.raid_workload.specs.Parts.{home}
use Rattle.raid_rules.specs.History.{has_begun}
use Rattle.raid_message.specs.declared.letter.Message.TheVariants as letters
use Rattle.raid_message.specs.declared.letter.Letter.{Letter}
use Rattle.raid_steps.specs.State.{Turn, Running, SiteState}
use Rattle.raid_steps.specs.Programs.{runs_here, following, next_attempt}
use Rattle.raid_moves.specs.Moves.{Ascend, Tells, drops, next_of, Reached}
use Rattle.raid_moves.proofs.Places.{all_found, all_kept, one_found, program_of, found_txn}
use Rattle.raid_moves.proofs.Steps.{ascend_row}
use Rattle.raid_ends.specs.Ready.{MayTakeUp}
use Rattle.raid_asks.proofs.Least.{Ours, ours_next}
use Rattle.raid_asks.proofs.Line.{FineAt, NoDrop, Promise, CountsAt, FineNow, CountsNow, next_counts, next_begins, begins_again}
use Rattle.raid_asks.proofs.Programs.{Keeps, Kept, BeginsNext, BeginsAgain, rowed, moves_keep}

-- what holds of each that runs
of_running : (P : Txn → Type 0) (t : Txn) (rs : List Running) → AllByRecursion (λ (r : Running). P r.txn) rs → list_any (λ (r : Running). is_txn t r.txn) rs ≡ true → P t
of_running P t rs a runs = go (program_of t rs) refl
  where
    go : (o : Option Running) → program_of t rs ≡ o → P t
    go None none = absurd (one_found (λ (r : Running). is_txn t r.txn) rs runs none)
    go (Some r) found = subst P (found_txn t rs r found) (all_found (λ (r : Running). P r.txn) (λ (r : Running). is_txn t r.txn) rs r a found)

-- what holds of a site's programs, in each turn that a letter of the sequencer leads to
reaches : (w : Workload) (h : Site) (Fine : List Txn → Txn → Type 0) (Counts : List Txn → ℕ → Type 0) (state : SiteState) → Keeps w h Fine Counts [] state.site state.running state.next → (from : ℕ) (letter : Letter) → BeginsNext w h Fine Counts → from ≡ 1 →
    ((v : List ℕ) (n : ℕ) → Tells w state from letter (letters.Welcome v n) → Counts [] n) → ((t : Txn) → Tells w state from letter (letters.Drop t true) → BeginsAgain w h Fine Counts t) → (turn : Turn SiteState) → Reached w state from letter turn → Kept w h Fine Counts turn
reaches w h Fine Counts state k from letter next of welcome retry turn (after, (row, chain)) =
    moves_keep w h Fine Counts state from letter next chain (ascend_row w state from letter k.ascend row)
    (rowed w h Fine Counts state k from letter next (λ monitor stop. omega (arith, of, monitor)) welcome retry row)

module _ (w : Workload) (k : ℕ) (p : List Noted) where
  abbrev here : Site
  here = site (k + 1)

  -- one that hasn't begun, and whose Begin isn't on its way, doesn't run
  not_running : (bs : List Txn) (t : Txn) (rs : List Running) → AllByRecursion (λ (r : Running). FineAt w here p bs r.txn) rs → has_begun p t ≡ false → has_txn bs t ≡ false → list_any (λ (r : Running). is_txn t r.txn) rs ≡ false
  not_running bs t rs fine fresh free = go (list_any (λ (r : Running). is_txn t r.txn) rs) refl
    where
      go : (b : Bool) → list_any (λ (r : Running). is_txn t r.txn) rs ≡ b → b ≡ false
      go true runs = absurd (true≢false (sym (ap not fresh) ∙ sym (of_running (FineAt w here p bs) t rs fine runs).1 ∙ free))
      go false runs = refl

  may_take : (bs : List Txn) (t : Txn) (state : SiteState) → state.site ≡ here → AllByRecursion (λ (r : Running). FineAt w here p bs r.txn) state.running → Ours w here t → has_begun p t ≡ false → has_txn bs t ≡ false → MayTakeUp w p state t
  may_take bs t state place fine ours fresh free = (
    ours.known,
    and_from (is_site state.site (home w t) && not (has_begun p t)) (not (runs_here state t))
        (and_from (is_site state.site (home w t)) (not (has_begun p t)) (ap (λ s. is_site s (home w t)) place ∙ ours.at) (ap not fresh))
        (ap not (not_running bs t state.running fine fresh free)),
  )

  -- an attempt that was promised
  pub promised_may : (bs : List Txn) (t : Txn) (state : SiteState) → state.site ≡ here → AllByRecursion (λ (r : Running). FineAt w here p bs r.txn) state.running → runs_here state t ≡ true → (is_site here (home w t) ≡ true → Promise w here p bs t) → MayTakeUp w p (drops state t).state (next_attempt w t)
  promised_may bs t state place fine runs promised =
      may_take bs (next_attempt w t) (drops state t).state place (all_kept (λ (r : Running). FineAt w here p bs r.txn) (λ (r : Running). not (is_txn t r.txn)) state.running fine) (ours_next w here t ours promise.more) promise.fresh promise.free
    where
      ours : Ours w here t
      ours = (of_running (FineAt w here p bs) t state.running fine runs).0

      promise : Promise w here p bs t
      promise = promised ours.at

  module _ (m : ℕ) (rest : List Letter) (bs : List Txn) where
    abbrev Fine : List Txn → Txn → Type 0
    Fine = FineNow w here p m rest bs

    -- none begins next, or one that may
    abbrev MayBegin : List Txn → ℕ → Type 0
    MayBegin ts n = (n ≡ 0) ⊎ CountsNow w here p m rest bs ts n

    begins_on : BeginsNext w here Fine MayBegin
    begins_on ts s rs n keeps some = go keeps.counts
      where
        go : MayBegin ts n → Keeps w here Fine MayBegin (ts ++ (record { 0 = n }) ∷ []) s rs (following w here n) × Fine (ts ++ (record { 0 = n }) ∷ []) (record { 0 = n })
        go (inl none) = absurd (true≢false (sym (ap (λ n. n == 0) none) ∙ some))
        go (inr counts) =
            let after = next_begins w here p m rest bs ts s rs n (record { site = keeps.site; fine = keeps.fine; counts = counts; ascend = keeps.ascend }) some in
            (record { site = after.0.site; fine = after.0.fine; counts = inr after.0.counts; ascend = after.0.ascend }, after.1)

    next_may : (turn : Turn SiteState) → Kept w here Fine MayBegin turn → (turn.state.next == 0) ≡ false → MayTakeUp w p turn.state (next_of turn)
    next_may turn (ts, (told, keeps)) some = go keeps.counts
      where
        go : MayBegin ts turn.state.next → MayTakeUp w p turn.state (next_of turn)
        go (inl none) = absurd (true≢false (sym (ap (λ n. n == 0) none) ∙ some))
        go (inr counts) = (let next = next_counts w here p m rest (bs ++ ts) turn.state.next counts some in may_take (bs ++ ts) (next_of turn) turn.state keeps.site keeps.fine next.1.1.1 next.1.0 next.1.1.0)

    -- the letters that the site takes from the sequencer
    module _ (state : SiteState) (place : state.site ≡ here) (ascend : Ascend state.running) (from : ℕ) (letter : Letter) (of : from ≡ 1) (turn : Turn SiteState) (reached : Reached w state from letter turn) (some : (turn.state.next == 0) ≡ false) where
      -- before it was welcomed
      pub first_may : state.running ≡ [] → state.next ≡ 0 → ((v : List ℕ) (n : ℕ) → Tells w state from letter (letters.Welcome v n) → CountsAt w here p m rest (bs ++ []) n) → ((t : Txn) → Tells w state from letter (letters.Drop t true) → ⊥) → MayTakeUp w p turn.state (next_of turn)
      first_may none unset welcome undropped =
          next_may turn
          (reaches w here Fine MayBegin state (record { site = place; fine = subst (λ rs. AllByRecursion (λ (r : Running). Fine [] r.txn) rs) (sym none) tt; counts = inl unset; ascend = ascend }) from letter begins_on of (λ v n tells. inr (welcome v n tells)) (λ t tells. absurd (undropped t tells)) turn reached)
          some

      -- and after that
      pub later_may : AllByRecursion (λ (r : Running). FineAt w here p bs r.txn) state.running → CountsAt w here p m rest bs state.next → ((v : List ℕ) (n : ℕ) → Tells w state from letter (letters.Welcome v n) → ⊥) →
          ((t : Txn) → Tells w state from letter (letters.Drop t true) → is_site here (home w t) ≡ true → Promise w here p bs t × NoDrop w here p m t rest) → MayTakeUp w p turn.state (next_of turn)
      later_may fine counts unwelcomed promised = next_may turn (kept.0, (kept.1.0, record { site = kept.1.1.site; fine = kept.1.1.fine; counts = inr kept.1.1.counts; ascend = kept.1.1.ascend })) some
        where
          keeps : Keeps w here Fine (CountsNow w here p m rest bs) [] state.site state.running state.next
          keeps = record {
            site = place;
            fine = subst (λ bs. AllByRecursion (λ (r : Running). FineAt w here p bs r.txn) state.running) (sym (append-nil bs)) fine;
            counts = subst (λ bs. CountsAt w here p m rest bs state.next) (sym (append-nil bs)) counts;
            ascend = ascend;
          }

          kept : Kept w here Fine (CountsNow w here p m rest bs) turn
          kept = reaches w here Fine (CountsNow w here p m rest bs) state keeps from letter (next_begins w here p m rest bs) of (λ v n tells. absurd (unwelcomed v n tells)) (λ t tells. begins_again w here p m rest bs t (promised t tells)) turn reached
