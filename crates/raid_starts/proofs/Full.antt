-- As many programs run at a site after its step as may, or none is left to begin.
use Rattle.std.proofs.Common.{◌≡◌, inl, inr, ℕ, zero, suc, ◌+◌, ◌<◌, ◌≤◌, ◌==◌, nat_lt, Bool, true, false, not, ◌||◌, List, [], ◌∷◌, Some, if◌then◌else◌, arith, sym, subst, ap, ◌∙◌, refl}
use Rattle.std.specs.Prelude.{slice_get}
use Rattle.std.specs.List.{AllByRecursion}
use Rattle.std.proofs.lemmas.Bool.{eqb-true, true≢false}
use Rattle.raid_base.specs.declared.names.Txn.{Txn}
use Rattle.raid_base.specs.declared.names.Site.{Site}
use Rattle.raid_base.specs.declared.entry.Noted.{Noted}
use Rattle.raid_base.specs.Names.{has_txn}
use Rattle.raid_base.specs.Sites.{site}
use Rattle.raid_workload.specs.declared.workload.Workload.{Workload}
use Rattle.raid_rules.specs.History.{noted, has_begun}
use Rattle.raid_rules.specs.Sessions.{last_session}
use Rattle.raid_legal.specs.Seen.{attempt}
use Rattle.raid_message.specs.declared.letter.Message.{Message}
use Rattle.raid_message.specs.declared.letter.Message.TheVariants as letters
use Rattle.raid_message.specs.declared.letter.Letter.{Letter}
use Rattle.raid_steps.specs.State.{Turn, Running, SiteState}
use Rattle.raid_steps.specs.Programs.{runs_here, next_attempt}
use Rattle.raid_steps.specs.Site as rows
use Rattle.raid_steps.specs.Site.{fits_here, hear_site}
use Rattle.raid_steps.specs.World.{World, link}
use Rattle.raid_moves.specs.Moves.{Ascend}
use Rattle.raid_moves.specs.After.{is_full}
use Rattle.raid_asks.specs.Way.{begins_of}
use Rattle.raid_asks.proofs.Cares.{Stage, stopped, asleep, fresh, awake}
use Rattle.raid_asks.proofs.Least.{Ours, IsFirst, attempt_next}
use Rattle.raid_asks.proofs.Line.{FineAt, CountsAt, NoteOk}
use Rattle.raid_asks.proofs.Notes.{WelcomeOk, Welcoming, IsPlain}
use Rattle.raid_asks.proofs.Waits.{within}
use Rattle.raid_versions.proofs.Owed.{Known}
use Rattle.raid_starts.proofs.Stepping.{Ready, welcomed, running, step_full}
use Rattle.raid_starts.proofs.Sequencer.{at_among}

module _ (w : Workload) (world : World) (known : Known w world) (from clock : ℕ) (letter : Letter) (rest : List Letter) (k : ℕ) (s : SiteState) (at : slice_get world.servers.sites k ≡ Some s) (front : link world.links (k + 2) from ≡ letter ∷ rest) (full : is_full w s ≡ true) where
  abbrev here : Site
  here = site (k + 1)

  abbrev p : List Noted
  p = noted world.servers.sequencer.history

  abbrev m : ℕ
  m = s.session

  abbrev asks : List Letter
  asks = link world.links 1 (k + 2)

  abbrev notes : List Letter
  notes = link world.links (k + 2) 1

  place : s.site ≡ site (k + 1)
  place = (known.says.homes k s at).place

  ascend : Ascend s.running
  ascend = (known.says.homes k s at).ascend

  ours : (t : Txn) → runs_here s t ≡ true → Ours w (site (k + 1)) t
  ours t r = at_among (Ours w here) s.running t (known.says.homes k s at).running r

  notes_are : from ≡ 1 → link world.links (k + 2) 1 ≡ letter ∷ rest
  notes_are of = ap (link world.links (k + 2)) (sym of) ∙ front

  -- as many run as may
  module _ (up : s.up ≡ true) (some : from ≡ 0 → ⊥) where
    ready : from ≡ 1 → (letter.to == s.session) ≡ true → Ready w s from letter up ascend here place full
    ready of meant = go (known.cares k s at).stage
      where
        late : last_session p here < m → ⊥
        late l = (let first = (subst (AllByRecursion (λ (l : Letter). l.to ≤ last_session p here)) (notes_are of) (within w world.servers world.links known.says.reached k s at)).0 in let same = eqb-true letter.to m meant in omega (arith, first, same, l))

        always : (n : ℕ) (a b : Bool) (t : ℕ) → b ≡ not a → (a || b) ≡ (n == 0 || nat_lt t n) → (n == 0 || nat_lt t n) ≡ true
        always n true b t e q = sym q
        always n false b t e q = sym q ∙ e

        fine : CountsAt w here p m rest (begins_of m asks) s.next → (rs : List Running) → AllByRecursion (λ (r : Running). FineAt w here p (begins_of m asks) r.txn) rs → AllByRecursion (λ (r : Running). IsFirst w here r.txn → (s.next == 0 || nat_lt r.txn.0 s.next) ≡ true) rs
        fine c [] a = tt
        fine c (r ∷ rs) a = ((λ f. always s.next (has_begun p r.txn) (has_txn (begins_of m asks) r.txn) r.txn.0 a.0.1 (c.counts.1 r.txn f)), fine c rs a.1)

        from_welcome : (message : Message) → letter.message ≡ message → s.running ≡ [] → WelcomeOk w here m p message rest → Ready w s from letter up ascend here place full
        from_welcome (letters.Welcome v n) is r ok = welcomed v n is ok.1.0.0 r
        from_welcome other is r ok = absurd ok

        plain_not : IsPlain letter.message → (v : List ℕ) (n : ℕ) → letter.message ≡ letters.Welcome v n → ⊥
        plain_not q v n is = subst IsPlain is q

        go : Stage w k p s.up s.session s.running s.next (begins_of s.session asks) notes → Ready w s from letter up ascend here place full
        go (stopped d r n) = absurd (true≢false (sym up ∙ d))
        go (asleep u l r n b) = absurd (late l)
        go (fresh u l r n b e) = elim (subst (Welcoming w here m p) (notes_are of) e) [
          | inl first ↦ from_welcome letter.message refl r first.1
          | inr later ↦ running (plain_not (later.0 meant)) (record { site = place; next = inl n; before = subst (λ rs. AllByRecursion (λ (r : Running). IsFirst w here r.txn → (s.next == 0 || nat_lt r.txn.0 s.next) ≡ true) rs) (sym r) tt })
        ]
        go (awake u l f c) = running (λ v n is. subst (λ x. NoteOk w here p m (begins_of m asks) x rest) is (counts.notes.0 meant)) (record { site = place; next = counts.counts.0; before = fine_left s.running f })
          where
            whole : CountsAt w here p m (letter ∷ rest) (begins_of m asks) s.next
            whole = subst (λ ls. CountsAt w here p m ls (begins_of m asks) s.next) (notes_are of) c

            counts : CountsAt w here p m (letter ∷ rest) (begins_of m asks) s.next
            counts = whole

            fine_left : (rs : List Running) → AllByRecursion (λ (r : Running). FineAt w here p (begins_of m asks) r.txn) rs → AllByRecursion (λ (r : Running). IsFirst w here r.txn → (s.next == 0 || nat_lt r.txn.0 s.next) ≡ true) rs
            fine_left = fine (record { line = whole.line; counts = whole.counts; notes = whole.notes.1 })

    later : (u : Txn) → runs_here s u ≡ true → IsFirst w (site (k + 1)) (next_attempt w u) → ⊥
    later u r f = (let a = eqb-true (attempt w (next_attempt w u)) 0 f.first in let b = attempt_next w u (ours u r).known in omega (arith, a, b))

    full_now : is_full w (hear_site w s from letter).state ≡ true
    full_now = step_full w s from letter up ascend here place full some later ready

  pub own_full : is_full w (hear_site w s from letter).state ≡ true
  own_full = go s.up refl from refl
    where
      stops : (message : Message) → is_full w (rows.stop w s message).state ≡ true
      stops letters.Stop = refl
      stops other = full

      returns : (message : Message) → is_full w (rows.return s message).state ≡ true
      returns letters.Return = full
      returns other = full

      is_up : (i : ℕ) → s.up ≡ true → from ≡ suc i → hear_site w s from letter ≡ rows.hear_up w s (suc i) letter
      is_up i up of = ap (λ b. if b then rows.hear_up w s from letter else rows.hear_down s from letter) up ∙ ap (λ f. rows.hear_up w s f letter) of

      go : (u : Bool) → s.up ≡ u → (f : ℕ) → from ≡ f → is_full w (if u then rows.hear_up w s f letter else rows.hear_down s f letter).state ≡ true
      go true up zero of = stops letter.message
      go true up (suc i) of = subst (λ (turn : Turn SiteState). is_full w turn.state ≡ true) (is_up i up of) (full_now up (λ z. omega (arith, z, of)))
      go false up zero of = returns letter.message
      go false up (suc i) of = full
