-- In every run, each up site comes to the vector of the history.
use Rattle.std.proofs.Common.{◌≡◌, inl, inr, ℕ, zero, suc, ◌+◌, ◌*◌, ◌<◌, ◌≤◌, ◌==◌, nat_le, Bool, true, false, List, [], ◌∷◌, ◌++◌, length, replicate, Some, if◌then◌else◌, arith, sym, subst, ap, ◌∙◌, refl, append-nil}
use Rattle.std.specs.Prelude.{slice_get, slice_index_or}
use Rattle.std.specs.List.{AllByRecursion, list_all}
use Rattle.std.proofs.lemmas.Bool.{and_from, and_parts, eqb-true}
use Rattle.raid_base.specs.declared.names.Site.{Site}
use Rattle.raid_base.specs.declared.entry.Noted.{Noted}
use Rattle.raid_base.specs.Sites.{session, site}
use Rattle.raid_workload.specs.declared.workload.Workload.{Workload}
use Rattle.raid_rules.specs.History.{noted}
use Rattle.raid_rules.specs.Sessions.{last_session}
use Rattle.raid_legal.specs.Seen.{vector}
use Rattle.raid_message.specs.declared.letter.Message.TheVariants as letters
use Rattle.raid_message.specs.declared.letter.Letter.{Letter}
use Rattle.raid_message.specs.declared.letter.Pick.{Pick}
use Rattle.raid_steps.specs.State.{Turn, Sequencer, SiteState, opened}
use Rattle.raid_steps.specs.Fits.{knows_site, knows_vector, is_of_sequencer}
use Rattle.raid_steps.specs.Programs.{following}
use Rattle.raid_steps.specs.Sequencer.{is_hello, hear_sequencer}
use Rattle.raid_steps.specs.World.{World, link, run, open_world, first_letter, first_site, is_idle}
use Rattle.raid_steps.proofs.Parts.{number_known}
use Rattle.raid_sessions.proofs.Agreed.{told_follows, front_asked}
use Rattle.raid_sessions.proofs.Holds.{last_of, IsHeard}
use Rattle.raid_sessions.proofs.Ledger.{opening_session, session_most}
use Rattle.raid_sessions.proofs.Lists.{all_weaken, get_below, get_known, is_same}
use Rattle.raid_sessions.proofs.Mail.{letters_to}
use Rattle.raid_sessions.proofs.Reached.{from_below}
use Rattle.raid_asks.proofs.Least.{following_is, known_txn}
use Rattle.raid_asks.proofs.Reached.{first_state, first_notes}
use Rattle.raid_versions.proofs.Owed.{Known}
use Rattle.raid_versions.proofs.Runs as below
use Rattle.raid_versions.proofs.Steps.{IsOpening, IsKnown, Steps, hear_steps}
use Rattle.raid_vectors.specs.Vectors.{to_come, IsTold, Comes, VectorsCome, VectorsAgree}
use Rattle.raid_vectors.proofs.Along.{steps_keep}
use Rattle.raid_vectors.proofs.Entries.{Fitting, Mid, entries_keep, copies_keep}
use Rattle.raid_vectors.proofs.Frame.{Each, AtSequencer, AtSite, in_runs}
use Rattle.raid_vectors.proofs.Sites.{left_fit, comes_after}

-- where no letter is left
no_length : (ls : List Letter) → (length ls == 0) ≡ true → ls ≡ []
no_length [] q = refl
no_length (l ∷ ls) q = absurd (let e = eqb-true (length (l ∷ ls)) 0 q in omega (arith, e))

all_or : {X : Type 0} (p : X → Bool) (xs : List X) (k : ℕ) (d : X) → list_all p xs ≡ true → p d ≡ true → p (slice_index_or xs k d) ≡ true
all_or p [] k d all q = q
all_or p (x ∷ xs) zero d all q = (and_parts (p x) (list_all p xs) all).0
all_or p (x ∷ xs) (suc k) d all q = all_or p xs k d (and_parts (p x) (list_all p xs) all).1 q

pub idle_link : (state : World) (server from : ℕ) → is_idle state ≡ true → link state.links server from ≡ []
idle_link state server from idle =
    no_length (link state.links server from)
    (all_or (λ (queue : List Letter). length queue == 0) (slice_index_or state.links server []) from []
    (all_or (λ (row : List (List Letter)). list_all (λ (queue : List Letter). length queue == 0) row) state.links server [] idle refl) refl)

-- what is known of a world as the sequencer takes a letter, and of each site
module _ (w : Workload) (world : World) (known : Known w world) where
  abbrev p : List Noted
  p = noted world.servers.sequencer.history

  module _ (k : ℕ) (s : SiteState) (at : slice_get world.servers.sites k ≡ Some s) where
    pub low_at : k < w.sites
    low_at = (let b = get_below world.servers.sites k s at in let long = known.says.reached.long in omega (arith, b, long))

    pub known_at : knows_site w (site (k + 1)) ≡ true
    known_at = number_known w k (let b = low_at in omega (arith, b))

    pub some_at : 1 ≤ s.session
    some_at = (let a = (known.says.reached.ledger.accounts (site (k + 1)) known_at).first in let b = told_follows w world known.says.reached k s at in omega (arith, a, b))

    pub most_at : session (vector w (noted world.servers.sequencer.history)) (site (k + 1)) ≤ last_session (noted world.servers.sequencer.history) (site (k + 1))
    most_at = session_most w world.servers.sequencer.history (site (k + 1)) known.says.reached.ledger known_at

    pub past_at : AllByRecursion (λ (l : Letter). l.to ≤ last_session (noted world.servers.sequencer.history) (site (k + 1))) (link world.links (k + 2) 1)
    past_at = all_weaken (IsHeard w (last_of world.servers.sequencer.history) k) (λ (l : Letter). l.to ≤ last_session p (site (k + 1))) (link world.links (k + 2) 1) (λ l h. h.0) (known.says.reached.heard k low_at)

  module _ (from clock : ℕ) (letter : Letter) (rest : List Letter) (front : link world.links 1 from ≡ letter ∷ rest) where
    low_from : from < w.sites + 2
    low_from = from_below (w.sites + 2) world.links 1 from letter rest known.says.reached.square front

    pub opening : IsOpening w from letter (noted world.servers.sequencer.history)
    opening k of hello =
        let l = known.says.reached.long in
        let low = low_from in
        let own = get_known world.servers.sites k (omega (arith, low, of, l)) in
        let asked = front_asked w world known.says.reached k own.0 own.1 letter rest (ap (link world.links 1) (sym of) ∙ front) ∙ ap (λ b. if b then last_session p (site (k + 1)) + 1 else last_session p (site (k + 1))) (ap is_hello hello) in
        omega (arith, asked)

    pub knowing : IsKnown w from letter (noted world.servers.sequencer.history)
    knowing k of = number_known w k (let low = low_from in omega (arith, low, of))

    pub heard_by_steps : Steps w from letter (noted world.servers.sequencer.history) (opened world.servers.sequencer) (hear_sequencer w world.servers.sequencer from letter)
    heard_by_steps = hear_steps w from letter p opening knowing world.servers.sequencer from refl refl known.says.reached.placed known.says.reached.quiet

module _ (w : Workload) where
  abbrev J : ℕ → List Noted → SiteState → List Letter → List Letter → Type 0
  J k p s asks notes = AllByRecursion (Fitting w k) notes × (IsTold w p k s → Comes w p k s notes)

  same_long : (n : ℕ) → length {A = ℕ} (replicate n 1) ≡ n
  same_long zero = refl
  same_long (suc n) = ap suc (same_long n)

  small : (a most : ℕ) → a < 1 + most → nat_le a most ≡ true
  small a most z = grind (arith, z)

  least : (a most : ℕ) → a ≡ 0 → nat_le a most ≡ true
  least a most z = grind (arith, z)

  -- at the start each site's Welcome is on its way
  opens_at : (k : ℕ) → knows_site w (site (k + 1)) ≡ true → J k [] (first_site w (site (k + 1))) [] (first_letter w (site (k + 1)) ∷ [])
  opens_at k known = (((fits, one), tt), λ t. record { comes = refl; welcomed = inr (inl (refl, one)) })
    where
      one : session (replicate w.sites 1) (site (k + 1)) ≡ 1
      one = opening_session w (site (k + 1)) known

      few : nat_le (following w (site (k + 1)) 0) (length w.programs * (w.restarts + 1)) ≡ true
      few = elim (following_is w (site (k + 1)) 0).0 [
        | inl none ↦ least (following w (site (k + 1)) 0) (length w.programs * (w.restarts + 1)) none
        | inr found ↦ small (following w (site (k + 1)) 0) (length w.programs * (w.restarts + 1)) (known_txn w (record { 0 = following w (site (k + 1)) 0 }) found.1.ours.known).1
      ]

      fits : is_of_sequencer w (letters.Welcome (replicate w.sites 1) (following w (site (k + 1)) 0)) ≡ true
      fits = and_from (knows_vector w (replicate w.sites 1)) (nat_le (following w (site (k + 1)) 0) (length w.programs * (w.restarts + 1))) (is_same (length {A = ℕ} (replicate w.sites 1)) w.sites (same_long w.sites)) few

  opens : (known : (k : ℕ) (s : SiteState) → slice_get (open_world w).servers.sites k ≡ Some s → knows_site w (site (k + 1)) ≡ true) → Each w J (open_world w).servers (open_world w).links
  opens known k s q =
      let place : site (1 + k) ≡ site (k + 1) = ap site (let e : 1 + k ≡ k + 1 = omega arith in e) in
      let notes = ap (λ c. link (open_world w).links c 1) (server k) ∙ first_notes w 1 w.sites k s q ∙ ap (λ s. first_letter w s ∷ []) place in
      let one = ap (first_site w) (sym place) ∙ first_state w 1 w.sites k s q in
      let start = opens_at k (known k s q) in
      subst (λ ls. J k [] s (link (open_world w).links 1 (k + 2)) ls) (sym notes)
      (subst (λ x. J k [] x (link (open_world w).links 1 (k + 2)) (first_letter w (site (k + 1)) ∷ [])) one start)
    where
      server : (k : ℕ) → k + 2 ≡ suc (suc k)
      server k = omega arith

  sequencer : AtSequencer w J
  sequencer world known from clock letter rest front k s at j = (after.fits, after.comes)
    where
      p : List Noted
      p = noted world.servers.sequencer.history

      notes : List Letter
      notes = link world.links (k + 2) 1

      turn : Turn Sequencer
      turn = hear_sequencer w world.servers.sequencer from letter

      before : Mid w k s (noted world.servers.sequencer.history) (link world.links (k + 2) 1 ++ [])
      before = subst (Mid w k s p) (sym (append-nil notes)) (record { long = known.says.reached.ledger.long; most = most_at w world known k s at; past = past_at w world known k s at; fits = j.0; comes = j.1 })

      after : Mid w k s (noted (hear_sequencer w world.servers.sequencer from letter).state.history) (link world.links (k + 2) 1 ++ letters_to (k + 2) 0 clock (hear_sequencer w world.servers.sequencer from letter).outs)
      after = steps_keep w from letter p k clock (Mid w k s) notes
          (entries_keep w k s from clock letter p (low_at w world known k s at) (some_at w world known k s at)) (copies_keep w k s from clock letter p (low_at w world known k s at) (some_at w world known k s at))
          (opened world.servers.sequencer) turn (heard_by_steps w world known from clock letter rest front) before

  own : AtSite w J
  own world known from clock letter rest k s at front j = (left_fit w world known from clock letter rest k s at front j.0, comes_after w world known from clock letter rest k s at front j.0 j.1)

  come : (schedule : List Pick) → Each w J (run w schedule).servers (run w schedule).links
  come = in_runs w J sequencer own (opens (λ k s q. known_at w (open_world w) (below.known w []) k s q))

  pub runs_come : (schedule : List Pick) → VectorsCome w (run w schedule)
  runs_come schedule k s at told = (come schedule k s at).1 told

  pub runs_agree : (schedule : List Pick) → is_idle (run w schedule) ≡ true → VectorsAgree w (run w schedule)
  runs_agree schedule idle k s at told = sym (ap (to_come s.session s.vector) (idle_link (run w schedule) (k + 2) 1 idle)) ∙ (runs_come schedule k s at told).comes
