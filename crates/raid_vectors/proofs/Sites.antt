-- A site's own step keeps what comes to its vector: it takes up what it is told.
use Rattle.std.proofs.Common.{◌≡◌, ◌⊎◌, inl, inr, ℕ, zero, suc, ◌+◌, ◌-◌, ◌≤◌, ◌<◌, ◌==◌, nat_le, Bool, true, false, ◌&&◌, List, [], ◌∷◌, ◌++◌, length, Some, if◌then◌else◌, arith, sym, subst, ap, ◌∙◌, refl}
use Rattle.std.specs.Prelude.{slice_get}
use Rattle.std.specs.List.{AllByRecursion}
use Rattle.std.proofs.lemmas.Bool.{and_from, eqb-true, true≢false}
use Rattle.raid_base.specs.declared.names.Site.{Site}
use Rattle.raid_base.specs.declared.entry.Noted.{Noted}
use Rattle.raid_base.specs.Sites.{session, site}
use Rattle.raid_workload.specs.declared.workload.Workload.{Workload}
use Rattle.raid_rules.specs.History.{noted}
use Rattle.raid_rules.specs.Sessions.{last_session, with_session}
use Rattle.raid_program.specs.Run.{put}
use Rattle.raid_legal.specs.Seen.{vector}
use Rattle.raid_message.specs.declared.letter.Message.{Message}
use Rattle.raid_message.specs.declared.letter.Message.TheVariants as letters
use Rattle.raid_message.specs.declared.letter.Letter.{Letter}
use Rattle.raid_steps.specs.State.{Turn, SiteState, opened, tell}
use Rattle.raid_steps.specs.Fits.{knows_site, is_of_sequencer}
use Rattle.raid_steps.specs.Programs.{next_attempt}
use Rattle.raid_steps.specs.Site as rows
use Rattle.raid_steps.specs.World.{World, link}
use Rattle.raid_steps.proofs.Parts.{number_known}
use Rattle.raid_sessions.proofs.Agreed.{told_follows}
use Rattle.raid_sessions.proofs.Ledger.{session_most}
use Rattle.raid_sessions.proofs.Lists.{get_below, is_same, apart, index_other, within}
use Rattle.raid_sessions.proofs.Site.{SiteStep, site_step}
use Rattle.raid_sessions.proofs.Site as steps
use Rattle.raid_asks.proofs.Cares.{Stage, stopped, asleep, fresh, awake, no_welcome}
use Rattle.raid_asks.proofs.Line.{Notes}
use Rattle.raid_asks.specs.Way.{begins_of as begins}
use Rattle.raid_moves.specs.Moves.{Row, Idle, Given, Tells, Reached, drops}
use Rattle.raid_moves.specs.Moves as parts
use Rattle.raid_moves.proofs.Left.{goes_leave, moves_leave}
use Rattle.raid_moves.proofs.Steps.{site_moves}
use Rattle.raid_versions.proofs.Owed.{Known}
use Rattle.raid_vectors.specs.Vectors.{told_by, to_come, IsTold, IsWelcome, WelcomeFirst, Comes}
use Rattle.raid_vectors.proofs.Entries.{Fitting, FitsNote}

module _ (w : Workload) (k : ℕ) (s : SiteState) (from : ℕ) (letter : Letter) where
  -- the vector after the letter was heard
  abbrev heard : List ℕ
  heard = if (from == 1) && (letter.to == s.session) then told_by s.vector letter.message else s.vector

  tell_is : {m : Message} → Tells w s from letter m → heard ≡ told_by s.vector m
  tell_is t =
      ap (λ b. if b && (letter.to == s.session) then told_by s.vector letter.message else s.vector) (is_same from 1 t.by)
      ∙ ap (λ b. if b then told_by s.vector letter.message else s.vector) t.heard.meant ∙ ap (told_by s.vector) t.is

  other_is : (from == 1) ≡ false → heard ≡ s.vector
  other_is q = ap (λ b. if b && (letter.to == s.session) then told_by s.vector letter.message else s.vector) q

  peer : {i : ℕ} → from ≡ suc (suc i) → (from == 1) ≡ false
  peer {i} q = grind (arith, q)

  monitor : from ≡ 0 → (from == 1) ≡ false
  monitor q = grind (arith, q)

  given_is : {t : _} {n : _} {v : _} → Given w s from letter t n v → heard ≡ s.vector
  given_is (parts.read_here x h n c m q i) = tell_is m
  given_is (parts.read_elsewhere i v says) = other_is (peer says.by)

  module _ (up : s.up ≡ true) (fits : from ≡ 1 → Fitting w k letter) (empty : (v : List ℕ) (next : ℕ) → from ≡ 1 → (letter.to == s.session) ≡ true → letter.message ≡ letters.Welcome v next → (length s.running == 0) ≡ true) where
    unfit_is : from ≡ 1 → (letter.to == s.session) ≡ true → (is_of_sequencer w letter.message && rows.fits_here w s letter.message) ≡ false → told_by s.vector letter.message ≡ s.vector
    unfit_is by meant bad = go letter.message (fits by) refl bad
      where
        go : (m : Message) → FitsNote w k letter.to m → letter.message ≡ m → (is_of_sequencer w m && rows.fits_here w s m) ≡ false → told_by s.vector m ≡ s.vector
        go (letters.Welcome v next) fit is bad = absurd (true≢false (sym (and_from (is_of_sequencer w (letters.Welcome v next)) (length s.running == 0) fit.0 (empty v next by meant is)) ∙ bad))
        go (letters.DownNote r) fit is bad = absurd (true≢false (sym (and_from (knows_site w r) true fit.0 refl) ∙ bad))
        go (letters.UpNote r n) fit is bad = absurd (true≢false (sym (and_from (knows_site w r) true fit.0 refl) ∙ bad))
        go other fit is bad = refl

    hears_is : from ≡ 1 → (letter.to == s.session) ≡ true → heard ≡ told_by s.vector letter.message
    hears_is by meant =
        ap (λ b. if b && (letter.to == s.session) then told_by s.vector letter.message else s.vector) (is_same from 1 by)
        ∙ ap (λ b. if b then told_by s.vector letter.message else s.vector) meant

    idle_is : Idle w s from letter → heard ≡ s.vector
    idle_is (parts.down i u f) = absurd (true≢false (sym up ∙ u))
    idle_is (parts.stays_down u f n) = absurd (true≢false (sym up ∙ u))
    idle_is (parts.stays_up u f n) = other_is (monitor f)
    idle_is (parts.late u f to) =
        ap (λ b. if b && (letter.to == s.session) then told_by s.vector letter.message else s.vector) (is_same from 1 f)
        ∙ ap (λ b. if b then told_by s.vector letter.message else s.vector) to
    idle_is (parts.late_peer i u f to n) = other_is (peer f)
    idle_is (parts.unfit h f bad) = hears_is f h.meant ∙ unfit_is f h.meant bad
    idle_is (parts.unfit_peer i h f bad) = other_is (peer f)
    idle_is (parts.unasked t n v g none) = given_is g
    idle_is (parts.unserved t n z m none) = tell_is m
    idle_is (parts.refused i t named own says) = other_is (peer says.by)
    idle_is (parts.outdated i t says q) = other_is (peer says.by)
    idle_is (parts.uncounted i t says none) = other_is (peer says.by)
    idle_is (parts.older i x v version c says q o) = other_is (peer says.by)

    row_is : {after : Turn SiteState} → Row w s from letter after → after.state.up ≡ true → after.state.vector ≡ heard
    row_is (parts.halts u f m) after = absurd (true≢false (sym after))
    row_is (parts.returns u f m) after = absurd (true≢false (sym up ∙ u))
    row_is (parts.refuses i t writes u f l m) after = sym (other_is (peer f))
    row_is (parts.idle i) after = sym (idle_is i)
    row_is (parts.welcomed v n m) after = sym (tell_is m)
    row_is (parts.served t n x h z c m q i) after = sym (tell_is m)
    row_is (parts.notes r n x q z f e m) after = sym (tell_is m)
    row_is (parts.applied t number ps m q) after = sym (tell_is m)
    row_is (parts.over t m) after = sym (tell_is m)
    row_is (parts.dropped t again m q) after = sym (tell_is m)
    row_is (parts.retried t m q g) after = (goes_leave w (tell (drops s t) (letters.Begin (next_attempt w t))) (parts.fresh (next_attempt w t)) g).vector ∙ sym (tell_is m)
    row_is (parts.falls z m) after = sym (tell_is m)
    row_is (parts.rises z n m) after = sym (tell_is m)
    row_is (parts.copies x target n c m q) after = sym (tell_is m)
    row_is (parts.staged i t writes m) after = sym (other_is (peer m.by))
    row_is (parts.counts i r read writes awaited f e m q) after = sym (other_is (peer m.by))
    row_is (parts.renewed i x v version c m q l) after = sym (other_is (peer m.by))
    row_is (parts.given r n x q v f e m g) after = (goes_leave w (opened s) (record r { answers = put r.answers x v }) g).vector ∙ sym (given_is m)

    step_is : parts.Ascend s.running → (rows.hear_site w s from letter).state.up ≡ true → (rows.hear_site w s from letter).state.vector ≡ heard
    step_is ascend still_up = go (site_moves w s from letter ascend)
      where
        go : Reached w s from letter (rows.hear_site w s from letter) → (rows.hear_site w s from letter).state.vector ≡ heard
        go (after, (row, chain)) = (let l = moves_leave w s from letter chain in l.vector ∙ row_is row (sym l.up ∙ still_up))

module _ (w : Workload) (world : World) (known : Known w world) (from clock : ℕ) (letter : Letter) (rest : List Letter) (k : ℕ) (s : SiteState) (at : slice_get world.servers.sites k ≡ Some s) (front : link world.links (k + 2) from ≡ letter ∷ rest) where
  abbrev p : List Noted
  p = noted world.servers.sequencer.history

  abbrev notes : List Letter
  notes = link world.links (k + 2) 1

  abbrev turn : Turn SiteState
  turn = rows.hear_site w s from letter

  notes_are : from ≡ 1 → link world.links (k + 2) 1 ≡ letter ∷ rest
  notes_are of = ap (link world.links (k + 2)) (sym of) ∙ front

  known_here : knows_site w (site (k + 1)) ≡ true
  known_here = number_known w k (let b = get_below world.servers.sites k s at in let long = known.says.reached.long in omega (arith, b, long))

  most : session (vector w (noted world.servers.sequencer.history)) (site (k + 1)) ≤ last_session (noted world.servers.sequencer.history) (site (k + 1))
  most = session_most w world.servers.sequencer.history (site (k + 1)) known.says.reached.ledger known_here

  -- nothing runs where the Welcome is heard
  module _ (told : IsTold w p k s) where
    empty_at : (v : List ℕ) (next : ℕ) → from ≡ 1 → (letter.to == s.session) ≡ true → letter.message ≡ letters.Welcome v next → (length s.running == 0) ≡ true
    empty_at v next by meant is = go (known.cares k s at).stage
      where
        go : Stage w k p s.up s.session s.running s.next (begins s.session (link world.links 1 (k + 2))) (link world.links (k + 2) 1) → (length s.running == 0) ≡ true
        go (stopped d r n) = absurd (true≢false (sym told.up ∙ d))
        go (asleep u l r n b) = absurd (let a = most in let t = told.told in omega (arith, a, t, l))
        go (fresh u l r n b e) = ap (λ rs. length rs == 0) r
        go (awake u l f c) =
            let ns = subst (λ ls. Notes w (site (k + 1)) p s.session (begins s.session (link world.links 1 (k + 2))) ls) (notes_are by) c.notes in
            absurd (no_welcome w k p s (known.says.homes k s at).place (known.says.homes k s at).ascend s.session refl (begins s.session (link world.links 1 (k + 2))) rest letter.message rest v next is (ns.0 meant))

  abbrev pub Fit : List Letter → Type 0
  Fit ls = AllByRecursion (Fitting w k) ls

  -- what is left of the notes
  pub left_fit : Fit (link world.links (k + 2) 1) → Fit (if from == 1 then rest else link world.links (k + 2) 1)
  left_fit fit = go (from == 1) refl
    where
      go : (b : Bool) → (from == 1) ≡ b → Fit (if b then rest else link world.links (k + 2) 1)
      go true q = (subst (AllByRecursion (Fitting w k)) (notes_are (eqb-true from 1 q)) fit).1
      go false q = fit

  module _ (fit : AllByRecursion (Fitting w k) (link world.links (k + 2) 1)) where
    front_fit : from ≡ 1 → Fitting w k letter
    front_fit of = (subst (AllByRecursion (Fitting w k)) (notes_are of) fit).0

    -- a message leaves the site its own session in the vector, or gives it
    keeps_own : from ≡ 1 → letter.to ≡ s.session → session s.vector (site (k + 1)) ≡ s.session → session (told_by s.vector letter.message) (site (k + 1)) ≡ s.session
    keeps_own of to own = go letter.message (front_fit of)
      where
        others : (r : Site) (n : ℕ) → (knows_site w r ≡ true) × ((r.0 == k + 1) ≡ false) → session (with_session s.vector r n) (site (k + 1)) ≡ s.session
        others r n both = index_other s.vector (r.0 - 1) (k + 1 - 1) n (apart r.0 (k + 1) both.1 (within w.sites r.0 both.0).0 (omega arith)) ∙ own

        go : (m : Message) → FitsNote w k letter.to m → session (told_by s.vector m) (site (k + 1)) ≡ s.session
        go (letters.Welcome v next) f = f.1 ∙ to
        go (letters.DownNote r) f = others r 0 f
        go (letters.UpNote r n) f = others r n f
        go other f = own

    gives_own : IsWelcome (site (k + 1)) s.session letter.message → session (told_by s.vector letter.message) (site (k + 1)) ≡ s.session
    gives_own = go letter.message
      where
        go : (m : Message) → IsWelcome (site (k + 1)) s.session m → session (told_by s.vector m) (site (k + 1)) ≡ s.session
        go (letters.Welcome v next) f = f
        go other f = absurd f

    -- what the site hears, it takes up
    taken : (b : Bool) → (from == 1) ≡ b → (c : Bool) → (letter.to == s.session) ≡ c → Comes w p k s (link world.links (k + 2) 1) →
        (to_come s.session (if b && c then told_by s.vector letter.message else s.vector) (if b then rest else link world.links (k + 2) 1) ≡ vector w p)
        × ((session (if b && c then told_by s.vector letter.message else s.vector) (site (k + 1)) ≡ s.session) ⊎ WelcomeFirst (site (k + 1)) s.session (if b then rest else link world.links (k + 2) 1))
    taken false q c r old = (old.comes, old.welcomed)
    taken true q true r old =
        (sym (ap (λ d. to_come s.session (if d then told_by s.vector letter.message else s.vector) rest) r) ∙ sym (ap (to_come s.session s.vector) (notes_are of)) ∙ old.comes, inl own)
      where
        of : from ≡ 1
        of = eqb-true from 1 q

        first : WelcomeFirst (site (k + 1)) s.session (letter ∷ rest) → session (told_by s.vector letter.message) (site (k + 1)) ≡ s.session
        first (inl f) = gives_own f.1
        first (inr f) = absurd (true≢false (sym r ∙ f.0))

        own : session (told_by s.vector letter.message) (site (k + 1)) ≡ s.session
        own = elim old.welcomed [
          | inl a ↦ keeps_own (eqb-true from 1 q) (eqb-true letter.to s.session r) a
          | inr a ↦ first (subst (WelcomeFirst (site (k + 1)) s.session) (notes_are (eqb-true from 1 q)) a)
        ]
    taken true q false r old =
        (sym (ap (λ d. to_come s.session (if d then told_by s.vector letter.message else s.vector) rest) r) ∙ sym (ap (to_come s.session s.vector) (notes_are (eqb-true from 1 q))) ∙ old.comes, welcomed)
      where
        later : WelcomeFirst (site (k + 1)) s.session (letter ∷ rest) → WelcomeFirst (site (k + 1)) s.session rest
        later (inl f) = absurd (true≢false (sym (is_same letter.to s.session f.0) ∙ r))
        later (inr f) = f.1

        welcomed : (session s.vector (site (k + 1)) ≡ s.session) ⊎ WelcomeFirst (site (k + 1)) s.session rest
        welcomed = elim old.welcomed [
          | inl a ↦ inl a
          | inr a ↦ inr (later (subst (WelcomeFirst (site (k + 1)) s.session) (notes_are (eqb-true from 1 q)) a))
        ]

    -- the site's step
    pub comes_after : (IsTold w p k s → Comes w p k s (link world.links (k + 2) 1)) → IsTold w p k (rows.hear_site w s from letter).state → Comes w p k (rows.hear_site w s from letter).state (if from == 1 then rest else link world.links (k + 2) 1)
    comes_after old told = go (site_step w s from letter)
      where
        go : SiteStep s from letter (rows.hear_site w s from letter) → Comes w p k (rows.hear_site w s from letter).state (if from == 1 then rest else link world.links (k + 2) 1)
        go (steps.stops t) = absurd (true≢false (sym told.up ∙ t.after))
        go (steps.returns t) = absurd (let a = most in let b = told_follows w world known.says.reached k s at in let c = told.told in let d = t.session in omega (arith, a, b, c, d))
        go (steps.stays t) = record {
          comes = ap (λ n. to_come n turn.state.vector left) t.1 ∙ ap (λ v. to_come s.session v left) vector_is ∙ both.0;
          welcomed = subst (λ v. (session v (site (k + 1)) ≡ turn.state.session) ⊎ WelcomeFirst (site (k + 1)) turn.state.session left) (sym vector_is)
              (subst (λ n. (session (heard w k s from letter) (site (k + 1)) ≡ n) ⊎ WelcomeFirst (site (k + 1)) n left) (sym t.1) both.1);
        }
          where
            left : List Letter
            left = if from == 1 then rest else link world.links (k + 2) 1

            was : IsTold w (noted world.servers.sequencer.history) k s
            was = record { up = sym t.0 ∙ told.up; told = told.told ∙ t.1 }

            vector_is : (rows.hear_site w s from letter).state.vector ≡ (if (from == 1) && (letter.to == s.session) then told_by s.vector letter.message else s.vector)
            vector_is = step_is w k s from letter was.up front_fit (empty_at was) (known.says.homes k s at).ascend told.up

            both : (to_come s.session (if (from == 1) && (letter.to == s.session) then told_by s.vector letter.message else s.vector) (if from == 1 then rest else link world.links (k + 2) 1) ≡ vector w (noted world.servers.sequencer.history))
                × ((session (if (from == 1) && (letter.to == s.session) then told_by s.vector letter.message else s.vector) (site (k + 1)) ≡ s.session) ⊎ WelcomeFirst (site (k + 1)) s.session (if from == 1 then rest else link world.links (k + 2) 1))
            both = taken (from == 1) refl (letter.to == s.session) refl (old was)
