-- A site's own step keeps what comes to it.
use Rattle.std.proofs.Common.{◌≡◌, ◌⊎◌, inl, inr, ℕ, zero, suc, ◌+◌, ◌-◌, ◌*◌, ◌<◌, ◌≤◌, ◌==◌, nat_le, Bool, true, false, not, ◌&&◌, ◌||◌, List, [], ◌∷◌, ◌++◌, length, Some, if◌then◌else◌, arith, sym, subst, ap, ◌∙◌, refl, append-nil}
use Rattle.std.specs.Prelude.{slice_get}
use Rattle.std.specs.List.{AllByRecursion}
use Rattle.std.proofs.lemmas.Bool.{and_from, and_parts, eqb-true, true≢false}
use Rattle.std.proofs.lemmas.Grind.{common_steps}
use Rattle.std.proofs.lemmas.List.Folds.{list_any-append}
use Rattle.raid_base.specs.declared.names.Txn.{Txn}
use Rattle.raid_base.specs.declared.names.Site.{Site}
use Rattle.raid_base.specs.declared.entry.Noted.{Noted}
use Rattle.raid_base.specs.Names.{is_txn, is_site, has_txn}
use Rattle.raid_base.specs.Sites.{session, site}
use Rattle.raid_workload.specs.declared.workload.Workload.{Workload}
use Rattle.raid_workload.specs.Parts.{home}
use Rattle.raid_rules.specs.History.{noted, has_begun, has_ended, has_committed, is_running}
use Rattle.raid_rules.proofs.Push.{same_txn}
use Rattle.raid_rules.proofs.Txns.{not_true}
use Rattle.raid_legal.specs.Seen.{attempt, again, previous, vector}
use Rattle.raid_message.specs.declared.letter.Message.{Message}
use Rattle.raid_message.specs.declared.letter.Message.TheVariants as letters
use Rattle.raid_message.specs.declared.letter.Letter.{Letter}
use Rattle.raid_steps.specs.State.{Turn, SiteState}
use Rattle.raid_steps.specs.Fits.{knows_txn, is_of_sequencer}
use Rattle.raid_steps.specs.Programs.{runs_here, next_attempt}
use Rattle.raid_steps.specs.Site as rows
use Rattle.raid_steps.specs.Site.{fits_here, hear_site}
use Rattle.raid_steps.specs.World.{World, link}
use Rattle.raid_sessions.proofs.Agreed as agreed
use Rattle.raid_sessions.proofs.Lists.{get_below, get_set, is_same, same_self}
use Rattle.raid_sessions.proofs.Mail.{letters_to, moved, moved_sent}
use Rattle.raid_sessions.proofs.Reached.{from_below}
use Rattle.raid_sessions.proofs.Site.{hears_server}
use Rattle.raid_moves.specs.Moves.{Ascend}
use Rattle.raid_asks.specs.Own.{IsOf}
use Rattle.raid_asks.specs.Way.{begins_of}
use Rattle.raid_asks.proofs.Cares.{Stage, stopped, asleep, fresh, awake, Cares, begins_append, begins_told}
use Rattle.raid_asks.proofs.Facts.{or_left, or_right, or_parts, again_aborted}
use Rattle.raid_asks.proofs.Homes as homes
use Rattle.raid_asks.proofs.Least.{txn, Ours, known_txn}
use Rattle.raid_asks.proofs.Line.{FineAt, Due, line_due}
use Rattle.raid_asks.proofs.Programs.{told}
use Rattle.raid_asks.proofs.Waits.{site_waits}
use Rattle.raid_letters.specs.Says.{NoteSays, IsBefore, AreInTurn}
use Rattle.raid_letters.proofs.Runs.{QueueSays}
use Rattle.raid_layers.proofs.Histories.{committed_ended, fresh_unended}
use Rattle.raid_placed.proofs.Orderly.{placed_whole}
use Rattle.raid_staged.proofs.Ends.{aborted_ended, placed_once}
use Rattle.raid_versions.proofs.Owed.{Known}
use Rattle.raid_vectors.specs.Vectors.{IsTold}
use Rattle.raid_vectors.proofs.Runs.{low_at, most_at}
use Rattle.raid_witness.proofs.Sites.{step_stays}
use Rattle.raid_starts.specs.Starts.{retries, ends, is_coming}
use Rattle.raid_starts.proofs.Filling.{found_among}
use Rattle.raid_starts.proofs.Full.{own_full}
use Rattle.raid_starts.proofs.Stepping.{over, Stepped, stepped, retried}
use Rattle.raid_starts.proofs.Coming.{Good, Coming}
use Rattle.raid_starts.proofs.Sequencer.{at_among, none_among}

other_way : (a b : ℕ) → (a == b) ≡ true → (b == a) ≡ true
other_way a b e = grind (arith, e)

-- what is dropped, or done, is over
retry_ends : (t : Txn) (m : Message) → retries t m ≡ true → m ≡ letters.Drop t true
retry_ends t (letters.Drop u again) q = (let both = and_parts again (is_txn t u) q in go again both.0 (same_txn u t both.1))
  where
    go : (b : Bool) → b ≡ true → u ≡ t → letters.Drop u b ≡ letters.Drop t true
    go true e same = ap (λ z. letters.Drop z true) same
    go false e same = absurd (true≢false (sym e))
retry_ends t other q = absurd (true≢false (sym q))

-- of the letters that are behind one
behind_all : {P : Letter → Type 0} (m : ℕ) (test : Message → Bool) (ls : List Letter) → AllByRecursion P ls → is_coming test m ls ≡ true → (l : Letter) × (P l × (test l.message ≡ true))
behind_all m test [] a q = absurd (true≢false (sym q))
behind_all m test (l ∷ ls) a q = elim (or_parts (l.to == m && test l.message) (is_coming test m ls) q) [
  | inl here ↦ (l, (a.0, (and_parts (l.to == m) (test l.message) here).1))
  | inr more ↦ behind_all m test ls a.1 more
]

module _ (w : Workload) (world : World) (known : Known w world) (from clock : ℕ) (letter : Letter) (rest : List Letter) (k : ℕ) (s : SiteState) (at : slice_get world.servers.sites k ≡ Some s) (front : link world.links (k + 2) from ≡ letter ∷ rest)
    (j : Coming w k (noted world.servers.sequencer.history) s (link world.links 1 (k + 2)) (link world.links (k + 2) 1)) where
  abbrev here : Site
  here = site (k + 1)

  abbrev p : List Noted
  p = noted world.servers.sequencer.history

  abbrev m : ℕ
  m = s.session

  abbrev asks : List Letter
  asks = link world.links 1 (k + 2)

  abbrev notes : List Letter
  notes = link world.links (k + 2) 1

  abbrev turn : Turn SiteState
  turn = hear_site w s from letter

  abbrev left : List Letter
  left = if from == 1 then rest else link world.links (k + 2) 1

  place : s.site ≡ site (k + 1)
  place = (known.says.homes k s at).place

  ascend : Ascend s.running
  ascend = (known.says.homes k s at).ascend

  ours : (t : Txn) → runs_here s t ≡ true → Ours w (site (k + 1)) t
  ours t r = at_among (Ours w here) s.running t (known.says.homes k s at).running r

  -- its letter of the sequencer
  module _ (of : from ≡ 1) where
    notes_are : link world.links (k + 2) 1 ≡ letter ∷ rest
    notes_are = ap (link world.links (k + 2)) (sym of) ∙ front

    note : NoteSays w (noted world.servers.sequencer.history) (site (k + 1)) letter.to letter.message
    note = subst (λ z. NoteSays w p (site z) letter.to letter.message) (let e : k + 2 - 1 ≡ k + 1 = omega arith in e) (subst (QueueSays w p (k + 2) 1) notes_are (known.says.says (k + 2) 1)).0

    ended_by : (t : Txn) → ends t letter.message ≡ true → has_ended (noted world.servers.sequencer.history) t ≡ true
    ended_by t e = go letter.message note e
      where
        go : (message : Message) → NoteSays w p here letter.to message → ends t message ≡ true → has_ended p t ≡ true
        go (letters.Done u) says e = subst (λ z. has_ended p z ≡ true) (same_txn u t e) (committed_ended p u says.0)
        go (letters.Drop u again) says e = subst (λ z. has_ended p z ≡ true) (same_txn u t e) (aborted_ended p u says)
        go other says e = absurd (true≢false (sym e))

    -- it fits where it ends one of the site's own
    fit : (t : Txn) → ends t letter.message ≡ true → runs_here s t ≡ true → (is_of_sequencer w letter.message && fits_here w s letter.message) ≡ true
    fit t e r = go letter.message e (subst (λ ls. homes.AreTold w here ls) notes_are (known.says.homes k s at).notes).0
      where
        knows : knows_txn w t ≡ true
        knows = (let range = known_txn w t (ours t r).known in numbers t.0 range.0 range.1)
          where
            numbers : (a : ℕ) → 1 ≤ a → a < 1 + length w.programs * (w.restarts + 1) → (nat_le 1 a && nat_le a (length w.programs * (w.restarts + 1))) ≡ true
            numbers a l g = grind (arith, common_steps, l, g)

        below : (a b : ℕ) → a < b → not (a == b) ≡ true
        below a b l = grind (arith, common_steps, l)

        go : (message : Message) → ends t message ≡ true → homes.IsTold w here message → (is_of_sequencer w message && fits_here w s message) ≡ true
        go (letters.Done u) e more = and_from (knows_txn w u) true (subst (λ z. knows_txn w z ≡ true) (sym (same_txn u t e)) knows) refl
        go (letters.Drop u true) e more = and_from (knows_txn w u) (not (attempt w u == w.restarts)) (subst (λ z. knows_txn w z ≡ true) (sym (same_txn u t e)) knows) (below (attempt w u) w.restarts more)
        go (letters.Drop u false) e more = and_from (knows_txn w u) true (subst (λ z. knows_txn w z ≡ true) (sym (same_txn u t e)) knows) refl
        go other e more = absurd (true≢false (sym e))

  over_parts : (t : Txn) → over w s from letter t ≡ true → (from ≡ 1) × (((letter.to == m) ≡ true) × (ends t letter.message ≡ true))
  over_parts t o = (let both = and_parts (from == 1 && letter.to == m) (ends t letter.message) o in let two = and_parts (from == 1) (letter.to == m) both.0 in (eqb-true from 1 two.0, (two.1, both.1)))

  over_ended : (t : Txn) → over w s from letter t ≡ true → has_ended (noted world.servers.sequencer.history) t ≡ true
  over_ended t o = (let q = over_parts t o in ended_by q.0 t q.1.1)

  -- who hasn't begun hasn't ended
  new_unended : (t : Txn) → has_begun (noted world.servers.sequencer.history) t ≡ false → has_ended (noted world.servers.sequencer.history) t ≡ false
  new_unended t new = fresh_unended p (placed_whole w world.servers.sequencer.history known.says.reached.placed) t new

  -- what holds of the site in its session, as it hears a server
  module _ (up : s.up ≡ true) (some : from ≡ 0 → ⊥) (told_at : session (vector w (noted world.servers.sequencer.history)) (site (k + 1)) ≡ s.session) (up_same : (hear_site w s from letter).state.up ≡ s.up) (session_same : (hear_site w s from letter).state.session ≡ s.session) where
    good : Good w p k s asks notes
    good = j.good (record { up = up; told = told_at })

    abbrev now : SiteState
    now = (hear_site w s from letter).state

    abbrev more : List Letter
    more = link world.links 1 (k + 2) ++ letters_to 1 s.session clock (hear_site w s from letter).outs

    step : Stepped w s from letter (hear_site w s from letter)
    step = stepped w s from letter up ascend some (λ t o r. (let q = over_parts t o in fit q.0 t q.1.1 r))

    -- what the site has on its way after it
    begins_are : begins_of s.session more ≡ begins_of s.session (link world.links 1 (k + 2)) ++ told (hear_site w s from letter).outs
    begins_are = begins_append m asks (letters_to 1 m clock turn.outs) ∙ ap (λ ts. begins_of m asks ++ ts) (begins_told m clock turn.outs)

    abbrev after : List (List (List Letter))
    after = moved world.links (k + 2) from (hear_site w s from letter).state.session clock rest (hear_site w s from letter).outs

    room : k + 2 < w.sites + 2
    room = (let b = low_at w world known k s at in omega (arith, b))

    cares : Cares w k (noted world.servers.sequencer.history) (hear_site w s from letter).state (link (moved world.links (k + 2) from (hear_site w s from letter).state.session clock rest (hear_site w s from letter).outs) 1 (k + 2))
        (link (moved world.links (k + 2) from (hear_site w s from letter).state.session clock rest (hear_site w s from letter).outs) (k + 2) 1)
    cares = site_waits w world.servers world.links from clock letter rest (from_below (w.sites + 2) world.links (k + 2) from letter rest known.says.reached.square front) known.says.reached known.says.homes known.cares k front s at
        k turn.state (get_set world.servers.sites k turn.state (get_below world.servers.sites k s at))

    ways : begins_of (hear_site w s from letter).state.session (link (moved world.links (k + 2) from (hear_site w s from letter).state.session clock rest (hear_site w s from letter).outs) 1 (k + 2)) ≡ begins_of s.session more
    ways = ap (begins_of now.session) (moved_sent (w.sites + 2) world.links (k + 2) from now.session clock rest turn.outs known.says.reached.square room 1 (omega arith) (λ q. omega (arith, q)))
        ∙ ap (λ n. begins_of n (asks ++ letters_to 1 n clock turn.outs)) session_same

    way_new : (t : Txn) → has_txn (begins_of s.session more) t ≡ true → has_begun (noted world.servers.sequencer.history) t ≡ false
    way_new t way = go cares.stage
      where
        there : has_txn (begins_of now.session (link after 1 (k + 2))) t ≡ true
        there = ap (λ ts. has_txn ts t) ways ∙ way

        due_new : (bs : List Txn) → AllByRecursion (Due w here p) bs → has_txn bs t ≡ true → has_begun p t ≡ false
        due_new [] a has = absurd (true≢false (sym has))
        due_new (u ∷ bs) a has = elim (or_parts (is_txn t u) (has_txn bs t) has) [
          | inl it ↦ subst (λ z. has_begun p z ≡ false) (same_txn u t it) a.0.fresh
          | inr others ↦ due_new bs a.1 others
        ]

        go : Stage w k p now.up now.session now.running now.next (begins_of now.session (link after 1 (k + 2))) (link after (k + 2) 1) → has_begun p t ≡ false
        go (stopped d r n) = absurd (true≢false (sym (up_same ∙ up) ∙ d))
        go (asleep u l r n b) = absurd (true≢false (sym there ∙ ap (λ ts. has_txn ts t) b))
        go (fresh u l r n b e) = absurd (true≢false (sym there ∙ ap (λ ts. has_txn ts t) b))
        go (awake u l f c) = due_new (begins_of now.session (link after 1 (k + 2))) (line_due w here p (begins_of now.session (link after 1 (k + 2))) c.line) there

    new_way : (t : Txn) → runs_here (hear_site w s from letter).state t ≡ true → has_begun (noted world.servers.sequencer.history) t ≡ false → has_txn (begins_of s.session more) t ≡ true
    new_way t r new = ap (λ ts. has_txn ts t) (sym ways) ∙ go cares.stage
      where
        go : Stage w k p now.up now.session now.running now.next (begins_of now.session (link after 1 (k + 2))) (link after (k + 2) 1) → has_txn (begins_of now.session (link after 1 (k + 2))) t ≡ true
        go (stopped d r2 n) = absurd (true≢false (sym (up_same ∙ up) ∙ d))
        go (asleep u l r2 n b) = absurd (none_among now.running t r2 r)
        go (fresh u l r2 n b e) = absurd (none_among now.running t r2 r)
        go (awake u l f c) = (at_among (FineAt w here p (begins_of now.session (link after 1 (k + 2)))) now.running t f r).1 ∙ ap not new

    way_on : (t : Txn) → has_txn (begins_of s.session (link world.links 1 (k + 2))) t ≡ true → has_txn (begins_of s.session more) t ≡ true
    way_on t way = ap (λ ts. has_txn ts t) begins_are ∙ list_any-append (is_txn t) (begins_of m asks) (told turn.outs) ∙ or_left (has_txn (begins_of m asks) t) (has_txn (told turn.outs) t) way

    way_told : (t : Txn) → has_txn (told (hear_site w s from letter).outs) t ≡ true → has_txn (begins_of s.session more) t ≡ true
    way_told t way = ap (λ ts. has_txn ts t) begins_are ∙ list_any-append (is_txn t) (begins_of m asks) (told turn.outs) ∙ or_right (has_txn (begins_of m asks) t) (has_txn (told turn.outs) t) way

    -- who runs, and isn't over, still does
    still : (t : Txn) → has_ended (noted world.servers.sequencer.history) t ≡ false → runs_here s t ≡ true → runs_here (hear_site w s from letter).state t ≡ true
    still t unended r = step.kept t (not_true (over w s from letter t) (λ o. true≢false (sym (over_ended t o) ∙ unended))) r

    runs_now : (t : Txn) → is_running (noted world.servers.sequencer.history) t ≡ true → is_site (site (k + 1)) (home w t) ≡ true → runs_here (hear_site w s from letter).state t ≡ true
    runs_now t r mine = still t (off (has_ended p t) (and_parts (has_begun p t) (not (has_ended p t)) r).1) (good.runs t r mine)
      where
        off : (b : Bool) → not b ≡ true → b ≡ false
        off true q = absurd (true≢false (sym q))
        off false q = refl

    begins_now : (t : Txn) → has_txn (begins_of s.session more) t ≡ true → runs_here (hear_site w s from letter).state t ≡ true
    begins_now t way = elim (or_parts (has_txn (begins_of m asks) t) (has_txn (told turn.outs) t) (sym (list_any-append (is_txn t) (begins_of m asks) (told turn.outs)) ∙ ap (λ ts. has_txn ts t) (sym begins_are) ∙ way)) [
      | inl old ↦ still t unended (good.begins t old)
      | inr new ↦ elim ((step_stays w p k s from letter note some ascend).all t (inr new)) [
        | inl over ↦ absurd (true≢false (sym over ∙ unended))
        | inr runs ↦ found_among t turn.state.running runs.0 runs.1
      ]
    ]
      where
        unended : has_ended (noted world.servers.sequencer.history) t ≡ false
        unended = new_unended t (way_new t way)

    -- what is on its way is behind the letter, or it is the letter
    behind : (test : Message → Bool) → is_coming test s.session (link world.links (k + 2) 1) ≡ true → (is_coming test s.session (if from == 1 then rest else link world.links (k + 2) 1) ≡ true) ⊎ ((from ≡ 1) × (((letter.to == s.session) ≡ true) × (test letter.message ≡ true)))
    behind test q = go (from == 1) refl
      where
        go : (b : Bool) → (from == 1) ≡ b → (is_coming test s.session (if b then rest else link world.links (k + 2) 1) ≡ true) ⊎ ((from ≡ 1) × (((letter.to == s.session) ≡ true) × (test letter.message ≡ true)))
        go false e = inl q
        go true e = elim (or_parts (letter.to == m && test letter.message) (is_coming test m rest) (sym (ap (is_coming test m) (notes_are (eqb-true from 1 e))) ∙ q)) [
          | inl it ↦ (let both = and_parts (letter.to == m) (test letter.message) it in inr (eqb-true from 1 e, (both.0, both.1)))
          | inr later ↦ inl later
        ]

    ends_now : (t : Txn) → runs_here (hear_site w s from letter).state t ≡ true → has_ended (noted world.servers.sequencer.history) t ≡ true → is_coming (ends t) s.session (if from == 1 then rest else link world.links (k + 2) 1) ≡ true
    ends_now t r ended = elim (step.came t r) [
      | inl ran ↦ elim (behind (ends t) (good.over t ran.0 ended)) [
        | inl later ↦ later
        | inr it ↦ absurd (true≢false (sym (and_from (from == 1 && letter.to == m) (ends t letter.message) (and_from (from == 1) (letter.to == m) (is_same from 1 it.0) it.1.0) it.1.1) ∙ ran.1))
      ]
      | inr new ↦ absurd (true≢false (sym ended ∙ new_unended t (way_new t (way_told t new))))
    ]

    -- an attempt that is due
    module _ (t : Txn) (of : IsOf w (site (k + 1)) t) (due : again w (noted world.servers.sequencer.history) t ≡ true) (new : has_begun (noted world.servers.sequencer.history) t ≡ false) where
      abbrev u : Txn
      u = previous w t

      -- the letter before the Drop isn't of the same transaction
      not_over : is_coming (retries (previous w t)) s.session (if from == 1 then rest else link world.links (k + 2) 1) ≡ true → over w s from letter (previous w t) ≡ false
      not_over drop = not_true (over w s from letter u) (λ o. clash (over_parts u o))
        where
          clash : (from ≡ 1) × (((letter.to == m) ≡ true) × (ends (previous w t) letter.message ≡ true)) → ⊥
          clash q = by letter.message refl q.1.1
            where
              drops : is_coming (retries (previous w t)) s.session rest ≡ true
              drops = ap (λ b. is_coming (retries u) m (if b then rest else notes)) (sym (is_same from 1 q.0)) ∙ drop

              by : (message : Message) → letter.message ≡ message → ends (previous w t) message ≡ true → ⊥
              by (letters.Done x) is e =
                  (placed_once w world.servers.sequencer.history known.says.reached.placed).apart u (subst (λ z. has_committed p z ≡ true) (same_txn x u e) (subst (NoteSays w p here letter.to) is (note q.0)).0) (again_aborted w p t due)
              by (letters.Drop x b) is e =
                  let turns = (subst AreInTurn (notes_are q.0) (known.says.turns (k + 2) 1 refl)).0 in
                  let found = behind_all m (retries u) rest turns drops in
                  let after_drop = subst (λ z. IsBefore z found.0.message) is found.1.0 in
                  let second = subst (IsBefore (letters.Drop x b)) (retry_ends u found.0.message found.1.1) after_drop in
                  true≢false (sym (other_way x.0 u.0 e) ∙ second)
              by other is e = true≢false (sym e)

      next_is : runs_here s (previous w t) ≡ true → next_attempt w (previous w t) ≡ t
      next_is r = ap txn (numbers t.0 (length w.programs) (known_txn w u (ours u r).known).0)
        where
          numbers : (a n : ℕ) → 1 ≤ a - n → a - n + n ≡ a
          numbers a n l = omega (arith, l)

      next_now : ((is_coming (retries (previous w t)) s.session (if from == 1 then rest else link world.links (k + 2) 1) && runs_here (hear_site w s from letter).state (previous w t)) || has_txn (begins_of s.session more) t) ≡ true
      next_now = elim (or_parts (is_coming (retries u) m notes && runs_here s u) (has_txn (begins_of m asks) t) (good.next t of due new)) [
        | inl both ↦ dropped (and_parts (is_coming (retries u) m notes) (runs_here s u) both)
        | inr way ↦ or_right (is_coming (retries u) m left && runs_here now u) (has_txn (begins_of m more) t) (way_on t way)
      ]
        where
          dropped : (is_coming (retries (previous w t)) s.session (link world.links (k + 2) 1) ≡ true) × (runs_here s (previous w t) ≡ true) →
              ((is_coming (retries (previous w t)) s.session (if from == 1 then rest else link world.links (k + 2) 1) && runs_here (hear_site w s from letter).state (previous w t)) || has_txn (begins_of s.session more) t) ≡ true
          dropped both = elim (behind (retries u) both.0) [
            | inl later ↦ or_left (is_coming (retries u) m left && runs_here now u) (has_txn (begins_of m more) t) (and_from (is_coming (retries u) m left) (runs_here now u) later (step.kept u (not_over later) both.1))
            | inr it ↦
                let is = retry_ends u letter.message it.1.1 in
                let fits = fit it.0 u (ap (ends u) is ∙ same_self u.0) both.1 in
                or_right (is_coming (retries u) m left && runs_here now u) (has_txn (begins_of m more) t)
                (new_way t (subst (λ z. runs_here now z ≡ true) (next_is both.1) (retried w s from letter up ascend it.0 it.1.0 fits u is both.1)) new)
          ]

    good_now : Good w p k now (link world.links 1 (k + 2) ++ letters_to 1 (hear_site w s from letter).state.session clock (hear_site w s from letter).outs) left
    good_now = record {
      runs = runs_now;
      begins = λ t way. begins_now t (subst (λ n. has_txn (begins_of n (asks ++ letters_to 1 n clock turn.outs)) t ≡ true) session_same way);
      over = λ t r e. ap (λ n. is_coming (ends t) n left) session_same ∙ ends_now t r e;
      next = λ t of due new. subst (λ n. ((is_coming (retries (previous w t)) n left && runs_here now (previous w t)) || has_txn (begins_of n (asks ++ letters_to 1 n clock turn.outs)) t) ≡ true) (sym session_same) (next_now t of due new);
    }

  abbrev Goal : Turn SiteState → ℕ → Type 0
  Goal turn f = IsTold w (noted world.servers.sequencer.history) k turn.state → Good w (noted world.servers.sequencer.history) k turn.state (link world.links 1 (k + 2) ++ letters_to 1 turn.state.session clock turn.outs) (if f == 1 then rest else link world.links (k + 2) 1)

  own_good : IsTold w (noted world.servers.sequencer.history) k (hear_site w s from letter).state →
      Good w p k (hear_site w s from letter).state (link world.links 1 (k + 2) ++ letters_to 1 (hear_site w s from letter).state.session clock (hear_site w s from letter).outs) left
  own_good = go s.up refl from refl
    where
      same : IsTold w p k s → Good w p k s (asks ++ []) notes
      same told_now = subst (λ ls. Good w p k s ls notes) (sym (append-nil asks)) (j.good told_now)

      stops : (message : Message) → Goal (rows.stop w s message) 0
      stops letters.Stop = λ told_now. absurd (true≢false (sym told_now.up))
      stops other = same

      returns : s.up ≡ false → (message : Message) → Goal (rows.return s message) 0
      returns down letters.Return = λ told_now. absurd (let a = most_at w world known k s at in let b = agreed.told_follows w world known.says.reached k s at in let c = told_now.told in omega (arith, a, b, c))
      returns down other = λ told_now. absurd (true≢false (sym told_now.up ∙ down))

      is_up : (i : ℕ) → s.up ≡ true → from ≡ suc i → hear_site w s from letter ≡ rows.hear_up w s (suc i) letter
      is_up i up of = ap (λ b. if b then rows.hear_up w s from letter else rows.hear_down s from letter) up ∙ ap (λ f. rows.hear_up w s f letter) of

      go : (u : Bool) → s.up ≡ u → (f : ℕ) → from ≡ f → Goal (if u then rows.hear_up w s f letter else rows.hear_down s f letter) f
      go true up zero of = stops letter.message
      go true up (suc i) of = subst (λ (turn : Turn SiteState). Goal turn (suc i)) (is_up i up of) (subst (λ f. Goal (hear_site w s from letter) f) of heard)
        where
          kept : (rows.hear_up w s (suc i) letter).state.session ≡ s.session
          kept = (hears_server w s.up s.session s i letter (refl, refl, refl)).1

          kept_up : (rows.hear_up w s (suc i) letter).state.up ≡ s.up
          kept_up = (hears_server w s.up s.session s i letter (refl, refl, refl)).0

          session_kept : (hear_site w s from letter).state.session ≡ s.session
          session_kept = ap (λ (turn : Turn SiteState). turn.state.session) (is_up i up of) ∙ kept

          heard : Goal (hear_site w s from letter) from
          heard told_now = good_now up (λ z. omega (arith, z, of)) (told_now.told ∙ session_kept) (ap (λ (turn : Turn SiteState). turn.state.up) (is_up i up of) ∙ kept_up) session_kept
      go false up zero of = returns up letter.message
      go false up (suc i) of = λ told_now. absurd (true≢false (sym told_now.up ∙ up))

  pub site_comes : Coming w k (noted world.servers.sequencer.history) (hear_site w s from letter).state (link world.links 1 (k + 2) ++ letters_to 1 (hear_site w s from letter).state.session clock (hear_site w s from letter).outs)
      (if from == 1 then rest else link world.links (k + 2) 1)
  site_comes = record { full = own_full w world known from clock letter rest k s at front j.full; up = j.up; good = own_good }
