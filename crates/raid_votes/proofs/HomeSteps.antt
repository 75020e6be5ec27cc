-- A home's step in a world keeps the votes coming that its programs in preparation await.
use Rattle.std.proofs.Common.{◌≡◌, ◌⊎◌, inl, inr, ℕ, ℤ, ◌+◌, ◌-◌, ◌==◌, Bool, true, false, not, ◌&&◌, List, [], ◌∷◌, length, filter, Some, if◌then◌else◌, arith, sym, subst, ap, ◌∙◌, refl, append-nil}
use Rattle.std.specs.Prelude.{slice_get}
use Rattle.std.specs.List.{AllByRecursion, list_any}
use Rattle.std.proofs.lemmas.Bool.{and_parts, and_from, eqb-true, true≢false}
use Rattle.std.proofs.lemmas.Grind.{common_steps}
use Rattle.raid_base.specs.declared.names.Txn.{Txn}
use Rattle.raid_base.specs.declared.names.Item.{Item}
use Rattle.raid_base.specs.declared.names.Site.{Site}
use Rattle.raid_base.specs.declared.entry.Answer.TheVariants.{Yes}
use Rattle.raid_base.specs.Names.{is_txn, is_site, has_txn}
use Rattle.raid_base.specs.Sites.{session, site}
use Rattle.raid_workload.specs.declared.workload.Workload.{Workload}
use Rattle.raid_workload.specs.Parts.{txns}
use Rattle.raid_rules.specs.History.{noted}
use Rattle.raid_rules.proofs.Push.{same_txn}
use Rattle.raid_rules.proofs.Sources.{has_kept}
use Rattle.raid_message.specs.declared.letter.Message.{Message}
use Rattle.raid_message.specs.declared.letter.Message.TheVariants as letters
use Rattle.raid_message.specs.declared.letter.Letter.{Letter}
use Rattle.raid_steps.specs.State.{Turn, opened, Phase, asking, preparing, sent, Running, SiteState}
use Rattle.raid_steps.specs.Fits.{knows_site, knows_txn}
use Rattle.raid_steps.specs.Programs.{without_vote}
use Rattle.raid_steps.specs.Site.{hear_site}
use Rattle.raid_steps.specs.World.{World, link}
use Rattle.raid_sessions.proofs.Lists.{is_same, same_self, within}
use Rattle.raid_sessions.proofs.Site.{SiteStep, site_step}
use Rattle.raid_sessions.proofs.Site as steps
use Rattle.raid_moves.specs.Moves.{Tells, Says}
use Rattle.raid_moves.proofs.Places.{all_both, all_weaken}
use Rattle.raid_asks.proofs.Cares.{Stage, stopped, asleep, fresh, awake}
use Rattle.raid_asks.proofs.Facts.{or_parts}
use Rattle.raid_asks.proofs.Least.{Ours, known_txn}
use Rattle.raid_letters.specs.Says.{NoteSays}
use Rattle.raid_letters.proofs.Runs.{QueueSays}
use Rattle.raid_versions.proofs.Owed.{Known}
use Rattle.raid_votes.specs.Votes.{agrees_to, asks_vote, votes_yes, VoteComes, asked, voted, ended}
use Rattle.raid_votes.proofs.Expects.{each_in, one_of, Expects, ExpectsAll, phase_on}
use Rattle.raid_votes.proofs.Heard.{IsUnheard, Kind, tells, says, keeps, empties, kind}
use Rattle.raid_votes.proofs.Home.{with_outs, Waits, Each, Now, each_on, step_now}
use Rattle.raid_votes.proofs.Sweeps.{falls_now, rises_now, counts_now}
use Rattle.raid_votes.proofs.UpNotes.{NamesSession, NameSessions}

-- a transaction of the workload fits
pub txn_fits : (w : Workload) (t : Txn) → has_txn (txns w) t ≡ true → knows_txn w t ≡ true
txn_fits w t has = (let low = (known_txn w t has).0 in let high = (known_txn w t has).1 in grind (arith, common_steps, low, high))

yes_is : (t : Txn) (m : Message) → agrees_to t m ≡ true → m ≡ letters.Vote t Yes
yes_is t (letters.Vote u Yes) same = ap (λ z. letters.Vote z Yes) (same_txn u t same)
yes_is t other same = absurd (true≢false (sym same))

abbrev is_fall : Message → Bool
is_fall (letters.DownNote s) = true
is_fall other = false

abbrev is_rise : Message → Bool
is_rise (letters.UpNote s n) = true
is_rise other = false

module _ (w : Workload) (world : World) (known : Known w world) (k : ℕ) (s : SiteState) (at : slice_get world.servers.sites k ≡ Some s) where
  -- a stopped site runs nothing
  pub nobody_runs : s.up ≡ false → s.running ≡ []
  nobody_runs down = go (known.cares k s at).stage
    where
      go : {bs : List Txn} {notes : List Letter} → Stage w k (noted world.servers.sequencer.history) s.up s.session s.running s.next bs notes → s.running ≡ []
      go (stopped d e z) = e
      go (asleep u l e z b) = e
      go (fresh u l e z b n) = e
      go (awake u l f c) = absurd (true≢false (sym u ∙ down))

-- the letters between the site at a place and another, in both ways
abbrev pub asks_on : World → ℕ → Site → List Letter
asks_on world k a = link world.links (a.0 + 1) (k + 2)

abbrev pub votes_on : World → ℕ → Site → List Letter
votes_on world k a = link world.links (k + 2) (a.0 + 1)

module _ (w : Workload) (world : World) (known : Known w world) (from clock : ℕ) (letter : Letter) (rest : List Letter) (k : ℕ) (s : SiteState) (at : slice_get world.servers.sites k ≡ Some s) (front : link world.links (k + 2) from ≡ letter ∷ rest)
    (long : length s.vector ≡ w.sites) (names : NameSessions (link world.links (k + 2) 1)) (before : AllByRecursion (λ (r : Running). ExpectsAll w world.servers.sites k s.session s.vector (asks_on world k) (votes_on world k) r.txn r.phase) s.running) where
  abbrev all : List SiteState
  all = world.servers.sites

  abbrev asks : Site → List Letter
  asks a = link world.links (a.0 + 1) (k + 2)

  abbrev whole : Site → List Letter
  whole a = link world.links (k + 2) (a.0 + 1)

  -- what is left of the letters to the home
  abbrev pub left : Site → List Letter
  left a = if from == a.0 + 1 then rest else link world.links (k + 2) (a.0 + 1)

  abbrev pub Kept : Turn SiteState → Type 0
  Kept turn = Each w world.servers.sites k s from clock letter (asks_on world k) left turn

  abbrev IsVote : Txn → Site → Type 0
  IsVote t a = (from ≡ a.0 + 1) × (votes_yes s.session (session s.vector a) t letter ≡ true)

  -- a vote that is on its way is left there, or is the letter
  left_or : (t : Txn) (a : Site) → list_any (votes_yes s.session (session s.vector a) t) (link world.links (k + 2) (a.0 + 1)) ≡ true → (list_any (votes_yes s.session (session s.vector a) t) (if from == a.0 + 1 then rest else link world.links (k + 2) (a.0 + 1)) ≡ true) ⊎ IsVote t a
  left_or t a q = go (from == a.0 + 1) refl
    where
      go : (b : Bool) → (from == a.0 + 1) ≡ b → (list_any (votes_yes s.session (session s.vector a) t) (if b then rest else link world.links (k + 2) (a.0 + 1)) ≡ true) ⊎ IsVote t a
      go false e = inl q
      go true e =
          let of = eqb-true from (a.0 + 1) e in
          elim (or_parts (votes_yes s.session (session s.vector a) t letter) (list_any (votes_yes s.session (session s.vector a) t) rest)
          (sym (ap (list_any (votes_yes s.session (session s.vector a) t)) (ap (link world.links (k + 2)) (sym of) ∙ front)) ∙ q)) [ inl here ↦ inr (of, here) | inr more ↦ inl more ]

  opens : (t : Txn) (writes : List (Item × ℤ)) (a : Site) → (IsVote t a → ⊥) → Expects w all k s.session s.vector asks whole t writes a → Expects w all k s.session s.vector (with_outs w all k s from clock letter asks left []) left t writes a
  opens t writes a none e = record { known = e.known; other = e.other; holds = e.holds; up = e.up; comes = go e.comes }
    where
      go : VoteComes all (asks a) (whole a) s.session (session s.vector a) t a → VoteComes all (with_outs w all k s from clock letter asks left [] a) (left a) s.session (session s.vector a) t a
      go (asked q) = asked (subst (λ ls. list_any (asks_vote s.session (session s.vector a) t) ls ≡ true) (sym (append-nil (asks a))) q)
      go (voted q) = elim (left_or t a q) [ inl still ↦ voted still | inr now ↦ absurd (none now) ]
      go (ended q) = ended q

  -- what a vote says that is heard
  vote_said : s.up ≡ true → (t : Txn) (a : Site) → has_txn (txns w) t ≡ true → knows_site w a ≡ true → IsVote t a → Says w s from letter (a.0 - 1) (letters.Vote t Yes) × (letter.from ≡ session s.vector a)
  vote_said up t a has knows vote =
      let both = and_parts (letter.from == session s.vector a && letter.to == s.session) (agrees_to t letter.message) vote.1 in
      let numbers = and_parts (letter.from == session s.vector a) (letter.to == s.session) both.0 in
      let low = (within w.sites a.0 knows).0 in
      let of = vote.0 in (
        record { heard = record { up = up; meant = numbers.1 }; by = omega (arith, of, low); is = yes_is t letter.message both.1; fits = and_from (knows_txn w t) true (txn_fits w t has) refl },
        eqb-true letter.from (session s.vector a) numbers.0,
      )

  ours : AllByRecursion (λ (r : Running). Ours w (site (k + 1)) r.txn) s.running
  ours = (known.says.homes k s at).running

  -- where no vote comes with the letter
  open_all : ((t : Txn) (a : Site) → has_txn (txns w) t ≡ true → knows_site w a ≡ true → IsVote t a → ⊥) → Kept (opened s)
  open_all none = all_both (λ (r : Running). Ours w (site (k + 1)) r.txn) (λ (r : Running). ExpectsAll w all k s.session s.vector asks whole r.txn r.phase) (λ (r : Running). Waits w all k s from clock letter asks left (opened s) r.txn r.phase) s.running
      (λ r own h. phase_on w all all k s.session s.session s.vector s.vector asks whole (with_outs w all k s from clock letter asks left []) left r.txn (λ writes a e. opens r.txn writes a (none r.txn a own.known e.known) e) r.phase h) ours before

  -- the step leaves the site nothing that runs, or in its session with the votes coming
  abbrev pub Result : Type 0
  Result = ((hear_site w s from letter).state.running ≡ []) ⊎ (((hear_site w s from letter).state.session ≡ s.session) × Kept (hear_site w s from letter))

  Good : Turn SiteState → Type 0
  Good turn = Now w all k s from clock letter asks left turn

  same_session : (from ≡ 0 → ⊥) → (hear_site w s from letter).state.session ≡ s.session
  same_session some = go (site_step w s from letter)
    where
      go : SiteStep s from letter (hear_site w s from letter) → (hear_site w s from letter).state.session ≡ s.session
      go (steps.stops x) = absurd (some x.of)
      go (steps.returns x) = absurd (some x.of)
      go (steps.stays x) = x.1

  at_home : s.site ≡ site (k + 1)
  at_home = (known.says.homes k s at).place

  -- the sequencer is heard
  module _ (m : Message) (e : Tells w s from letter m) where
    start_told : Kept (opened s)
    start_told = open_all (λ t a has knows vote. (let one = e.by in let of = vote.0 in let low = (within w.sites a.0 knows).0 in omega (arith, one, of, low)))

    note_is : NoteSays w (noted world.servers.sequencer.history) (site (k + 1)) letter.to m
    note_is = subst (NoteSays w (noted world.servers.sequencer.history) (site (k + 1)) letter.to) e.is
        (subst (λ z. NoteSays w (noted world.servers.sequencer.history) (site z) letter.to letter.message) (let q : k + 2 - 1 ≡ k + 1 = omega arith in q)
        (subst (QueueSays w (noted world.servers.sequencer.history) (k + 2) 1) (ap (link world.links (k + 2)) (sym e.by) ∙ front) (known.says.says (k + 2) 1)).0)

    named : NamesSession m
    named = subst NamesSession e.is (subst NameSessions (ap (link world.links (k + 2)) (sym e.by) ∙ front) names).0

    plain : is_fall m ≡ false → is_rise m ≡ false → Now w world.servers.sites k s from clock letter (asks_on world k) left (hear_site w s from letter)
    plain no_fall no_rise =
        step_now w all k s from clock letter asks left (record { place = at_home; each = start_told; rises = λ z n note. absurd (rise z n note) })
        (λ z note. true≢false (sym (ap is_fall (sym e.is ∙ note.is)) ∙ no_fall)) rise (known.says.homes k s at).ascend
      where
        rise : (z : Site) (n : ℕ) → Tells w s from letter (letters.UpNote z n) → ⊥
        rise z n note = true≢false (sym (ap is_rise (sym e.is ∙ note.is)) ∙ no_rise)

  told_now : (m : Message) → Tells w s from letter m → Now w world.servers.sites k s from clock letter (asks_on world k) left (hear_site w s from letter)
  told_now (letters.DownNote z) e = falls_now w all k s from clock letter asks left at_home (known.says.homes k s at).ascend long z e (start_told (letters.DownNote z) e)
  told_now (letters.UpNote z n) e =
      rises_now w all k s from clock letter asks left at_home (known.says.homes k s at).ascend long z n e (named (letters.UpNote z n) e) (turned z.0 (k + 1) (note_is (letters.UpNote z n) e)) (start_told (letters.UpNote z n) e)
    where
      turned : (a b : ℕ) → (b == a) ≡ false → (a == b) ≡ false
      turned a b q = grind (arith, q)
  told_now other e = plain other e refl refl

  -- another site is heard
  module _ (i : ℕ) (m : Message) (e : Says w s from letter i m) where
    quiet : Kept (opened s) → Now w world.servers.sites k s from clock letter (asks_on world k) left (hear_site w s from letter)
    quiet start =
        step_now w all k s from clock letter asks left (record { place = at_home; each = start; rises = λ z n note. absurd (far note.by) })
        (λ z note. far note.by) (λ z n note. far note.by) (known.says.homes k s at).ascend
      where
        far : from ≡ 1 → ⊥
        far one = (let two = e.by in omega (arith, one, two))

    its_place : (a : Site) → knows_site w a ≡ true → from ≡ a.0 + 1 → a ≡ site (i + 1)
    its_place a knows of = (let two = e.by in ap (λ n. let z : Site = record { 0 = n } in z) (let q : a.0 ≡ i + 1 = omega (arith, of, two) in q))

    -- a message that is no yes
    no_vote : ((t : Txn) → agrees_to t m ≡ false) → Now w world.servers.sites k s from clock letter (asks_on world k) left (hear_site w s from letter)
    no_vote none = quiet (open_all (λ t a has knows vote. true≢false (sym (subst (λ m. agrees_to t m ≡ true) e.is (and_parts (letter.from == session s.vector a && letter.to == s.session) (agrees_to t letter.message) vote.1).1) ∙ none t)))

  -- a yes
  module _ (i : ℕ) (u : Txn) (e : Says w s from letter i (letters.Vote u Yes)) where
    its_vote : (t : Txn) (a : Site) → has_txn (txns w) t ≡ true → knows_site w a ≡ true → IsVote t a → (is_txn u t ≡ true) × (session s.vector (site (i + 1)) ≡ letter.from)
    its_vote t a has knows vote =
        let said = vote_said e.heard.up t a has knows vote in
        (subst (λ z. is_txn u z ≡ true) (same (sym e.is ∙ said.0.is)) (same_self u.0), ap (session s.vector) (sym (its_place i (letters.Vote u Yes) e a knows vote.0)) ∙ sym said.1)
      where
        same : letters.Vote u Yes ≡ letters.Vote t Yes → u ≡ t
        same q = cc q

    yes_now : (b : Bool) → (session s.vector (site (i + 1)) == letter.from) ≡ b → Now w world.servers.sites k s from clock letter (asks_on world k) left (hear_site w s from letter)
    yes_now false q = quiet i (letters.Vote u Yes) e (open_all (λ t a has knows vote. true≢false (sym (is_same (session s.vector (site (i + 1))) letter.from (its_vote t a has knows vote).1) ∙ q)))
    yes_now true q = counts_now w all k s from clock letter asks left at_home (known.says.homes k s at).ascend i u e q others own
      where
        others : AllByRecursion (λ (r : Running). is_txn u r.txn ≡ false → Waits w world.servers.sites k s from clock letter (asks_on world k) left (opened s) r.txn r.phase) s.running
        others = all_both (λ (r : Running). Ours w (site (k + 1)) r.txn) (λ (r : Running). ExpectsAll w all k s.session s.vector asks whole r.txn r.phase) (λ (r : Running). is_txn u r.txn ≡ false → Waits w all k s from clock letter asks left (opened s) r.txn r.phase) s.running
            (λ r ours h differ. phase_on w all all k s.session s.session s.vector s.vector asks whole (with_outs w all k s from clock letter asks left []) left r.txn
            (λ writes a x. opens r.txn writes a (λ vote. true≢false (sym (its_vote r.txn a ours.known x.known vote).0 ∙ differ)) x) r.phase h) ours before

        own : AllByRecursion (λ (r : Running). Waits w world.servers.sites k s from clock letter (asks_on world k) left (opened s) r.txn (without_vote (site (i + 1)) r.phase)) s.running
        own = all_weaken (λ (r : Running). ExpectsAll w all k s.session s.vector asks whole r.txn r.phase) (λ (r : Running). Waits w all k s from clock letter asks left (opened s) r.txn (without_vote (site (i + 1)) r.phase)) s.running (λ r h. go r.txn r.phase h) before
          where
            go : (t : Txn) (phase : Phase) → ExpectsAll w all k s.session s.vector asks whole t phase → Waits w all k s from clock letter asks left (opened s) t (without_vote (site (i + 1)) phase)
            go t (asking ask x q) h = tt
            go t (preparing reads writes awaited) h = each_in (Expects w all k s.session s.vector (with_outs w all k s from clock letter asks left []) left t writes) (filter (λ a. not (is_site (site (i + 1)) a)) awaited) (λ a has.
                (let kept = and_parts (not (is_site (site (i + 1)) a)) _ (sym (has_kept (λ r. not (is_site (site (i + 1)) r)) a awaited) ∙ has) in
                let x = one_of (Expects w all k s.session s.vector asks whole t writes) awaited a h kept.1 in
                opens t writes a (λ vote. true≢false (sym (ap (λ z. not (is_site (site (i + 1)) z)) (sym (its_place i (letters.Vote u Yes) e a x.known vote.0)) ∙ kept.0) ∙ ap not (same_self (i + 1)))) x))
            go t sent h = tt

  said_now : (i : ℕ) (m : Message) → Says w s from letter i m → Now w world.servers.sites k s from clock letter (asks_on world k) left (hear_site w s from letter)
  said_now i (letters.Vote u Yes) e = yes_now i u e (session s.vector (site (i + 1)) == letter.from) refl
  said_now i other e = no_vote i other e (λ t. refl)

  pub home_step : Result
  home_step = go (kind w s from letter (nobody_runs w world known k s at))
    where
      kept_state : (u : Bool) → s.up ≡ u → IsUnheard w s from letter → (hear_site w s from letter).state ≡ s → Result
      kept_state false off u is = inl (ap (λ (z : SiteState). z.running) is ∙ nobody_runs w world known k s at off)
      kept_state true up u is = inr (
        ap (λ (z : SiteState). z.session) is,
        subst (AllByRecursion (λ (r : Running). Waits w all k s from clock letter asks left (hear_site w s from letter) r.txn r.phase)) (ap (λ (z : SiteState). z.running) (sym is))
            (each_on w all k s from clock letter asks left (opened s) (hear_site w s from letter) (hear_site w s from letter).outs (ap (λ (z : SiteState). z.vector) is) refl
            (open_all (λ t a has knows vote. u.said (a.0 - 1) (letters.Vote t Yes) (vote_said up t a has knows vote).0))),
      )

      go : Kind w s from letter → Result
      go (tells m e) = inr (same_session (λ none. (let one = e.by in omega (arith, one, none))), (told_now m e).each)
      go (says i m e) = inr (same_session (λ none. (let two = e.by in omega (arith, two, none))), (said_now i m e).each)
      go (keeps u is) = kept_state s.up refl u is
      go (empties is) = inl is
