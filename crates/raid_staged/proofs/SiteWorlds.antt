-- Each step of a site keeps what is staged before it is to be applied.
use Rattle.std.proofs.Common.{◌≡◌, ◌≢◌, ◌⊎◌, inl, inr, ℕ, ℤ, zero, suc, ◌+◌, ◌-◌, ◌<◌, ◌≤◌, ◌==◌, Bool, true, false, ◌||◌, List, ◌∷◌, map, Some, if◌then◌else◌, arith, sym, subst, ap, ◌∙◌, refl}
use Rattle.std.specs.Prelude.{⊤, slice_get, slice_set}
use Rattle.std.specs.List.{AllByRecursion}
use Rattle.std.proofs.lemmas.Bool.{true≢false}
use Rattle.raid_base.specs.declared.names.Txn.{Txn}
use Rattle.raid_base.specs.declared.names.Item.{Item}
use Rattle.raid_base.specs.declared.entry.Answer.TheVariants.{Yes}
use Rattle.raid_base.specs.declared.entry.Noted.{Noted}
use Rattle.raid_base.specs.Names.{is_txn, has_site}
use Rattle.raid_base.specs.Sites.{session, site, all_sites}
use Rattle.raid_workload.specs.declared.workload.Workload.{Workload}
use Rattle.raid_workload.specs.Parts as workload
use Rattle.raid_workload.specs.Parts.{count_from}
use Rattle.raid_rules.specs.History.{noted, has_aborted, has_ended}
use Rattle.raid_rules.specs.Sessions.{last_session}
use Rattle.raid_rules.proofs.Push.{same_txn}
use Rattle.raid_legal.specs.Seen.{holds_some}
use Rattle.raid_message.specs.declared.letter.Message.{Message}
use Rattle.raid_message.specs.declared.letter.Message.TheVariants as letters
use Rattle.raid_message.specs.declared.letter.Letter.{Letter}
use Rattle.raid_steps.specs.State.{Out, Turn, Phase, asking, preparing, sent, Running, SiteState}
use Rattle.raid_steps.specs.Programs.{running_of}
use Rattle.raid_steps.specs.Site as rows
use Rattle.raid_steps.specs.Site.{hear_site}
use Rattle.raid_steps.specs.World.{World, link, set_link}
use Rattle.raid_sessions.proofs.Agreed.{told_follows}
use Rattle.raid_sessions.proofs.Lists.{all_weaken, get_below, get_set, get_other, some_is}
use Rattle.raid_sessions.proofs.Mail.{same_or_not, moved, set_here}
use Rattle.raid_sessions.proofs.Reached.{server_below, from_below}
use Rattle.raid_moves.proofs.Places.{all_both}
use Rattle.raid_moves.proofs.Steps.{site_moves}
use Rattle.raid_letters.specs.Says.{was_applied, NoteSays, IsBefore, AreInTurn}
use Rattle.raid_letters.proofs.Runs.{LetterSays, QueueSays, set_all}
use Rattle.raid_layers.proofs.SiteWorlds.{HomeStep, home_step}
use Rattle.raid_layers.proofs.SiteWorlds as steps
use Rattle.raid_layers.proofs.Tokens.{OnLinks, posts_all}
use Rattle.raid_staged.specs.Staged.{is_staged, IsStagedAt, AreStaged, VoteStaged, AskStaged, ApplyStaged, IsPrepared}
use Rattle.raid_staged.proofs.Ends.{EndsOnce, placed_once, applied_committed}
use Rattle.raid_staged.proofs.Kept.{IsSpared, row_keeps, moves_keep, alive_spared}
use Rattle.raid_staged.proofs.Walk.{Now, SentOk, step_now}
use Rattle.raid_staged.proofs.Worlds.{all_given, FitsAt, LetterStaged, PreparedAt, AllStaged, Landed, known_place, before}

-- what a site sends where the monitor is heard
pub monitor_sent : (P : Message → Type 0) → P letters.Halted → P letters.Hello → (w : Workload) (state : SiteState) (from : ℕ) (letter : Letter) → from ≡ 0 → AllByRecursion (λ (out : Out). P out.2) (hear_site w state from letter).outs
monitor_sent P halted hello w state from letter of = subst (λ f. AllByRecursion (λ (out : Out). P out.2) (hear_site w state f letter).outs) (sym of) (go state.up)
  where
    stops : (message : Message) → AllByRecursion (λ (out : Out). P out.2) (rows.stop w state message).outs
    stops letters.Stop = (halted, tt)
    stops other = tt

    returns : (message : Message) → AllByRecursion (λ (out : Out). P out.2) (rows.return state message).outs
    returns letters.Return = (hello, tt)
    returns other = tt

    go : (u : Bool) → AllByRecursion (λ (out : Out). P out.2) (if u then rows.hear_up w state zero letter else rows.hear_down state zero letter).outs
    go true = stops letter.message
    go false = returns letter.message

-- each site of a workload of at most eight is among all that there can be
among_all : (j : ℕ) → j < 8 → has_site all_sites (site (j + 1)) ≡ true
among_all zero below = refl
among_all (suc zero) below = refl
among_all (suc (suc zero)) below = refl
among_all (suc (suc (suc zero))) below = refl
among_all (suc (suc (suc (suc zero)))) below = refl
among_all (suc (suc (suc (suc (suc zero))))) below = refl
among_all (suc (suc (suc (suc (suc (suc zero)))))) below = refl
among_all (suc (suc (suc (suc (suc (suc (suc zero))))))) below = refl
among_all (suc (suc (suc (suc (suc (suc (suc (suc j)))))))) below = absurd (omega (arith, below))

-- and among the workload's
counted : (a n k : ℕ) → a ≤ k → k < a + n → has_site (map site (count_from a n)) (site k) ≡ true
counted a zero k least most = absurd (omega (arith, least, most))
counted a (suc n) k least most = go (a == k) refl (λ more. counted (a + 1) n k more (omega (arith, most)))
  where
    beyond : (a == k) ≡ false → a + 1 ≤ k
    beyond q = grind (arith, q, least)

    go : (b : Bool) → (a == k) ≡ b → (a + 1 ≤ k → has_site (map site (count_from (a + 1) n)) (site k) ≡ true) → (b || has_site (map site (count_from (a + 1) n)) (site k)) ≡ true
    go true q rest = refl
    go false q rest = rest (beyond q)

module _ (w : Workload) (eight : w.sites ≤ 8) (state : World) (landed : Landed w state) (all : AllStaged w (noted state.servers.sequencer.history) state.servers.sites state.links) (from clock : ℕ) (letter : Letter) (rest : List Letter) (j : ℕ) (own : SiteState)
    (at : slice_get state.servers.sites j ≡ Some own) (front : link state.links (suc (suc j)) from ≡ letter ∷ rest) where
  abbrev p : List Noted
  p = noted state.servers.sequencer.history

  abbrev sites : List SiteState
  sites = state.servers.sites

  abbrev turn : Turn SiteState
  turn = hear_site w own from letter

  abbrev changed : List SiteState
  changed = slice_set state.servers.sites j (hear_site w own from letter).state

  -- what is known before the step
  low : (k : ℕ) (s : SiteState) → slice_get sites k ≡ Some s → k < w.sites
  low k s there = (let b = get_below sites k s there in let long = landed.says.reached.long in omega (arith, b, long))

  note : from ≡ 1 → NoteSays w p (site (j + 1)) letter.to letter.message
  note of =
      let says = (subst (QueueSays w p (suc (suc j)) from) front (landed.says.says (suc (suc j)) from)).0 in
      subst (λ z. NoteSays w p z letter.to letter.message) (ap site (let e : suc (suc j) - 1 ≡ j + 1 = omega arith in e)) (subst (λ d. LetterSays w p (suc (suc j)) d letter) of says)

  vote : (i : ℕ) → from ≡ suc (suc i) → VoteStaged p sites i letter.from letter.message
  vote i of = (subst (λ d. LetterStaged w p sites (suc (suc j)) d letter) of (subst (AllByRecursion (LetterStaged w p sites (suc (suc j)) from)) front (all.on_links (suc (suc j)) from)).0).0

  of_workload : (k : ℕ) (s : SiteState) → slice_get sites k ≡ Some s → has_site (workload.sites w) (site (k + 1)) ≡ true
  of_workload k s there = (let b = low k s there in counted 1 w.sites (k + 1) (omega arith) (omega (arith, b)))

  few : (k : ℕ) (s : SiteState) → slice_get sites k ≡ Some s → has_site all_sites (site (k + 1)) ≡ true
  few k s there = (let b = low k s there in among_all k (omega (arith, b, eight)))

  live : (k : ℕ) (s : SiteState) → slice_get sites k ≡ Some s → s.up ≡ true → last_session p (site (k + 1)) ≡ s.session → 1 ≤ s.session
  live k s there up same = (let one = (landed.says.reached.ledger.accounts (site (k + 1)) (known_place w state landed all from clock letter rest k s there)).first in omega (arith, one, same))

  ends : (some : from ≡ 0 → ⊥) → Now w p sites j own from letter (landed.says.homes j own at).place some note vote of_workload few live turn
  ends some = step_now w p sites j own from letter (landed.says.homes j own at).place some note vote of_workload few live (landed.says.homes j own at).ascend (before w state landed all from clock letter rest j own at)

  own_is : (z : SiteState) → slice_get changed j ≡ Some z → turn.state ≡ z
  own_is z there = some_is turn.state z (sym (get_set sites j turn.state (get_below sites j own at)) ∙ there)

  -- where the site is up in its last session after the step, nothing has happened, or it was so and has heard another server
  abbrev Lived : Type 0
  Lived = (turn.state ≡ own) ⊎ ((own.up ≡ true) × ((from ≡ 0 → ⊥) × (turn.state.session ≡ own.session)))

  lived : turn.state.up ≡ true → last_session p (site (j + 1)) ≡ turn.state.session → Lived
  lived up last = go (home_step w own from letter)
    where
      go : HomeStep own from (hear_site w own from letter) → Lived
      go (steps.same none is) = inl is
      go (steps.falls none down) = absurd (true≢false (sym up ∙ down))
      go (steps.rises none next) = absurd (let follows = told_follows w state landed.says.reached j own at in omega (arith, follows, last, next))
      go (steps.hears was some up_same session_same) = inr (was, (some, session_same))

  staged_still : (t : Txn) → IsSpared from letter t → turn.state.up ≡ true → last_session p (site (j + 1)) ≡ turn.state.session → (own.up ≡ true → last_session p (site (j + 1)) ≡ own.session → is_staged t own ≡ true) → is_staged t turn.state ≡ true
  staged_still t spared up last has = go (lived up last)
    where
      go : Lived → is_staged t turn.state ≡ true
      go (inl is) = subst (λ s. is_staged t s ≡ true) (sym is) (has (ap (λ (s : SiteState). s.up) (sym is) ∙ up) (last ∙ ap (λ (s : SiteState). s.session) is))
      go (inr (was, (some, same))) =
          let reached = site_moves w own from letter (landed.says.homes j own at).ascend in
          moves_keep w own from letter t spared reached.1.1 (row_keeps w own from letter t spared some reached.1.0 (has was (last ∙ same)))

  -- what was staged still is
  still_at : (t : Txn) (i n : ℕ) → IsStagedAt p sites t i n → IsStagedAt p changed t i n
  still_at t i n (inl over) = inl over
  still_at t i n (inr has) = go (has_ended p t) refl
    where
      here : has_ended p t ≡ false → (z : SiteState) → slice_get changed i ≡ Some z → z.up ≡ true → z.session ≡ n → last_session p (site (i + 1)) ≡ n → (i ≡ j) ⊎ (i ≢ j) → is_staged t z ≡ true
      here alive z there up same last (inr differ) = has z (sym (get_other sites j i turn.state differ) ∙ there) up same last
      here alive z there up same last (inl e) =
          let is : turn.state ≡ z = own_is z (ap (slice_get changed) (sym e) ∙ there) in
          let last_here : last_session p (site (j + 1)) ≡ n = subst (λ k. last_session p (site (k + 1)) ≡ n) e last in
          subst (λ s. is_staged t s ≡ true) is
          (staged_still t (alive_spared w p j from letter note t alive) (ap (λ (s : SiteState). s.up) is ∙ up) (last_here ∙ sym (ap (λ (s : SiteState). s.session) is ∙ same))
          (λ was l. has own (ap (slice_get sites) e ∙ at) was (sym l ∙ last_here) last))

      go : (b : Bool) → has_ended p t ≡ b → IsStagedAt p changed t i n
      go true over = inl over
      go false alive = inr (λ z there up same last. here alive z there up same last (same_or_not i j))

  still_are : (t : Txn) (writes : List (Item × ℤ)) (v : List ℕ) → AreStaged w p sites t writes v → AreStaged w p changed t writes v
  still_are t writes v h i holds = still_at t i (session v (site (i + 1))) (h i holds)

  still_prepared : (k : ℕ) (s : SiteState) (t : Txn) (phase : Phase) → IsPrepared w p sites k s t phase → IsPrepared w p changed k s t phase
  still_prepared k s t (asking ask x q) h = tt
  still_prepared k s t (preparing reads writes awaited) h = (h.0, λ i differ holds none. still_at t i (session s.vector (site (i + 1))) (h.1 i differ holds none))
  still_prepared k s t sent h = tt

  still_vote : (i n : ℕ) (m : Message) → VoteStaged p sites i n m → VoteStaged p changed i n m
  still_vote i n (letters.Vote t Yes) h = still_at t i n h
  still_vote i n other h = tt

  still_ask : (m : Message) → AskStaged w p sites m → AskStaged w p changed m
  still_ask (letters.CommitAsk t r) h = still_are t r.writes r.under h
  still_ask other h = tt

  -- the letters that are left on their way: behind an Apply, and behind a Drop, each Apply is of another transaction
  abbrev left : List (List (List Letter))
  left = set_link state.links (suc (suc j)) from rest

  spared_by : (t : Txn) (number : ℕ) → (from ≡ 1 → IsBefore letter.message (letters.Apply t number)) → was_applied p t (site (j + 1)) number ≡ true → IsSpared from letter t
  spared_by t number behind says = record {
    applied = λ by u earlier is. other u (is_txn t u) refl (λ same.
        let old = once.number t (site (j + 1)) earlier (subst (λ z. was_applied p z (site (j + 1)) earlier ≡ true) same (subst (NoteSays w p (site (j + 1)) letter.to) is (note by))) in
        let new = once.number t (site (j + 1)) number says in
        let less = subst (λ m. IsBefore m (letters.Apply t number)) is (behind by) in
        omega (arith, old, new, less));
    dropped = λ by u again is. other u (is_txn t u) refl (λ same.
        once.apart t (applied_committed p t (site (j + 1)) number says) (subst (λ z. has_aborted p z ≡ true) same (subst (NoteSays w p (site (j + 1)) letter.to) is (note by))));
  }
    where
      once : EndsOnce p
      once = placed_once w state.servers.sequencer.history landed.says.reached.placed

      other : (u : Txn) (b : Bool) → is_txn t u ≡ b → (u ≡ t → ⊥) → b ≡ false
      other u true q differ = absurd (differ (same_txn u t q))
      other u false q differ = refl

  apply_still : (to : ℕ) (m : Message) → (from ≡ 1 → IsBefore letter.message m) → NoteSays w p (site (j + 1)) to m → turn.state.up ≡ true → last_session p (site (j + 1)) ≡ turn.state.session →
      (own.up ≡ true → last_session p (site (j + 1)) ≡ own.session → (to == own.session) ≡ true → ApplyStaged own m) → (to == turn.state.session) ≡ true → ApplyStaged turn.state m
  apply_still to (letters.Apply t number) behind says up last has meant = staged_still t (spared_by t number behind says) up last (λ was l. has was l (subst (λ n. (to == n) ≡ true) (sym last ∙ l) meant))
  apply_still to other behind says up last has meant = tt

  abbrev IsBehind : ℕ → Letter → Type 0
  IsBehind c l = ((c ≡ suc (suc j)) × (from ≡ 1)) → IsBefore letter.message l.message

  behind_left : (c : ℕ) → AllByRecursion (IsBehind c) (link left c 1)
  behind_left c = all_given (λ (both : (c ≡ suc (suc j)) × (from ≡ 1)) (l : Letter). IsBefore letter.message l.message) (link left c 1) each
    where
      each : (both : (c ≡ suc (suc j)) × (from ≡ 1)) → AllByRecursion (λ (l : Letter). IsBefore letter.message l.message) (link left c 1)
      each (here, one) =
          let square = landed.says.reached.square in
          let gone = ap (λ z. link left z 1) here ∙ ap (link left (suc (suc j))) (sym one)
          ∙ set_here (w.sites + 2) state.links (suc (suc j)) from rest square (server_below (w.sites + 2) state.links (suc (suc j)) from letter rest square front) (from_below (w.sites + 2) state.links (suc (suc j)) from letter rest square front) in
          subst (AllByRecursion (λ (l : Letter). IsBefore letter.message l.message)) (sym gone) (subst AreInTurn front (landed.says.turns (suc (suc j)) from one)).0

  fits_still : (c : ℕ) (l : Letter) → IsBehind c l → NoteSays w p (site (c - 1)) l.to l.message → FitsAt w p sites c l.to l.message → FitsAt w p changed c l.to l.message
  fits_still c l behind says old i z there up is meant last = go (same_or_not i j)
    where
      go : (i ≡ j) ⊎ (i ≢ j) → ApplyStaged z l.message
      go (inr differ) = old i z (sym (get_other sites j i turn.state differ) ∙ there) up is meant last
      go (inl e) =
          let its : turn.state ≡ z = own_is z (ap (slice_get changed) (sym e) ∙ there) in
          let number : c ≡ suc (suc j) = omega (arith, is, e) in
          let sessions : z.session ≡ turn.state.session = ap (λ (s : SiteState). s.session) (sym its) in
          subst (λ s. ApplyStaged s l.message) its
          (apply_still l.to l.message (λ one. behind (number, one)) (subst (λ s. NoteSays w p s l.to l.message) (ap site (let n : c - 1 ≡ j + 1 = omega (arith, number) in n)) says)
          (ap (λ (s : SiteState). s.up) its ∙ up) (subst (λ k. last_session p (site (k + 1)) ≡ z.session) e last ∙ sessions)
          (λ was l fits. old j own at was (omega (arith, is, e)) fits l) (subst (λ n. (l.to == n) ≡ true) sessions meant))

  left_staged : OnLinks (LetterStaged w p changed) left
  left_staged c d = still c d (set_all (λ c d queue. AllByRecursion (LetterStaged w p sites c d) queue) state.links (suc (suc j)) from rest all.on_links (subst (AllByRecursion (LetterStaged w p sites (suc (suc j)) from)) front (all.on_links (suc (suc j)) from)).1 c d)
      (set_all (QueueSays w p) state.links (suc (suc j)) from rest landed.says.says (subst (QueueSays w p (suc (suc j)) from) front (landed.says.says (suc (suc j)) from)).1 c d)
    where
      still : (c d : ℕ) → AllByRecursion (LetterStaged w p sites c d) (link left c d) → QueueSays w p c d (link left c d) → AllByRecursion (LetterStaged w p changed c d) (link left c d)
      still c zero old says = all_weaken (LetterStaged w p sites c zero) (λ (l : Letter). ⊤) (link left c zero) (λ l h. tt) old
      still c (suc zero) old says =
          all_both (λ (l : Letter). IsBehind c l × NoteSays w p (site (c - 1)) l.to l.message) (LetterStaged w p sites c 1) (LetterStaged w p changed c 1) (link left c 1) (λ l both h. fits_still c l both.0 both.1 h)
          (all_both (IsBehind c) (LetterSays w p c 1) (λ (l : Letter). IsBehind c l × NoteSays w p (site (c - 1)) l.to l.message) (link left c 1) (λ l b s. (b, s)) (behind_left c) says) old
      still c (suc (suc i)) old says = all_weaken (LetterStaged w p sites c (suc (suc i))) (LetterStaged w p changed c (suc (suc i))) (link left c (suc (suc i))) (λ l h. (still_vote i l.from l.message h.0, still_ask l.message h.1)) old

  -- what the site says
  abbrev IsSaid : Message → Type 0
  IsSaid m = VoteStaged p changed j turn.state.session m × AskStaged w p changed m

  own_at : (t : Txn) (n : ℕ) → (has_ended p t ≡ true) ⊎ (is_staged t turn.state ≡ true) → IsStagedAt p changed t j n
  own_at t n (inl over) = inl over
  own_at t n (inr has) = inr (λ z there up same last. subst (λ s. is_staged t s ≡ true) (own_is z there) has)

  said : (some : from ≡ 0 → ⊥) (m : Message) → SentOk w p sites j own from letter (landed.says.homes j own at).place some note vote of_workload few live turn.state m → IsSaid m
  said some (letters.Vote t Yes) h = (own_at t turn.state.session h, tt)
  said some (letters.CommitAsk t r) h = (tt, λ i holds. go i holds (same_or_not i j))
    where
      go : (i : ℕ) → holds_some w r.writes (site (i + 1)) ≡ true → (i ≡ j) ⊎ (i ≢ j) → IsStagedAt p changed t i (session r.under (site (i + 1)))
      go i holds (inl e) = subst (λ z. IsStagedAt p changed t z (session r.under (site (z + 1)))) (sym e) (own_at t (session r.under (site (j + 1))) (h.0 (subst (λ z. holds_some w r.writes (site (z + 1)) ≡ true) e holds)))
      go i holds (inr differ) = still_at t i (session r.under (site (i + 1))) (h.1 i differ holds)
  said some other h = (tt, tt)

  all_said : (from ≡ 0) ⊎ (from ≢ 0) → AllByRecursion (λ (out : Out). IsSaid out.2) turn.outs
  all_said (inl none) = monitor_sent IsSaid (tt, tt) (tt, tt) w own from letter none
  all_said (inr some) =
      all_weaken (λ (out : Out). SentOk w p sites j own from letter (landed.says.homes j own at).place some note vote of_workload few live turn.state out.2) (λ (out : Out). IsSaid out.2) turn.outs (λ out h. said some out.2 h) (ends some).sent

  pub site_staged : AllStaged w (noted state.servers.sequencer.history) (slice_set state.servers.sites j (hear_site w own from letter).state)
      (moved state.links (suc (suc j)) from (hear_site w own from letter).state.session clock rest (hear_site w own from letter).outs)
  site_staged = record {
    on_links = posts_all (LetterStaged w p changed) (suc (suc j)) turn.state.session clock turn.outs left (all_said (same_or_not from 0)) left_staged;
    waits = λ t r h. still_are t r.writes r.under (all.waits t r h);
    prepared = λ k s there. prepares k s there (same_or_not k j);
  }
    where
      here : turn.state.up ≡ true → last_session p (site (j + 1)) ≡ turn.state.session → Lived → (t : Txn) (r : Running) → running_of turn.state t ≡ Some r → IsPrepared w p changed j turn.state t r.phase
      here up last (inl is) t r f =
          still_prepared j turn.state t r.phase (subst (λ s. IsPrepared w p sites j s t r.phase) (sym is) (before w state landed all from clock letter rest j own at t r (ap (λ s. running_of s t) (sym is) ∙ f)))
      here up last (inr (was, (some, same))) t r f = still_prepared j turn.state t r.phase ((ends some).each t r f)

      prepares : (k : ℕ) (s : SiteState) → slice_get changed k ≡ Some s → (k ≡ j) ⊎ (k ≢ j) → PreparedAt w p changed k s
      prepares k s there (inl e) =
          subst (λ z. PreparedAt w p changed z s) (sym e) (subst (PreparedAt w p changed j) (own_is s (ap (slice_get changed) (sym e) ∙ there)) (λ up last t r f. here up last (lived up last) t r f))
      prepares k s there (inr differ) = λ up last t r f. still_prepared k s t r.phase (all.prepared k s (sym (get_other sites j k turn.state differ) ∙ there) up last t r f)
