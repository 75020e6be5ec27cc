-- In every reached world, letters on their way say what there is.
use Rattle.std.proofs.Common.{◌≡◌, ℕ, zero, suc, ◌+◌, ◌-◌, ◌<◌, ◌≤◌, ◌==◌, Bool, true, false, ◌&&◌, ◌||◌, List, [], ◌∷◌, ◌++◌, map, fold, replicate, Option, Some, None, if◌then◌else◌, arith, sym, subst, ap, ◌∙◌, refl}
use Rattle.std.specs.Prelude.{⊤, max, slice_get, slice_set, slice_index, slice_index_or}
use Rattle.std.specs.List.{AllByRecursion, list_all}
use Rattle.std.specs.Option.{option_map_or}
use Rattle.std.proofs.lemmas.Bool.{and_parts, true≢false}
use Rattle.raid_base.specs.declared.names.Txn.{Txn}
use Rattle.raid_base.specs.declared.names.Item.{Item}
use Rattle.raid_base.specs.declared.names.Site.{Site}
use Rattle.raid_base.specs.declared.entry.Noted.{Noted}
use Rattle.raid_base.specs.Sites.{site}
use Rattle.raid_workload.specs.declared.workload.Workload.{Workload}
use Rattle.raid_workload.specs.Parts.{sites}
use Rattle.raid_rules.specs.History.{noted}
use Rattle.raid_rules.specs.Sessions.{last_session}
use Rattle.raid_message.specs.declared.letter.Message.{Message}
use Rattle.raid_message.specs.declared.letter.Message.TheVariants as letters
use Rattle.raid_message.specs.declared.letter.Letter.{Letter}
use Rattle.raid_message.specs.declared.letter.Pick.{Pick}
use Rattle.raid_steps.specs.State.{Out, SiteState, opened}
use Rattle.raid_steps.specs.Sequencer.{hear_sequencer, is_hello}
use Rattle.raid_steps.specs.Site.{hear_site}
use Rattle.raid_steps.specs.Table.{is_site_number, is_order, is_news, may_monitor}
use Rattle.raid_steps.specs.World.{World, hear, hear_at, session_of, link, set_link, post, take_front, pick, run, open_world, first_letter, first_links}
use Rattle.raid_steps.proofs.Addressed.{hear_right}
use Rattle.raid_sessions.proofs.Agreed.{front_asked}
use Rattle.raid_sessions.proofs.Holds.{last_of, IsSpoken, Holds}
use Rattle.raid_sessions.proofs.Lists.{all_append, all_weaken, get_below, get_known, get_set}
use Rattle.raid_sessions.proofs.Reached as sessions
use Rattle.raid_sessions.proofs.Reached.{from_below}
use Rattle.raid_asks.proofs.Facts.{placed_order}
use Rattle.raid_asks.proofs.Homes.{IsTold, AreTold, Homes}
use Rattle.raid_asks.proofs.Reached as asks
use Rattle.raid_asks.proofs.Steps.{hear_steps}
use Rattle.raid_letters.specs.Says.{IsBefore, AreInTurn, NoteSays, AskSays, PeerSays, LettersSay}
use Rattle.raid_letters.proofs.Copies.{CopySays, copies_right_heard}
use Rattle.raid_letters.proofs.Later.{Later, later_same, later_note, later_ask, later_peer, steps_later}
use Rattle.raid_letters.proofs.Sends.{PlainSays, Says, steps_say}
use Rattle.raid_letters.proofs.Sites.{site_says}
use Rattle.raid_letters.proofs.Turns.{IsFresh, IsBehind, ArePaired, before_fresh, note_old, steps_in_turn}
use Rattle.raid_letters.proofs.Waits.{WaitSays, IsAsked, later_wait, waiting_says, down_waits, site_waits}

-- what holds at each place still does where another element is put
pub set_at : {X : Type 0} (P : ℕ → X → Type 0) (xs : List X) (k : ℕ) (y d : X) → ((j : ℕ) → P j (slice_index_or xs j d)) → P k y → (j : ℕ) → P j (slice_index_or (slice_set xs k y) j d)
set_at P [] k y d all h j = all j
set_at P (x ∷ xs) zero y d all h zero = h
set_at P (x ∷ xs) zero y d all h (suc j) = all (suc j)
set_at P (x ∷ xs) (suc k) y d all h zero = all zero
set_at P (x ∷ xs) (suc k) y d all h (suc j) = set_at (λ i. P (suc i)) xs k y d (λ i. all (suc i)) h j

pub all_at : {X : Type 0} (P : X → Type 0) (xs : List X) (k : ℕ) (d : X) → AllByRecursion P xs → P d → P (slice_index_or xs k d)
all_at P [] k d a h = h
all_at P (x ∷ xs) zero d a h = a.0
all_at P (x ∷ xs) (suc k) d a h = all_at P xs k d a.1 h

pub all_empty : {X : Type 0} (P : X → Type 0) (n : ℕ) (x : X) → P x → AllByRecursion P (replicate n x)
all_empty P zero x h = tt
all_empty P (suc n) x h = (h, all_empty P n x h)

-- the monitor asks for no read
abbrev pub IsOrder : Message → Type 0
IsOrder (letters.ReadAsk t ask x) = ⊥
IsOrder other = ⊤

order_plain : (m : Message) → is_news m || is_order m ≡ true → IsOrder m
order_plain (letters.ReadAsk t ask x) q = absurd (true≢false (sym q))
order_plain other q = tt

first_or : (a b c d : Bool) → (a && b) || (c && d) ≡ true → b || d ≡ true
first_or a true c d q = refl
first_or true false true true q = refl
first_or true false true false q = absurd (true≢false (sym q))
first_or true false false d q = absurd (true≢false (sym q))
first_or false false true true q = refl
first_or false false true false q = absurd (true≢false (sym q))
first_or false false false d q = absurd (true≢false (sym q))

-- what holds of each link still does where one is set
pub set_all : (P : ℕ → ℕ → List Letter → Type 0) (links : List (List (List Letter))) (a b : ℕ) (queue : List Letter) → ((server from : ℕ) → P server from (link links server from)) → P a b queue →
    (server from : ℕ) → P server from (link (set_link links a b queue) server from)
set_all P links a b queue h q =
    set_at (λ server row. (from : ℕ) → P server from (slice_index_or row from [])) links a (slice_set (slice_index_or links a []) b queue) [] h
    (set_at (λ from queue. P a from queue) (slice_index_or links a []) b queue [] (h a) q)

-- the sequencer's letters stand in turn on each link
abbrev pub TurnsAt : ℕ → ℕ → List Letter → Type 0
TurnsAt server from queue = from ≡ 1 → AreInTurn queue

abbrev pub LinksTurn : List (List (List Letter)) → Type 0
LinksTurn links = (server from : ℕ) → TurnsAt server from (link links server from)

-- others send nothing there
posts_other : (d session clock : ℕ) (outs : List Out) (links : List (List (List Letter))) → (d ≡ 1 → ⊥) → LinksTurn links → LinksTurn (fold (post d session clock) links outs)
posts_other d session clock [] links other h = h
posts_other d session clock (out ∷ outs) links other h =
    posts_other d session clock outs (post d session clock links out) other
    (set_all TurnsAt links out.0 d (link links out.0 d ++ record { clock = clock; from = session; to = out.1; message = out.2 } ∷ []) h (λ e. absurd (other e)))

turn_push : (ls : List Letter) (l : Letter) → AreInTurn ls → AllByRecursion (λ (k : Letter). IsBefore k.message l.message) ls → AreInTurn (ls ++ l ∷ [])
turn_push [] l a b = (tt, tt)
turn_push (k ∷ ls) l a b = (all_append (λ (m : Letter). IsBefore k.message m.message) ls (l ∷ []) a.0 (b.0, tt), turn_push ls l a.1 b.1)

-- what is still to be sent may stand behind what there is
abbrev MayFollow : ℕ → List Letter → Out → Type 0
MayFollow server queue y = y.0 ≡ server → AllByRecursion (λ (l : Letter). IsBefore l.message y.2) queue

abbrev TurnsWith : List Out → ℕ → ℕ → List Letter → Type 0
TurnsWith outs server from queue = from ≡ 1 → AreInTurn queue × AllByRecursion (MayFollow server queue) outs

follow_more : (x : Out) (queue : List Letter) (l : Letter) → l.message ≡ x.2 → (outs : List Out) → AllByRecursion (MayFollow x.0 queue) outs → AllByRecursion (IsBehind x) outs → AllByRecursion (MayFollow x.0 (queue ++ l ∷ [])) outs
follow_more x queue l q [] a b = tt
follow_more x queue l q (y ∷ outs) a b =
    ((λ e. all_append (λ (k : Letter). IsBefore k.message y.2) queue (l ∷ []) (a.0 e) (subst (λ m. IsBefore m y.2) (sym q) (b.0 (sym e)), tt)), follow_more x queue l q outs a.1 b.1)

posts_turn : (clock : ℕ) (outs : List Out) (links : List (List (List Letter))) → ArePaired outs → ((server from : ℕ) → TurnsWith outs server from (link links server from)) → LinksTurn (fold (post 1 0 clock) links outs)
posts_turn clock [] links a h = λ server from e. (h server from e).0
posts_turn clock (x ∷ outs) links a h =
    let l : Letter = record { clock = clock; from = 0; to = x.1; message = x.2 } in
    let queue = link links x.0 1 in
    let here = h x.0 1 refl in
    posts_turn clock outs (post 1 0 clock links x) a.1
    (set_all (TurnsWith outs) links x.0 1 (queue ++ l ∷ []) (λ server from e. ((h server from e).0, (h server from e).1.1)) (λ e. (turn_push queue l here.0 (here.1.0 refl), follow_more x queue l refl outs here.1.1 a.0)))

module _ (w : Workload) where
  -- a letter on the link to a server from another
  abbrev pub LetterSays : List Noted → ℕ → ℕ → Letter → Type 0
  LetterSays p server zero l = IsOrder l.message
  LetterSays p server (suc zero) l = NoteSays w p (site (server - 1)) l.to l.message
  LetterSays p server (suc (suc j)) l = AskSays w p (site (j + 1)) l.message × PeerSays w p (site (server - 1)) (site (j + 1)) l.from l.message

  later_letter : (p q : List Noted) → Later p q → (server from : ℕ) (l : Letter) → LetterSays p server from l → LetterSays q server from l
  later_letter p q later server zero l r = r
  later_letter p q later server (suc zero) l r = later_note w p q later (site (server - 1)) l.to l.message r
  later_letter p q later server (suc (suc j)) l r = (later_ask w p q later (site (j + 1)) l.message r.0, later_peer w p q later (site (server - 1)) (site (j + 1)) l.from l.message r.1)

  abbrev pub QueueSays : List Noted → ℕ → ℕ → List Letter → Type 0
  QueueSays p server from queue = AllByRecursion (LetterSays p server from) queue

  abbrev pub LinksSay : List Noted → List (List (List Letter)) → Type 0
  LinksSay p links = (server from : ℕ) → QueueSays p server from (link links server from)

  set_says : (p : List Noted) (links : List (List (List Letter))) (a b : ℕ) (queue : List Letter) → LinksSay p links → QueueSays p a b queue → LinksSay p (set_link links a b queue)
  set_says p links a b queue h q = set_all (QueueSays p) links a b queue h q

  -- what a server sends in a session
  abbrev SentSays : List Noted → ℕ → ℕ → ℕ → Out → Type 0
  SentSays p server session clock out = LetterSays p out.0 server (record { clock = clock; from = session; to = out.1; message = out.2 })

  posts_say : (p : List Noted) (server session clock : ℕ) (outs : List Out) (links : List (List (List Letter))) → AllByRecursion (SentSays p server session clock) outs → LinksSay p links → LinksSay p (fold (post server session clock) links outs)
  posts_say p server session clock [] links a h = h
  posts_say p server session clock (out ∷ outs) links a h =
      posts_say p server session clock outs (post server session clock links out) a.1
      (set_says p links out.0 server _ h (all_append (LetterSays p out.0 server) (link links out.0 server) (record { clock = clock; from = session; to = out.1; message = out.2 } ∷ []) (h out.0 server) (a.0, tt)))

  step_says : (p q : List Noted) (links : List (List (List Letter))) (server from session clock : ℕ) (l : Letter) (rest : List Letter) (outs : List Out) → Later p q → link links server from ≡ l ∷ rest → LinksSay p links →
      AllByRecursion (SentSays q server session clock) outs → LinksSay q (fold (post server session clock) (set_link links server from rest) outs)
  step_says p q links server from session clock l rest outs later front h a =
      let still : LinksSay q links = λ c d. all_weaken (LetterSays p c d) (LetterSays q c d) (link links c d) (later_letter p q later c d) (h c d) in
      posts_say q server session clock outs (set_link links server from rest) a (set_says q links server from rest still (subst (QueueSays q server from) front (still server from)).1)

  -- what the monitor sends
  monitor_says : (p : List Noted) (session clock : ℕ) (outs : List Out) → list_all (may_monitor w) outs ≡ true → AllByRecursion (SentSays p 0 session clock) outs
  monitor_says p session clock [] q = tt
  monitor_says p session clock (out ∷ outs) q =
      let both = and_parts (may_monitor w out) (list_all (may_monitor w) outs) q in
      (order_plain out.2 (first_or (out.0 == 1) (is_news out.2) (is_site_number w out.0) (is_order out.2) both.0), monitor_says p session clock outs both.1)

  -- what the sequencer sends
  joined : (p : List Noted) (here : Site) (to : ℕ) (m : Message) → PlainSays w p here to m → CopySays w here m → NoteSays w p here to m
  joined p here to (letters.CopyDo x target n) a b = b
  joined p here to other a b = a

  both_say : (p : List Noted) (session clock : ℕ) (outs : List Out) → AllByRecursion (Says w p) outs → AllByRecursion (λ (out : Out). CopySays w (site (out.0 - 1)) out.2) outs → AllByRecursion (SentSays p 1 session clock) outs
  both_say p session clock [] a b = tt
  both_say p session clock (out ∷ outs) a b = (joined p (site (out.0 - 1)) out.1 out.2 a.0 b.0, both_say p session clock outs a.1 b.1)

  pub record WorldSays (s : World) : Type 0 where
    pub reached : sessions.Reached w s
    pub homes : Homes w s.servers s.links
    pub says : LinksSay (noted s.servers.sequencer.history) s.links
    pub turns : LinksTurn s.links
    pub waits : AllByRecursion (WaitSays w (noted s.servers.sequencer.history)) s.servers.sequencer.history

  module _ (s : World) (r : WorldSays s) where
    abbrev told : List Noted
    told = noted s.servers.sequencer.history

    -- the sequencer's step
    module _ (from clock : ℕ) (l : Letter) (rest : List Letter) (front : link s.links 1 from ≡ l ∷ rest) where
      below : from < w.sites + 2
      below = from_below (w.sites + 2) s.links 1 from l rest r.reached.square front

      opens : (x : Site) → l.message ≡ letters.Hello → from ≡ x.0 + 1 → 1 ≤ x.0 → l.from ≡ last_session told x + 1
      opens x hello at some =
          let k = x.0 - 1 in
          let place : from ≡ k + 2 = omega (arith, at, some) in
          let same : site (k + 1) ≡ x = ap (λ n. let z : Site = record { 0 = n } in z) (let e : k + 1 ≡ x.0 = omega (arith, some) in e) in
          let b = below in
          let long = r.reached.long in
          let known = get_known s.servers.sites k (omega (arith, b, place, long)) in
          front_asked w s r.reached k known.0 known.1 l rest (ap (link s.links 1) (sym place) ∙ front)
          ∙ ap (λ h. if h then last_session told (site (k + 1)) + 1 else last_session told (site (k + 1))) (ap is_hello hello) ∙ ap (λ z. last_session told z + 1) same

      all_say : ((t : Txn) (ask : ℕ) (x : Item) → l.message ≡ letters.ReadAsk t ask x → 1 ≤ ask) →
          LinksSay (noted (hear_sequencer w s.servers.sequencer from l).state.history) (fold (post 1 0 clock) (set_link s.links 1 from rest) (hear_sequencer w s.servers.sequencer from l).outs)
      all_say asked =
          let turn = hear_sequencer w s.servers.sequencer from l in
          let steps = hear_steps w from l told s.servers.sequencer from refl refl r.reached.placed r.reached.quiet in
          step_says told (noted turn.state.history) s.links 1 from 0 clock l rest turn.outs (steps_later w from l told opens (opened s.servers.sequencer) turn steps) front r.says
          (both_say (noted turn.state.history) 0 clock turn.outs (steps_say w from l told opens asked (opened s.servers.sequencer) turn steps tt) (copies_right_heard w s.servers.sequencer from l))

      pub steps_on : Later told (noted (hear_sequencer w s.servers.sequencer from l).state.history)
      steps_on =
          let steps = hear_steps w from l told s.servers.sequencer from refl refl r.reached.placed r.reached.quiet in
          steps_later w from l told opens (opened s.servers.sequencer) (hear_sequencer w s.servers.sequencer from l) steps

      -- along its links
      may_follow : (links : List (List (List Letter))) (server d : ℕ) → d ≡ 1 → QueueSays told server d (link links server d) → (outs : List Out) → AllByRecursion (λ (out : Out). IsFresh told out.2) outs → AllByRecursion (MayFollow server (link links server d)) outs
      may_follow links server d e a [] fresh = tt
      may_follow links server d e a (y ∷ outs) fresh = (
        (λ at. all_weaken (LetterSays told server d) (λ (l : Letter). IsBefore l.message y.2) (link links server d)
            (λ l q. before_fresh told l.message y.2 (note_old w told (site (server - 1)) l.to l.message (placed_order w s.servers.sequencer.history r.reached.placed).numbered (subst (λ d. LetterSays told server d l) e q)) fresh.0) a),
        may_follow links server d e a outs fresh.1,
      )

      sequencer_turns : LinksTurn (fold (post 1 0 clock) (set_link s.links 1 from rest) (hear_sequencer w s.servers.sequencer from l).outs)
      sequencer_turns =
          let turn = hear_sequencer w s.servers.sequencer from l in
          let steps = hear_steps w from l told s.servers.sequencer from refl refl r.reached.placed r.reached.quiet in
          let sent = steps_in_turn w from l told opens (opened s.servers.sequencer) turn steps (record { later = later_same told; old = tt; fresh = tt; pairs = tt }) in
          let taken = set_link s.links 1 from rest in
          let says = set_says told s.links 1 from rest r.says (subst (QueueSays told 1 from) front (r.says 1 from)).1 in
          let turns = set_all TurnsAt s.links 1 from rest r.turns (λ e. (subst AreInTurn front (r.turns 1 from e)).1) in
          posts_turn clock turn.outs taken sent.pairs (λ server d e. (turns server d e, may_follow taken server d e (says server d) turn.outs sent.fresh))

    sequencer_says : (from clock : ℕ) (l : Letter) (rest : List Letter) → link s.links 1 from ≡ l ∷ rest → QueueSays told 1 from (l ∷ rest) →
        LinksSay (noted (hear_sequencer w s.servers.sequencer from l).state.history) (fold (post 1 0 clock) (set_link s.links 1 from rest) (hear_sequencer w s.servers.sequencer from l).outs)
    sequencer_says zero clock l rest front a = all_say zero clock l rest front (λ t ask x q. absurd (subst IsOrder q a.0))
    sequencer_says (suc zero) clock l rest front a = step_says told told s.links 1 1 0 clock l rest [] (later_same told) front r.says tt
    sequencer_says (suc (suc k)) clock l rest front a = all_say (suc (suc k)) clock l rest front (λ t ask x q. (subst (AskSays w told (site (k + 1))) q a.0.0).1)

    -- a site's step
    module _ (k from clock : ℕ) (l : Letter) (rest : List Letter) (front : link s.links (suc (suc k)) from ≡ l ∷ rest) where
      inside : from < w.sites + 2
      inside = from_below (w.sites + 2) s.links (suc (suc k)) from l rest r.reached.square front

      says_front : QueueSays told (suc (suc k)) from (l ∷ rest)
      says_front = subst (QueueSays told (suc (suc k)) from) front (r.says (suc (suc k)) from)

      place : suc (suc k) ≡ k + 2
      place = omega arith

      number : site (suc (suc k) - 1) ≡ site (k + 1)
      number = ap site (let e : suc (suc k) - 1 ≡ k + 1 = omega arith in e)

      front_of : (d : ℕ) → from ≡ d → link s.links (k + 2) d ≡ l ∷ rest
      front_of d q = ap (λ c. link s.links c d) (sym place) ∙ ap (link s.links (suc (suc k))) (sym q) ∙ front

      note : (state : SiteState) → slice_get s.servers.sites k ≡ Some state → from ≡ 1 → IsTold w (site (k + 1)) l.message × NoteSays w told (site (k + 1)) l.to l.message
      note state here q = (
        (subst (AreTold w (site (k + 1))) (front_of 1 q) (r.homes k state here).notes).0,
        subst (λ z. NoteSays w told z l.to l.message) number (subst (λ d. LetterSays told (suc (suc k)) d l) q says_front.0),
      )

      word : (state : SiteState) → slice_get s.servers.sites k ≡ Some state → (j : ℕ) → from ≡ j + 2 → (l.to ≤ last_session told (site (k + 1))) × PeerSays w told (site (k + 1)) (site (j + 1)) l.from l.message
      word state here j q =
          let high = inside in
          let long = r.reached.long in
          let low = get_below s.servers.sites k state here in
          let spoken = r.reached.spoken k j (omega (arith, low, long)) (omega (arith, high, q)) in
          let other : from ≡ suc (suc j) = omega (arith, q) in (
            (subst (AllByRecursion (IsSpoken w (last_of s.servers.sequencer.history) k j)) (front_of (j + 2) q) spoken).0.0,
            subst (λ z. PeerSays w told z (site (j + 1)) l.from l.message) number (subst (λ d. LetterSays told (suc (suc k)) d l) other says_front.0).1,
          )

      site_step : (links : List (List (List Letter))) (o : Option SiteState) → slice_get s.servers.sites k ≡ o → Holds w (hear_at w s.servers k from l o).0 links →
          LinksSay (noted (hear_at w s.servers k from l o).0.sequencer.history) (fold (post (suc (suc k)) (session_of (hear_at w s.servers k from l o).0 (suc (suc k))) clock) (set_link s.links (suc (suc k)) from rest) (hear_at w s.servers k from l o).1)
      site_step links None here after = step_says told told s.links (suc (suc k)) from (session_of s.servers (suc (suc k))) clock l rest [] (later_same told) front r.says tt
      site_step links (Some state) here after =
          let turn = hear_site w state from l in
          let own = get_set s.servers.sites k turn.state (get_below s.servers.sites k state here) in
          let same = ap (λ (o : Option SiteState). option_map_or (λ (state : SiteState). state.session) o 0) own in
          let housed = r.homes k state here in
          let says = site_says w told (site (k + 1)) state.session state l housed.place refl housed.running housed.next from (note state here) (word state here) (after.vectors k turn.state own) in
          subst (λ n. LinksSay told (fold (post (suc (suc k)) n clock) (set_link s.links (suc (suc k)) from rest) turn.outs)) (sym same)
          (step_says told told s.links (suc (suc k)) from turn.state.session clock l rest turn.outs (later_same told) front r.says says)

    hear_says : (server from clock : ℕ) (l : Letter) (rest : List Letter) (links : List (List (List Letter))) → link s.links server from ≡ l ∷ rest → Holds w (hear w s.servers server from l).0 links →
        LinksSay (noted (hear w s.servers server from l).0.sequencer.history) (fold (post server (session_of (hear w s.servers server from l).0 server) clock) (set_link s.links server from rest) (hear w s.servers server from l).1)
    hear_says zero from clock l rest links front after =
        step_says told told s.links 0 from 0 clock l rest (hear w s.servers zero from l).1 (later_same told) front r.says
        (monitor_says told 0 clock (hear w s.servers zero from l).1 (hear_right w s.servers zero from l (from_below (w.sites + 2) s.links 0 from l rest r.reached.square front)))
    hear_says (suc zero) from clock l rest links front after = sequencer_says from clock l rest front (subst (QueueSays told 1 from) front (r.says 1 from))
    hear_says (suc (suc k)) from clock l rest links front after = site_step k from clock l rest front links (slice_get s.servers.sites k) refl after

    taken_turns : (server from : ℕ) (l : Letter) (rest : List Letter) → link s.links server from ≡ l ∷ rest → LinksTurn (set_link s.links server from rest)
    taken_turns server from l rest front = set_all TurnsAt s.links server from rest r.turns (λ e. (subst AreInTurn front (r.turns server from e)).1)

    hear_turns : (server from clock : ℕ) (l : Letter) (rest : List Letter) → link s.links server from ≡ l ∷ rest →
        LinksTurn (fold (post server (session_of (hear w s.servers server from l).0 server) clock) (set_link s.links server from rest) (hear w s.servers server from l).1)
    hear_turns zero from clock l rest front = posts_other 0 0 clock (hear w s.servers zero from l).1 (set_link s.links 0 from rest) (λ e. omega (arith, e)) (taken_turns 0 from l rest front)
    hear_turns (suc zero) from clock l rest front = sequencer_turns from clock l rest front
    hear_turns (suc (suc k)) from clock l rest front =
        posts_other (suc (suc k)) (session_of (hear w s.servers (suc (suc k)) from l).0 (suc (suc k))) clock (hear w s.servers (suc (suc k)) from l).1 (set_link s.links (suc (suc k)) from rest) (λ e. omega (arith, e)) (taken_turns (suc (suc k)) from l rest front)

    -- who waits
    asked_says : (here : Site) (m : Message) → AskSays w told here m → IsAsked w told m
    asked_says here (letters.CommitAsk t request) q = q.1
    asked_says here other q = tt

    sequencer_waits : (from : ℕ) (l : Letter) (rest : List Letter) → QueueSays told 1 from (l ∷ rest) → AllByRecursion (WaitSays w told) (hear_sequencer w s.servers.sequencer from l).state.history
    sequencer_waits zero l rest a = down_waits w told s.servers.sequencer l.message r.waits
    sequencer_waits (suc zero) l rest a = r.waits
    sequencer_waits (suc (suc k)) l rest a = site_waits w told s.servers.sequencer (site (k + 1)) l (asked_says (site (k + 1)) l.message a.0.0) r.waits

    hear_waits : (server from : ℕ) (l : Letter) (rest : List Letter) → link s.links server from ≡ l ∷ rest →
        AllByRecursion (WaitSays w (noted (hear w s.servers server from l).0.sequencer.history)) (hear w s.servers server from l).0.sequencer.history
    hear_waits zero from l rest front = r.waits
    hear_waits (suc zero) from l rest front =
        let turn = hear_sequencer w s.servers.sequencer from l in
        all_weaken (WaitSays w told) (WaitSays w (noted turn.state.history)) turn.state.history (later_wait w told (noted turn.state.history) (steps_on from 0 l rest front))
        (sequencer_waits from l rest (subst (QueueSays told 1 from) front (r.says 1 from)))
    hear_waits (suc (suc k)) from l rest front = go (slice_get s.servers.sites k)
      where
        go : (o : Option SiteState) → AllByRecursion (WaitSays w (noted (hear_at w s.servers k from l o).0.sequencer.history)) (hear_at w s.servers k from l o).0.sequencer.history
        go None = r.waits
        go (Some state) = r.waits

  front_says : (s : World) (server from : ℕ) (queue : List Letter) → link s.links server from ≡ queue → WorldSays s → WorldSays (take_front w s server from queue)
  front_says s server from [] q r = r
  front_says s server from (l ∷ rest) q r =
      let after = sessions.front_reached w s server from (l ∷ rest) q r.reached in
      record {
        reached = after;
        homes = asks.front_home w s server from (l ∷ rest) q r.reached r.homes;
        says = hear_says s r server from (1 + max (slice_index s.clocks server) l.clock) l rest (take_front w s server from (l ∷ rest)).links q after;
        turns = hear_turns s r server from (1 + max (slice_index s.clocks server) l.clock) l rest q;
        waits = hear_waits s r server from l rest q;
      }

  picks_say : (s : World) (ps : List Pick) → WorldSays s → WorldSays (fold (pick w) s ps)
  picks_say s [] r = r
  picks_say s (p ∷ ps) r = picks_say (pick w s p) ps (front_says s p.server p.from (link s.links p.server p.from) refl r)

  -- the start
  abbrev QueueOpen : List Letter → Type 0
  QueueOpen queue = (server from : ℕ) → QueueSays [] server from queue

  first_says : (s : Site) → QueueOpen (first_letter w s ∷ [])
  first_says s server zero = (tt, tt)
  first_says s server (suc zero) = (tt, tt)
  first_says s server (suc (suc j)) = ((tt, tt), tt)

  empty_open : (n : ℕ) → AllByRecursion QueueOpen (replicate n [])
  empty_open n = all_empty QueueOpen n [] (λ server from. tt)

  rows_open : (ss : List Site) → AllByRecursion (AllByRecursion QueueOpen) (map (first_links w) ss)
  rows_open [] = tt
  rows_open (s ∷ ss) = (((λ server from. tt), (first_says s, empty_open w.sites)), rows_open ss)

  open_says : LinksSay [] (open_world w).links
  open_says server from =
      all_at QueueOpen (slice_index_or (open_world w).links server []) from []
      (all_at (AllByRecursion QueueOpen) (open_world w).links server [] (empty_open (w.sites + 2), (empty_open (w.sites + 2), rows_open (sites w))) tt) (λ server from. tt) server from

  rows_turn : (ss : List Site) → AllByRecursion (AllByRecursion AreInTurn) (map (first_links w) ss)
  rows_turn [] = tt
  rows_turn (s ∷ ss) = ((tt, ((tt, tt), all_empty AreInTurn w.sites [] tt)), rows_turn ss)

  open_turns : LinksTurn (open_world w).links
  open_turns server from e =
      all_at AreInTurn (slice_index_or (open_world w).links server []) from []
      (all_at (AllByRecursion AreInTurn) (open_world w).links server [] (all_empty AreInTurn (w.sites + 2) [] tt, (all_empty AreInTurn (w.sites + 2) [] tt, rows_turn (sites w))) tt) tt

  pub reaches : (schedule : List Pick) → WorldSays (run w schedule)
  reaches schedule = picks_say (open_world w) schedule (record { reached = sessions.open_reached w; homes = asks.open_home w; says = open_says; turns = open_turns; waits = tt })

  pub runs_say : (schedule : List Pick) → LettersSay w (run w schedule)
  runs_say schedule = record {
    notes = λ k. all_weaken (LetterSays p (k + 2) 1) (λ (l : Letter). NoteSays w p (site (k + 1)) l.to l.message) (link links (k + 2) 1) (λ l q. subst (λ z. NoteSays w p z l.to l.message) (back k) q) (says (k + 2) 1);
    asks = λ k. subst (λ c. AllByRecursion (λ (l : Letter). AskSays w p (site (k + 1)) l.message) (link links 1 c)) (two k)
        (all_weaken (LetterSays p 1 (suc (suc k))) (λ (l : Letter). AskSays w p (site (k + 1)) l.message) (link links 1 (suc (suc k))) (λ l q. q.0) (says 1 (suc (suc k))));
    turns = λ k. (reaches schedule).turns (k + 2) 1 refl;
    waits = waiting_says w (run w schedule).servers.sequencer.history (reaches schedule).waits;
    peers = λ k j. subst (λ c. AllByRecursion (λ (l : Letter). PeerSays w p (site (k + 1)) (site (j + 1)) l.from l.message) (link links (k + 2) c)) (two j)
        (all_weaken (LetterSays p (k + 2) (suc (suc j))) (λ (l : Letter). PeerSays w p (site (k + 1)) (site (j + 1)) l.from l.message) (link links (k + 2) (suc (suc j)))
        (λ l q. subst (λ z. PeerSays w p z (site (j + 1)) l.from l.message) (back k) q.1) (says (k + 2) (suc (suc j))));
  }
    where
      p : List Noted
      p = noted (run w schedule).servers.sequencer.history

      links : List (List (List Letter))
      links = (run w schedule).links

      says : LinksSay p links
      says = (reaches schedule).says

      back : (k : ℕ) → site (k + 2 - 1) ≡ site (k + 1)
      back k = ap site (let e : k + 2 - 1 ≡ k + 1 = omega arith in e)

      two : (k : ℕ) → suc (suc k) ≡ k + 2
      two k = omega arith
