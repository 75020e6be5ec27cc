-- A site's step in the world keeps what programs are about.
use Rattle.std.proofs.Common.{◌≡◌, ◌≢◌, ◌⊎◌, inl, inr, ℕ, zero, suc, ◌+◌, ◌-◌, ◌<◌, ◌≤◌, ◌==◌, Bool, true, false, not, List, [], ◌∷◌, ◌++◌, Some, if◌then◌else◌, arith, sym, subst, ap, ◌∙◌, refl, append-nil}
use Rattle.std.specs.Prelude.{slice_get, slice_set}
use Rattle.std.specs.List.{AllByRecursion}
use Rattle.std.proofs.lemmas.Bool.{eqb-true, true≢false}
use Rattle.raid_base.specs.declared.names.Txn.{Txn}
use Rattle.raid_base.specs.declared.names.Item.{Item}
use Rattle.raid_base.specs.declared.names.Site.{Site}
use Rattle.raid_base.specs.declared.entry.Noted.{Noted}
use Rattle.raid_base.specs.Names.{is_txn, has_txn}
use Rattle.raid_base.specs.Sites.{site}
use Rattle.raid_workload.specs.declared.workload.Workload.{Workload}
use Rattle.raid_rules.specs.History.{noted, has_begun, has_ended}
use Rattle.raid_rules.specs.Sessions.{last_session}
use Rattle.raid_message.specs.declared.letter.Message.{Message}
use Rattle.raid_message.specs.declared.letter.Message.TheVariants as letters
use Rattle.raid_message.specs.declared.letter.Letter.{Letter}
use Rattle.raid_steps.specs.State.{Turn, opened, Running, SiteState}
use Rattle.raid_steps.specs.Programs.{running_of}
use Rattle.raid_steps.specs.Site.{hear_site}
use Rattle.raid_steps.specs.Site as rows
use Rattle.raid_steps.specs.World.{World, Servers, link}
use Rattle.raid_placed.proofs.Orderly.{placed_whole}
use Rattle.raid_sessions.proofs.Agreed as agreed
use Rattle.raid_sessions.proofs.Holds.{last_of, IsHeard, IsSpoken}
use Rattle.raid_sessions.proofs.Lists.{get_below, get_set, get_other, some_is}
use Rattle.raid_sessions.proofs.Mail.{same_or_not, letters_to, moved, moved_taken, moved_sent, moved_other}
use Rattle.raid_sessions.proofs.Site.{hears_server}
use Rattle.raid_moves.specs.Moves.{Hears, Tells}
use Rattle.raid_moves.proofs.Places.{program_of, all_found, found_txn, nothing}
use Rattle.raid_moves.proofs.Steps.{site_moves}
use Rattle.raid_asks.specs.Way.{begins_of as begins}
use Rattle.raid_asks.proofs.Cares.{Stage, stopped, asleep, awake, begins_append, begins_told}
use Rattle.raid_asks.proofs.Cares as cares
use Rattle.raid_asks.proofs.Line.{Line, FineAt}
use Rattle.raid_asks.proofs.Programs.{told}
use Rattle.raid_asks.proofs.Waits.{Waits}
use Rattle.raid_letters.specs.Says.{NoteSays}
use Rattle.raid_letters.proofs.Runs.{LetterSays}
use Rattle.raid_layers.specs.Asks.{asks_of, IsOneAsk, reading, Claim, OfSequencer, HoldsOf, AllTokens, FallsLater, Talks}
use Rattle.raid_layers.proofs.AtSite.{step_now}
use Rattle.raid_layers.proofs.SiteTokens.{IsClosed, site_holds, deaf_step, talks_so}
use Rattle.raid_layers.proofs.Tokens.{TokenAt, tokens_step, none_of, falls_rest, asks_append}
use Rattle.raid_layers.proofs.Turns.{asked_by, asked_sent, asked_now, IsKnown, Now}
use Rattle.raid_layers.proofs.Worlds.{TalksAt, TalkAll, Landed, moves_only}

pub none_there : (rs : List Running) (t : Txn) (r : Running) → rs ≡ [] → program_of t rs ≡ Some r → ⊥
none_there rs t r e f = nothing (sym (ap (program_of t) e) ∙ f)

-- what a site's step may be to its programs: nothing happens; it stops; it comes up in its next session; or it hears another server
pub data HomeStep (state : SiteState) (from : ℕ) (turn : Turn SiteState) : Type 0 where
  same : turn.outs ≡ [] → turn.state ≡ state → HomeStep state from turn
  falls : ((t : Txn) → asked_by t turn.outs ≡ []) → turn.state.up ≡ false → HomeStep state from turn
  rises : ((t : Txn) → asked_by t turn.outs ≡ []) → turn.state.session ≡ state.session + 1 → HomeStep state from turn
  hears : state.up ≡ true → (from ≡ 0 → ⊥) → turn.state.up ≡ state.up → turn.state.session ≡ state.session → HomeStep state from turn

pub home_step : (w : Workload) (state : SiteState) (from : ℕ) (letter : Letter) → HomeStep state from (hear_site w state from letter)
home_step w state from letter = go state.up refl from refl
  where
    stops : (message : Message) → HomeStep state from (rows.stop w state message)
    stops letters.Stop = falls (λ t. refl) refl
    stops other = same refl refl

    returns : (message : Message) → HomeStep state from (rows.return state message)
    returns letters.Return = rises (λ t. refl) refl
    returns other = same refl refl

    go : (u : Bool) → state.up ≡ u → (f : ℕ) → from ≡ f → HomeStep state from (if u then rows.hear_up w state f letter else rows.hear_down state f letter)
    go true up zero of = stops letter.message
    go true up (suc i) of = (let kept = hears_server w state.up state.session state i letter (refl, refl, refl) in hears up (λ e. omega (arith, e, of)) kept.0 kept.1)
    go false up zero of = returns letter.message
    go false up (suc i) of = same refl refl

module _ (w : Workload) (s : Servers) (links : List (List (List Letter))) (landed : Landed w s links) (all : TalkAll w s links) (from clock : ℕ) (letter : Letter) (rest : List Letter) (known : from < w.sites + 2) (j : ℕ) (state : SiteState)
    (at : slice_get s.sites j ≡ Some state) (front : link links (suc (suc j)) from ≡ letter ∷ rest) where
  abbrev turn : Turn SiteState
  turn = hear_site w state from letter

  abbrev after : List (List (List Letter))
  after = moved links (suc (suc j)) from turn.state.session clock rest turn.outs

  abbrev p : List Noted
  p = noted s.sequencer.history

  abbrev m : ℕ
  m = state.session

  abbrev asks : List Letter
  asks = link links 1 (j + 2)

  abbrev bs : List Txn
  bs = begins m asks

  place : suc (suc j) ≡ j + 2
  place = omega arith

  low : j < w.sites
  low = (let b = get_below s.sites j state at in let l = landed.holds.long in omega (arith, b, l))

  inside : suc (suc j) < w.sites + 2
  inside = (let b = low in omega (arith, b))

  front_here : (d : ℕ) → from ≡ d → link links (j + 2) d ≡ letter ∷ rest
  front_here d q = ap (λ c. link links c d) (sym place) ∙ ap (link links (suc (suc j))) (sym q) ∙ front

  -- the links
  asks_after : link after 1 (j + 2) ≡ asks ++ letters_to 1 turn.state.session clock turn.outs
  asks_after =
      ap (link after 1) (sym place) ∙ moved_sent (w.sites + 2) links (suc (suc j)) from turn.state.session clock rest turn.outs landed.holds.square inside 1 (omega arith) (λ e. omega (arith, e))
      ∙ ap (λ d. link links 1 d ++ letters_to 1 turn.state.session clock turn.outs) place

  asked_after : (t : Txn) → asks_of t (link after 1 (j + 2)) ≡ asked_now p links j m asks bs t turn.outs
  asked_after t = ap (asks_of t) asks_after ∙ asks_append t asks (letters_to 1 turn.state.session clock turn.outs) ∙ ap (λ ms. asks_of t asks ++ ms) (asked_sent t turn.state.session clock turn.outs)

  asks_other : (k : ℕ) → k ≢ j → link after 1 (k + 2) ≡ link links 1 (k + 2)
  asks_other k differ = moved_other (w.sites + 2) links (suc (suc j)) from turn.state.session clock rest turn.outs landed.holds.square inside 1 (k + 2) (omega arith) (λ e. differ (omega (arith, e))) (inl (λ e. omega (arith, e)))

  falls_other : (k : ℕ) → k ≢ j → k + 2 < w.sites + 2 → link after (k + 2) 1 ≡ link links (k + 2) 1
  falls_other k differ room = moved_other (w.sites + 2) links (suc (suc j)) from turn.state.session clock rest turn.outs landed.holds.square inside (k + 2) 1 room (λ e. omega (arith, e)) (inl (λ e. differ (omega (arith, e))))

  falls_own : (t : Txn) (ask : ℕ) (x : Site) (z : ℕ) (b : Bool) → FallsLater p t m ask x z b (link links (j + 2) 1) → FallsLater p t m ask x z b (link after (j + 2) 1)
  falls_own t ask x z b h = go (same_or_not from 1)
    where
      go : (from ≡ 1) ⊎ (from ≢ 1) → FallsLater p t m ask x z b (link after (j + 2) 1)
      go (inl one) =
          let gone = ap (λ c. link after c 1) (sym place) ∙ ap (link after (suc (suc j))) (sym one) ∙ moved_taken (w.sites + 2) links (suc (suc j)) from turn.state.session clock rest turn.outs landed.holds.square inside known (λ e. omega (arith, e, one)) in
          subst (FallsLater p t m ask x z b) (sym gone) (falls_rest p t m ask x z b letter rest (subst (FallsLater p t m ask x z b) (front_here 1 one) h))
      go (inr other) =
          let kept = moved_other (w.sites + 2) links (suc (suc j)) from turn.state.session clock rest turn.outs landed.holds.square inside (suc (suc j)) 1 inside (λ e. omega (arith, e)) (inr (λ e. other (sym e))) in
          subst (FallsLater p t m ask x z b) (sym (ap (λ c. link after c 1) (sym place) ∙ kept ∙ ap (λ c. link links c 1) place)) h

  tokens : (t : Txn) (k mm : ℕ) (P : Claim) → IsClosed P → AllTokens links t k mm P → AllTokens after t k mm P
  tokens t k mm P closed h = tokens_step t k mm P (suc (suc j)) from turn.state.session clock letter rest turn.outs links front (site_holds w state from letter t k mm P closed j due (landed.homes j state at).ascend) h
    where
      fronted : HoldsOf t k mm P (suc (suc j)) from letter.to letter.message
      fronted = (subst (AllByRecursion (TokenAt t k mm P (suc (suc j)) from)) front (h (suc (suc j)) from)).0

      due : (u : Txn) (ask : ℕ) (x : Item) (z : Site) (n : ℕ) → Tells w state from letter (letters.ReadDo u ask x z n) → is_txn t u ≡ true → (z.0 == k + 1) ≡ true → (n == mm) ≡ true → (server : ℕ) × P ask (reading server x)
      due u ask x z n tells a b c = (suc (suc j), subst (OfSequencer t k mm P (suc (suc j)) letter.to) tells.is (subst (λ f. HoldsOf t k mm P (suc (suc j)) f letter.to letter.message) tells.by fronted) a b c)

  -- what the site hears is of a session that the history has
  pub heard_late : (from ≡ 0 → ⊥) → letter.to ≤ last_session (noted s.sequencer.history) (site (j + 1))
  heard_late some = go from refl
    where
      go : (f : ℕ) → from ≡ f → letter.to ≤ last_session p (site (j + 1))
      go zero of = absurd (some of)
      go (suc zero) of = (subst (AllByRecursion (IsHeard w (last_of s.sequencer.history) j)) (front_here 1 of) (landed.holds.heard j low)).0.0
      go (suc (suc i)) of =
          let two : from ≡ i + 2 = omega (arith, of) in
          (subst (AllByRecursion (IsSpoken w (last_of s.sequencer.history) j i)) (front_here (i + 2) two) (landed.holds.spoken j i low (let b = known in omega (arith, b, of)))).0.0

  abbrev world : World
  world = record { servers = s; links = links; clocks = []; journals = [] }

  follows : last_session p (site (j + 1)) ≤ m
  follows = agreed.told_follows w world landed.holds j state at

  module _ (after_waits : Waits w (record s { sites = slice_set s.sites j (hear_site w state from letter).state }) (moved links (suc (suc j)) from (hear_site w state from letter).state.session clock rest (hear_site w state from letter).outs)) where
    abbrev Own : Type 0
    Own = ((t : Txn) → (has_ended p t ≡ true) ⊎ IsOneAsk p t (asks_of t (link after 1 (j + 2)))) × TalksAt w p after j turn.state

    silent : ((t : Txn) → asked_by t turn.outs ≡ []) → (t : Txn) → (has_ended p t ≡ true) ⊎ IsOneAsk p t (asks_of t (link after 1 (j + 2)))
    silent none t = subst (λ ms. (has_ended p t ≡ true) ⊎ IsOneAsk p t ms) (sym (asked_after t ∙ ap (λ ms. asks_of t asks ++ ms) (none t) ∙ append-nil (asks_of t asks))) (all.0 j t)

    -- nothing happens
    nothing_happens : turn.outs ≡ [] → turn.state ≡ state → Own
    nothing_happens none is = (
      silent (λ t. ap (asked_by t) none),
      subst (TalksAt w p after j) (sym is)
          (moves_only w s links landed all from clock letter rest known after j state (asks_after ∙ ap (λ outs. asks ++ letters_to 1 turn.state.session clock outs) none ∙ append-nil asks) (λ t P closed h. tokens t j m P closed h) (λ t ask x z b h. falls_own t ask x z b h) (all.1 j state at)),
    )

    -- it hears a server
    module _ (up : state.up ≡ true) (some : from ≡ 0 → ⊥) (up_same : turn.state.up ≡ state.up) (session_same : turn.state.session ≡ state.session) (last : last_session p (site (j + 1)) ≡ state.session) where
      opening : Now p links j m asks bs (opened state)
      opening = record {
        one = λ t. subst (λ ms. (has_ended p t ≡ true) ⊎ IsOneAsk p t ms) (sym (append-nil (asks_of t asks))) (all.0 j t);
        talks = λ t. subst (λ ms. Talks p links j m t ms (running_of state t)) (sym (append-nil (asks_of t asks))) (all.1 j state at up last t);
        known = λ t r f. knows t r f (landed.waits j state at).stage;
      }
        where
          either : (t : Txn) (b c : Bool) → has_begun p t ≡ b → c ≡ not b → has_txn bs t ≡ c → IsKnown p links j m asks bs t []
          either t true c begun is way = inl begun
          either t false c begun is way = inr (ap (λ ts. has_txn ts t) (append-nil bs) ∙ way ∙ is)

          knows : (t : Txn) (r : Running) → running_of state t ≡ Some r → Stage w j p state.up state.session state.running state.next (begins state.session asks) (link links (j + 2) 1) → IsKnown p links j m asks bs t []
          knows t r f (stopped d e z) = absurd (none_there state.running t r e f)
          knows t r f (asleep u l e z b) = absurd (none_there state.running t r e f)
          knows t r f (cares.fresh u l e z b n) = absurd (none_there state.running t r e f)
          knows t r f (awake u l fine c) =
              let its = subst (FineAt w (site (j + 1)) p bs) (found_txn t state.running r f) (all_found (λ (r : Running). FineAt w (site (j + 1)) p bs r.txn) (λ (r : Running). is_txn t r.txn) state.running r fine f) in
              either t (has_begun p t) (has_txn bs t) refl its.1 refl

      pub line : Line w (site (j + 1)) p (begins state.session (link links 1 (j + 2)) ++ told (hear_site w state from letter).outs)
      line = go (after_waits j turn.state (get_set s.sites j turn.state (get_below s.sites j state at))).stage
        where
          begins_is : begins turn.state.session (link after 1 (j + 2)) ≡ bs ++ told turn.outs
          begins_is = ap (begins turn.state.session) asks_after
              ∙ subst (λ z. begins z (asks ++ letters_to 1 z clock turn.outs) ≡ begins m asks ++ told turn.outs) (sym session_same) (begins_append m asks (letters_to 1 m clock turn.outs) ∙ ap (λ ts. begins m asks ++ ts) (begins_told m clock turn.outs))

          go : Stage w j p turn.state.up turn.state.session turn.state.running turn.state.next (begins turn.state.session (link after 1 (j + 2))) (link after (j + 2) 1) → Line w (site (j + 1)) p (bs ++ told turn.outs)
          go (stopped d e z) = absurd (true≢false (sym (up_same ∙ up) ∙ d))
          go (asleep u l e z b) = subst (Line w (site (j + 1)) p) (sym (sym begins_is ∙ b)) tt
          go (cares.fresh u l e z b n) = subst (Line w (site (j + 1)) p) (sym (sym begins_is ∙ b)) tt
          go (awake u l fine c) = subst (Line w (site (j + 1)) p) begins_is c.line

      note : from ≡ 1 → NoteSays w p (site (j + 1)) letter.to letter.message
      note of =
          let says = (subst (AllByRecursion (LetterSays w p (suc (suc j)) from)) front (landed.says (suc (suc j)) from)).0 in
          subst (λ z. NoteSays w p z letter.to letter.message) (ap site (let e : suc (suc j) - 1 ≡ j + 1 = omega arith in e)) (subst (λ d. LetterSays w p (suc (suc j)) d letter) of says)

      ends : Now p links j m asks bs turn
      ends =
          step_now w p links j state from letter rest bs asks (landed.homes j state at).place (ap (λ c. link links c from) (sym place) ∙ front) (placed_whole w s.sequencer.history landed.holds.placed) note some
          (λ t fresh P. none_of t j m w p links P landed.says fresh) landed.begun (landed.given j state at) turn (site_moves w state from letter (landed.homes j state at).ascend) line opening

      awake_own : Own
      awake_own = (
        (λ t. subst (λ ms. (has_ended p t ≡ true) ⊎ IsOneAsk p t ms) (sym (asked_after t)) (ends.one t)),
        (λ u l t. subst (λ ms. Talks p after j turn.state.session t ms (running_of turn.state t)) (sym (asked_after t))
            (subst (λ z. Talks p after j z t (asked_now p links j m asks bs t turn.outs) (running_of turn.state t)) (sym session_same)
            (talks_so p links after j m t (λ P closed h. tokens t j m P closed h) (λ ask x z b h. falls_own t ask x z b h) (asked_now p links j m asks bs t turn.outs) (running_of turn.state t) (ends.talks t)))),
      )

    own : Own
    own = go (home_step w state from letter)
      where
        go : HomeStep state from (hear_site w state from letter) → Own
        go (same none is) = nothing_happens none is
        go (falls none down) = (silent none, λ u l t. absurd (true≢false (sym u ∙ down)))
        go (rises none next) = (silent none, λ u l t. absurd (let f = follows in omega (arith, f, l, next)))
        go (hears up some up_same session_same) = by_session (same_or_not (last_session p (site (j + 1))) state.session)
          where
            by_session : (last_session p (site (j + 1)) ≡ state.session) ⊎ (last_session p (site (j + 1)) ≢ state.session) → Own
            by_session (inl last) = awake_own up some up_same session_same last
            by_session (inr differ) = (silent (deaf_step w state from letter deaf (landed.homes j state at).ascend), λ u l t. absurd (differ (l ∙ session_same)))
              where
                deaf : Hears state letter → ⊥
                deaf h = differ (let to = eqb-true letter.to state.session h.meant in let late = heard_late some in let f = follows in omega (arith, to, late, f))

    pub site_talks : TalkAll w (record s { sites = slice_set s.sites j (hear_site w state from letter).state }) (moved links (suc (suc j)) from (hear_site w state from letter).state.session clock rest (hear_site w state from letter).outs)
    site_talks = ((λ k t. ones k t (same_or_not k j)), (λ k other there. talk k other there (same_or_not k j)))
      where
        ones : (k : ℕ) (t : Txn) → (k ≡ j) ⊎ (k ≢ j) → (has_ended p t ≡ true) ⊎ IsOneAsk p t (asks_of t (link after 1 (k + 2)))
        ones k t (inl e) = subst (λ z. (has_ended p t ≡ true) ⊎ IsOneAsk p t (asks_of t (link after 1 (z + 2)))) (sym e) (own.0 t)
        ones k t (inr differ) = subst (λ ls. (has_ended p t ≡ true) ⊎ IsOneAsk p t (asks_of t ls)) (sym (asks_other k differ)) (all.0 k t)

        talk : (k : ℕ) (other : SiteState) → slice_get (slice_set s.sites j turn.state) k ≡ Some other → (k ≡ j) ⊎ (k ≢ j) → TalksAt w p after k other
        talk k other there (inl e) =
            let is : turn.state ≡ other = some_is turn.state other (sym (get_set s.sites j turn.state (get_below s.sites j state at)) ∙ ap (slice_get (slice_set s.sites j turn.state)) (sym e) ∙ there) in
            subst (λ z. TalksAt w p after z other) (sym e) (subst (TalksAt w p after j) is own.1)
        talk k other there (inr differ) =
            let was = sym (get_other s.sites j k turn.state differ) ∙ there in
            let room : k + 2 < w.sites + 2 = (let b = get_below s.sites k other was in let l = landed.holds.long in omega (arith, b, l)) in
            moves_only w s links landed all from clock letter rest known after k other (asks_other k differ) (λ t P closed h. tokens t k other.session P closed h) (λ t ask x z b h. subst (FallsLater p t other.session ask x z b) (sym (falls_other k differ room)) h) (all.1 k other was)
