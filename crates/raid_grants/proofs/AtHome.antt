-- A home's own step leaves its programs standing: a value lets one go on, and a note that the serving site is down lets it ask again.
use Rattle.std.proofs.Common.{◌≡◌, ◌≢◌, ◌⊎◌, inl, inr, ℕ, suc, ◌+◌, ◌-◌, ◌<◌, ◌≤◌, ◌==◌, true, false, ◌&&◌, ◌||◌, List, [], ◌∷◌, ◌++◌, Option, Some, None, arith, sym, subst, ap, ◌∙◌, refl}
use Rattle.std.specs.Prelude.{slice_get, slice_set, is_some}
use Rattle.std.specs.List.{AllByRecursion, list_any}
use Rattle.std.proofs.lemmas.Bool.{and_from, and_parts, eqb-true, true≢false}
use Rattle.std.proofs.lemmas.List.Folds.{list_any-append}
use Rattle.raid_base.specs.declared.names.Txn.{Txn}
use Rattle.raid_base.specs.declared.names.Item.{Item}
use Rattle.raid_base.specs.declared.names.Site.{Site}
use Rattle.raid_base.specs.declared.entry.Entry.TheVariants.{Read}
use Rattle.raid_base.specs.declared.entry.Noted.{Noted}
use Rattle.raid_base.specs.Names.{is_txn, is_site, has_txn}
use Rattle.raid_base.specs.Sites.{session, site}
use Rattle.raid_workload.specs.declared.workload.Workload.{Workload}
use Rattle.raid_rules.specs.History.{noted, has_ended}
use Rattle.raid_rules.specs.Sessions.{last_session}
use Rattle.raid_legal.specs.Seen.{vector, has_down_after}
use Rattle.raid_message.specs.declared.letter.Message.TheVariants as letters
use Rattle.raid_message.specs.declared.letter.Letter.{Letter}
use Rattle.raid_steps.specs.State.{Turn, asking, Running, SiteState}
use Rattle.raid_steps.specs.Fits.{knows_txn, knows_site}
use Rattle.raid_steps.specs.Programs.{running_of}
use Rattle.raid_steps.specs.Site.{hear_site}
use Rattle.raid_steps.specs.World.{World, link}
use Rattle.raid_placed.proofs.Orderly.{placed_whole}
use Rattle.raid_sessions.proofs.Agreed.{told_follows, told_up}
use Rattle.raid_sessions.proofs.Lists.{get_below, get_set, get_other, some_is, is_same, same_self, within}
use Rattle.raid_sessions.proofs.Mail.{same_or_not, letters_to, moved, moved_taken, moved_sent, moved_other}
use Rattle.raid_moves.specs.Moves.{Ascend, Hears, Tells}
use Rattle.raid_moves.specs.After.{needs}
use Rattle.raid_moves.proofs.Places.{all_found, found_txn}
use Rattle.raid_moves.proofs.Swept.{none_needs}
use Rattle.raid_asks.specs.Way.{begins_of as begins}
use Rattle.raid_asks.proofs.Facts.{or_left, or_right, or_parts}
use Rattle.raid_asks.proofs.Least.{Ours}
use Rattle.raid_asks.proofs.Line.{Due, line_due}
use Rattle.raid_asks.proofs.Programs.{told as begun_in}
use Rattle.raid_asks.proofs.Waits.{Waits}
use Rattle.raid_layers.specs.Asks.{asks_of, serving, serves_in, tells_server, Claim, OfSequencer, HoldsOf, AllTokens, IsBelow, IsOfRead, IsServer, Outstanding, asked, dropped, read, IsAbout, Talks}
use Rattle.raid_layers.proofs.SiteWorlds as steps
use Rattle.raid_layers.proofs.SiteWorlds.{HomeStep, same, falls, rises, hears, home_step}
use Rattle.raid_layers.proofs.Tokens.{asks_append}
use Rattle.raid_layers.proofs.Turns.{asked_by, asked_sent}
use Rattle.raid_witness.specs.Ended.{count_reads}
use Rattle.raid_grants.specs.Grants.{reads_for, is_to_read, brings_for, brings_value, is_down_note, note_comes, ValueComes, IsUnderWay}
use Rattle.raid_grants.proofs.Answers.{read_later, value_later, server_known}
use Rattle.raid_grants.proofs.AtSites.{place_is, read_tells, comes_after, other_stands}
use Rattle.raid_grants.proofs.Facts.{or_first}
use Rattle.raid_grants.proofs.Links.{none_read, due_new, txn_known}
use Rattle.raid_grants.proofs.Messages.{reads_is, brings_is, serves_is, note_more, down_is}
use Rattle.raid_grants.proofs.Standing.{Standing, waiting, granted, StandsAt, StandAll, Below}
use Rattle.raid_grants.proofs.Walk.{Old, New, site_keeps}

module _ (w : Workload) (world : World) (below : Below w world) (all : StandAll w (noted world.servers.sequencer.history) world.servers.sites world.links) (from clock : ℕ) (letter : Letter) (rest : List Letter) (known : from < w.sites + 2) (j : ℕ) (state : SiteState)
    (at : slice_get world.servers.sites j ≡ Some state) (front : link world.links (suc (suc j)) from ≡ letter ∷ rest)
    (after_waits : Waits w (record (world.servers) { sites = slice_set world.servers.sites j (hear_site w state from letter).state }) (moved world.links (suc (suc j)) from (hear_site w state from letter).state.session clock rest (hear_site w state from letter).outs)) where
  abbrev turn : Turn SiteState
  turn = hear_site w state from letter

  abbrev after : List (List (List Letter))
  after = moved world.links (suc (suc j)) from (hear_site w state from letter).state.session clock rest (hear_site w state from letter).outs

  abbrev others : List SiteState
  others = slice_set world.servers.sites j (hear_site w state from letter).state

  abbrev p : List Noted
  p = noted world.servers.sequencer.history

  abbrev links : List (List (List Letter))
  links = world.links

  abbrev m : ℕ
  m = state.session

  low : j < w.sites
  low = (let b = get_below world.servers.sites j state at in let l = below.landed.holds.long in omega (arith, b, l))

  inside : suc (suc j) < w.sites + 2
  inside = (let b = low in omega (arith, b))

  place : suc (suc j) ≡ j + 2
  place = omega arith

  follows : last_session p (site (j + 1)) ≤ state.session
  follows = told_follows w world below.landed.holds j state at

  ours_of : (t : Txn) (s : SiteState) (k : ℕ) → slice_get world.servers.sites k ≡ Some s → (r : Running) → running_of s t ≡ Some r → Ours w (site (k + 1)) t
  ours_of t s k there r found = subst (Ours w (site (k + 1))) (found_txn t s.running r found) (all_found (λ (z : Running). Ours w (site (k + 1)) z.txn) (λ (z : Running). is_txn t z.txn) s.running r (below.landed.homes k s there).running found)

  -- the home was awake before
  module _ (up : state.up ≡ true) (last : last_session p (site (j + 1)) ≡ state.session) (session_same : turn.state.session ≡ state.session) where
    here : session (vector w p) (site (j + 1)) ≡ m
    here = told_up w world below.landed.holds j state at up last

    about : (t : Txn) (r : Running) (ask : ℕ) (x : Item) (o : Option Site) → running_of state t ≡ Some r → r.phase ≡ asking ask x o → has_ended p t ≡ false → IsAbout p links j m t r.asks r.answers (asks_of t (link links 1 (j + 2))) (asking ask x o)
    about t r ask x o found phase still = go (subst (Talks p links j m t (asks_of t (link links 1 (j + 2)))) found (below.talks.1 j state at up last t)).1
      where
        go : (has_ended p t ≡ true) ⊎ IsAbout p links j m t r.asks r.answers (asks_of t (link links 1 (j + 2))) r.phase → IsAbout p links j m t r.asks r.answers (asks_of t (link links 1 (j + 2))) (asking ask x o)
        go (inl over) = absurd (true≢false (sym over ∙ still))
        go (inr a) = subst (IsAbout p links j m t r.asks r.answers (asks_of t (link links 1 (j + 2)))) phase a

    counts : (t : Txn) (r : Running) (ask : ℕ) (x : Item) (o : Option Site) → running_of state t ≡ Some r → r.phase ≡ asking ask x o → has_ended p t ≡ false → (ask ≡ r.asks) × (count_reads p t < ask + 1)
    counts t r ask x o found phase still = ((about t r ask x o found phase still).0, most (all j state at up last t r found ask x o phase still))
      where
        most : Standing w p world.servers.sites links j m t ask x o (asks_of t (link links 1 (j + 2))) → count_reads p t < ask + 1
        most (waiting few) = omega (arith, few)
        most (granted none count u) = omega (arith, count)

    -- a program that waits now waited before, or fewer reads were granted than it has asked for
    data Kept (t : Txn) (ask : ℕ) (x : Item) (o : Option Site) : Type 0 where
      stayed : (was : Running) (knew : Option Site) → running_of state t ≡ Some was → was.phase ≡ asking ask x knew → asked_by t turn.outs ≡ [] → (o ≡ knew) ⊎ ((s : Site) × (Tells w state from letter (letters.Serving t ask s) × (o ≡ Some s))) → Kept t ask x o
      fewer : count_reads p t < ask → Kept t ask x o

    kept_same : turn.outs ≡ [] → turn.state ≡ state → (t : Txn) (r : Running) (ask : ℕ) (x : Item) (o : Option Site) → running_of turn.state t ≡ Some r → r.phase ≡ asking ask x o → Kept t ask x o
    kept_same none is t r ask x o found phase = stayed r o (ap (λ s. running_of s t) (sym is) ∙ found) phase (ap (asked_by t) none) (inl refl)

    kept_heard : (from ≡ 0 → ⊥) → turn.state.up ≡ state.up → (t : Txn) (r : Running) (ask : ℕ) (x : Item) (o : Option Site) → running_of turn.state t ≡ Some r → r.phase ≡ asking ask x o → has_ended p t ≡ false → Kept t ask x o
    kept_heard some up_same t r ask x o found phase still = go (site_keeps w p state from letter some counts (below.landed.homes j state at).ascend t r ask x o found phase still).1
      where
        line : AllByRecursion (Due w (site (j + 1)) p) (begins state.session (link links 1 (j + 2)) ++ begun_in turn.outs)
        line = line_due w (site (j + 1)) p (begins state.session (link links 1 (j + 2)) ++ begun_in turn.outs) (steps.line w world.servers links below.landed below.talks from clock letter rest known j state at front after_waits up some up_same session_same last)

        go : Old w p state from letter some counts turn t ask x o ⊎ New w p state from letter some counts turn t ask → Kept t ask x o
        go (inl old) = stayed old.was old.knew old.ran old.phase old.unasked old.knows
        go (inr (least, inl few)) = fewer few
        go (inr (least, inr way)) =
            let new = due_new w (site (j + 1)) p (begins state.session (link links 1 (j + 2)) ++ begun_in turn.outs) t line (list_any-append (is_txn t) (begins state.session (link links 1 (j + 2))) (begun_in turn.outs) ∙ or_right (has_txn (begins state.session (link links 1 (j + 2))) t) (has_txn (begun_in turn.outs) t) way) in
            let none = none_read p t (placed_whole w world.servers.sequencer.history below.landed.holds.placed) new in
            fewer (omega (arith, none, least))

    -- what was granted a program that waits as before
    module _ (t : Txn) (r : Running) (ask : ℕ) (x : Item) (o : Option Site) (found : running_of turn.state t ≡ Some r) (phase : r.phase ≡ asking ask x o) (still : has_ended p t ≡ false) (was : Running) (knew : Option Site) (ran : running_of state t ≡ Some was) (was_phase : was.phase ≡ asking ask x knew)
        (knows : (o ≡ knew) ⊎ ((s : Site) × (Tells w state from letter (letters.Serving t ask s) × (o ≡ Some s)))) (none : asks_of t (link links 1 (j + 2)) ≡ []) (u : IsUnderWay w p world.servers.sites links j m t ask x knew) where
      ascend : Ascend state.running
      ascend = (below.landed.homes j state at).ascend

      known_txn : knows_txn w t ≡ true
      known_txn = txn_known w t (ours_of t state j at was ran).known

      number : ask ≡ was.asks
      number = (counts t was ask x knew ran was_phase still).0

      heard : (letter.to == m) ≡ true → Hears state letter
      heard meant = record { up = up; meant = meant }

      comes : has_down_after p u.read.at u.server ≡ false → ValueComes others after j m (session (vector w p) u.server) t ask u.server
      comes unfallen = comes_after w world below from clock letter rest j state at front j m t ask u.server low u.known reads brings (u.comes unfallen)
        where
          reads : u.server.0 + 1 ≡ suc (suc j) → 1 ≡ from → is_to_read (session (vector w p) u.server) j m t ask letter ≡ true → ValueComes others after j m (session (vector w p) u.server) t ask u.server
          reads there of q = go (reads_is t ask j m letter.message parts.1)
            where
              parts : ((letter.to == session (vector w p) u.server) ≡ true) × (reads_for j m t ask letter.message ≡ true)
              parts = and_parts (letter.to == session (vector w p) u.server) (reads_for j m t ask letter.message) q

              meant : (letter.to == m) ≡ true
              meant = is_same letter.to m (eqb-true letter.to (session (vector w p) u.server) parts.0 ∙ ap (session (vector w p)) (ap (λ i. let z : Site = record { 0 = i } in z) (let e : u.server.0 ≡ j + 1 = omega (arith, there) in e)) ∙ here)

              go : (y : Item) × ((h : Site) × ((n : ℕ) × ((letter.message ≡ letters.ReadDo t ask y h n) × (((h.0 == j + 1) ≡ true) × ((n == m) ≡ true))))) → ValueComes others after j m (session (vector w p) u.server) t ask u.server
              go (y, (h, (n, (is, (of_home, of_session))))) =
                  let tells = read_tells w world below from clock letter rest j state at front t ask y h n known_txn (sym of) is (heard meant) in
                  let later = read_later w state from letter ascend t was ask x knew ran was_phase y h n tells.0 tells.1.0 (ap (λ z. is_site z h) (place_is w world below from clock letter rest j state at front) ∙ of_home) r ask x o found phase in
                  absurd (let a = number in omega (arith, a, later))

          brings : j + 2 ≡ suc (suc j) → u.server.0 + 1 ≡ from → brings_value m t ask letter ≡ true → ValueComes others after j m (session (vector w p) u.server) t ask u.server
          brings there of q =
              let parts = and_parts (letter.to == m) (brings_for t ask letter.message) q in
              let v = brings_is t ask letter.message parts.1 in
              let least = (within w.sites u.server.0 u.known).0 in
              let by : from ≡ suc (suc (u.server.0 - 1)) = omega (arith, of, least) in
              let later = value_later w state from letter ascend t was ask x knew ran was_phase (u.server.0 - 1) v.0 (record { heard = heard parts.0; by = by; is = v.1; fits = and_from (knows_txn w t) true known_txn refl }) r ask x o found phase in
              absurd (let a = number in omega (arith, a, later))

      -- who is known to serve, or told to, is the site
      record Serves : Type 0 where
        server : (q : Site) → knew ≡ Some q → q ≡ u.server
        serving_is : from ≡ 1 → (s : Site) → letter.message ≡ letters.Serving t ask s → (letter.to == m) ≡ true → s ≡ u.server

      token : (P : Claim) → AllTokens links t j m P → from ≡ 1 → (s : Site) → letter.message ≡ letters.Serving t ask s → (letter.to == m) ≡ true → P ask (serving s)
      token P a of s is meant =
          subst (OfSequencer t j m P (suc (suc j)) letter.to) is (subst (λ f. HoldsOf t j m P (suc (suc j)) f letter.to letter.message) of (subst (AllByRecursion (λ (l : Letter). HoldsOf t j m P (suc (suc j)) from l.to l.message)) front (a (suc (suc j)) from)).0) (same_self t.0) (is_same (suc (suc j)) (j + 2) place) meant

      serves : Serves
      serves = go (about t was ask x knew ran was_phase still).1.1.1
        where
          go : Outstanding p links j m t ask x knew (asks_of t (link links 1 (j + 2))) → Serves
          go (asked e unknown h) = absurd (cc (none, e))
          go (dropped e unknown h) = record {
            server = λ q k. absurd (cc (unknown, k));
            serving_is = λ of s is meant. absurd (let less = token (IsBelow ask) h of s is meant in omega (arith, less));
          }
          go (read n z e was_last is has h server later) = record {
            server = λ q k. subst (λ k. IsServer k z) k server ∙ same_site;
            serving_is = λ of s is meant. (token (IsOfRead ask x z) h of s is meant).1 refl ∙ same_site;
          }
            where
              same_read : n ≡ u.read
              same_read = some_read (sym was_last ∙ u.last)
                where
                  some_read : Some n ≡ Some u.read → n ≡ u.read
                  some_read e = cc e

              same_site : z ≡ u.server
              same_site = sites_same (sym is ∙ ap (λ (z : Noted). z.entry) same_read ∙ u.is)
                where
                  sites_same : Read t x z ≡ Read t x u.server → z ≡ u.server
                  sites_same e = cc e

      -- the home knows no less after the step
      knows_on : is_some knew ≡ true → is_some o ≡ true
      knows_on k = elim knows [
        | inl e ↦ ap is_some e ∙ k
        | inr (s, (tells, e)) ↦ ap is_some e
      ]

      learns : from ≡ 1 → tells_server t m ask letter ≡ true → is_some o ≡ true
      learns of q =
          let parts = and_parts (letter.to == m) (serves_in t ask letter.message) q in
          let s = serves_is t ask letter.message parts.1 in
          let known_site = subst (λ z. knows_site w z ≡ true) (sym (serves.serving_is of s.0 s.1 parts.0)) u.known in
          ap is_some (server_known w state from letter ascend t was ask x knew ran was_phase s.0 (record { heard = heard parts.0; by = of; is = s.1; fits = and_from (knows_txn w t && knows_site w s.0) true (and_from (knows_txn w t) (knows_site w s.0) known_txn known_site) refl }) r ask x o found phase)

      -- a note that the serving site is down would have let the program ask again
      not_told : from ≡ 1 → (is_some knew && (letter.to == m && is_down_note u.server letter.message)) ≡ true → ⊥
      not_told of q = go knew refl
        where
          parts : (is_some knew ≡ true) × ((letter.to == m && is_down_note u.server letter.message) ≡ true)
          parts = and_parts (is_some knew) (letter.to == m && is_down_note u.server letter.message) q

          more : ((letter.to == m) ≡ true) × (is_down_note u.server letter.message ≡ true)
          more = and_parts (letter.to == m) (is_down_note u.server letter.message) parts.1

          is : letter.message ≡ letters.DownNote u.server
          is = down_is u.server letter.message more.1

          tells : Tells w state from letter (letters.DownNote u.server)
          tells = record { heard = heard more.0; by = of; is = is; fits = and_from (knows_site w u.server) true u.known refl }

          no_serving : (s : Site) → Tells w state from letter (letters.Serving t ask s) → ⊥
          no_serving s other = no (sym is ∙ other.is)
            where
              no : letters.DownNote u.server ≡ letters.Serving t ask s → ⊥
              no e = cc e

          go : (k : Option Site) → knew ≡ k → ⊥
          go None k = true≢false (sym parts.0 ∙ ap is_some k)
          go (Some z) k = elim knows [
            | inl e ↦ true≢false (sym (ap (is_site u.server) (serves.server z k) ∙ same_self u.server.0) ∙ needless (e ∙ k))
            | inr (s, (other, e)) ↦ no_serving s other
          ]
            where
              needless : o ≡ Some z → is_site u.server z ≡ false
              needless e = sym (ap (needs u.server) (phase ∙ ap (asking ask x) e)) ∙ all_found (λ (r : Running). needs u.server r.phase ≡ false) (λ (r : Running). is_txn t r.txn) turn.state.running r (none_needs w state from letter u.server tells ascend) found

      notes_taken : from ≡ 1 → link after (j + 2) 1 ≡ rest
      notes_taken of = ap (λ c. link after c 1) (sym place) ∙ ap (link after (suc (suc j))) (sym of) ∙ moved_taken (w.sites + 2) links (suc (suc j)) from turn.state.session clock rest turn.outs below.landed.holds.square inside known (λ e. omega (arith, e, of))

      notes_before : from ≡ 1 → link links (j + 2) 1 ≡ letter ∷ rest
      notes_before of = ap (λ c. link links c 1) (sym place) ∙ ap (link links (suc (suc j))) (sym of) ∙ front

      notes_left : from ≢ 1 → link after (j + 2) 1 ≡ link links (j + 2) 1
      notes_left other =
          ap (λ c. link after c 1) (sym place) ∙ moved_other (w.sites + 2) links (suc (suc j)) from turn.state.session clock rest turn.outs below.landed.holds.square inside (suc (suc j)) 1 inside (λ e. omega (arith, e)) (inr (λ e. other (sym e)))
          ∙ ap (λ c. link links c 1) place

      falls_on : has_down_after p u.read.at u.server ≡ true → note_comes m t ask u.server (is_some o) (link after (j + 2) 1) ≡ true
      falls_on fell = go (same_or_not from 1)
        where
          known_now : from ≡ 1 → (is_some knew || tells_server t m ask letter) ≡ true → is_some o ≡ true
          known_now of q = elim (or_parts (is_some knew) (tells_server t m ask letter) q) [ inl k ↦ knows_on k | inr k ↦ learns of k ]

          go : (from ≡ 1) ⊎ (from ≢ 1) → note_comes m t ask u.server (is_some o) (link after (j + 2) 1) ≡ true
          go (inr other) = subst (λ ls. note_comes m t ask u.server (is_some o) ls ≡ true) (sym (notes_left other)) (note_more t ask m u.server (is_some knew) (is_some o) (link links (j + 2) 1) knows_on (u.falls fell))
          go (inl of) = subst (λ ls. note_comes m t ask u.server (is_some o) ls ≡ true) (sym (notes_taken of))
              (elim (or_parts (is_some knew && (letter.to == m && is_down_note u.server letter.message)) (note_comes m t ask u.server (is_some knew || tells_server t m ask letter) rest) (subst (λ ls. note_comes m t ask u.server (is_some knew) ls ≡ true) (notes_before of) (u.falls fell))) [
                | inl q ↦ absurd (not_told of q)
                | inr q ↦ note_more t ask m u.server (is_some knew || tells_server t m ask letter) (is_some o) rest (known_now of) q
              ])

      serves_on : (is_site u.server (site (j + 1)) || (is_some o || list_any (tells_server t m ask) (link after (j + 2) 1))) ≡ true
      serves_on = or_first (is_site u.server (site (j + 1))) (is_some knew || list_any (tells_server t m ask) (link links (j + 2) 1)) (is_some o || list_any (tells_server t m ask) (link after (j + 2) 1)) (λ q. go (same_or_not from 1) (or_parts (is_some knew) (list_any (tells_server t m ask) (link links (j + 2) 1)) q)) u.serves
        where
          go : (from ≡ 1) ⊎ (from ≢ 1) → (is_some knew ≡ true) ⊎ (list_any (tells_server t m ask) (link links (j + 2) 1) ≡ true) → (is_some o || list_any (tells_server t m ask) (link after (j + 2) 1)) ≡ true
          go taken (inl k) = or_left (is_some o) (list_any (tells_server t m ask) (link after (j + 2) 1)) (knows_on k)
          go (inr other) (inr q) = or_right (is_some o) (list_any (tells_server t m ask) (link after (j + 2) 1)) (subst (λ ls. list_any (tells_server t m ask) ls ≡ true) (sym (notes_left other)) q)
          go (inl of) (inr q) = elim (or_parts (tells_server t m ask letter) (list_any (tells_server t m ask) rest) (subst (λ ls. list_any (tells_server t m ask) ls ≡ true) (notes_before of) q)) [
            | inl it ↦ or_left (is_some o) (list_any (tells_server t m ask) (link after (j + 2) 1)) (learns of it)
            | inr more ↦ or_right (is_some o) (list_any (tells_server t m ask) (link after (j + 2) 1)) (subst (λ ls. list_any (tells_server t m ask) ls ≡ true) (sym (notes_taken of)) more)
          ]

      still_under : IsUnderWay w p others after j m t ask x o
      still_under = record { read = u.read; server = u.server; last = u.last; is = u.is; known = u.known; up = u.up; comes = comes; falls = falls_on; serves = serves_on }

    asks_after : (t : Txn) → asks_of t (link after 1 (j + 2)) ≡ asks_of t (link links 1 (j + 2)) ++ asked_by t turn.outs
    asks_after t =
        ap (asks_of t) (ap (link after 1) (sym place) ∙ moved_sent (w.sites + 2) links (suc (suc j)) from turn.state.session clock rest turn.outs below.landed.holds.square inside 1 (omega arith) (λ e. omega (arith, e)) ∙ ap (λ d. link links 1 d ++ letters_to 1 turn.state.session clock turn.outs) place)
        ∙ asks_append t (link links 1 (j + 2)) (letters_to 1 turn.state.session clock turn.outs) ∙ ap (λ ms. asks_of t (link links 1 (j + 2)) ++ ms) (asked_sent t turn.state.session clock turn.outs)

    stands : (t : Txn) (r : Running) (ask : ℕ) (x : Item) (o : Option Site) → running_of turn.state t ≡ Some r → r.phase ≡ asking ask x o → has_ended p t ≡ false → Kept t ask x o → Standing w p others after j m t ask x o (asks_of t (link after 1 (j + 2)))
    stands t r ask x o found phase still (fewer few) = waiting few
    stands t r ask x o found phase still (stayed was knew ran was_phase unasked knows) = go (all j state at up last t was ran ask x knew was_phase still)
      where
        go : Standing w p world.servers.sites links j m t ask x knew (asks_of t (link links 1 (j + 2))) → Standing w p others after j m t ask x o (asks_of t (link after 1 (j + 2)))
        go (waiting few) = waiting few
        go (granted none count u) = granted (asks_after t ∙ ap (λ ms. ms ++ asked_by t turn.outs) none ∙ unasked) count (still_under t r ask x o found phase still was knew ran was_phase knows none u)

  own_stands : StandsAt w p others after j turn.state
  own_stands up last t r found ask x o phase still = go (home_step w state from letter)
    where
      in_session : turn.state.session ≡ state.session → Standing w p others after j state.session t ask x o (asks_of t (link after 1 (j + 2))) → Standing w p others after j turn.state.session t ask x o (asks_of t (link after 1 (j + 2)))
      in_session e s = subst (λ z. Standing w p others after j z t ask x o (asks_of t (link after 1 (j + 2)))) (sym e) s

      go : HomeStep state from (hear_site w state from letter) → Standing w p others after j turn.state.session t ask x o (asks_of t (link after 1 (j + 2)))
      go (same none is) =
          let session_same = ap (λ (z : SiteState). z.session) is in
          let up_before = ap (λ (z : SiteState). z.up) (sym is) ∙ up in
          in_session session_same (stands up_before (last ∙ session_same) session_same t r ask x o found phase still (kept_same up_before (last ∙ session_same) session_same none is t r ask x o found phase))
      go (falls none down) = absurd (true≢false (sym up ∙ down))
      go (rises none next) = absurd (let f = follows in omega (arith, f, last, next))
      go (hears up_before some up_same session_same) =
          in_session session_same (stands up_before (last ∙ session_same) session_same t r ask x o found phase still (kept_heard up_before (last ∙ session_same) session_same some up_same t r ask x o found phase still))

  pub site_stands : StandAll w p others after
  site_stands k other there = go (same_or_not k j)
    where
      go : (k ≡ j) ⊎ (k ≢ j) → StandsAt w p others after k other
      go (inl e) =
          let is : turn.state ≡ other = some_is turn.state other (sym (get_set world.servers.sites j turn.state (get_below world.servers.sites j state at)) ∙ ap (slice_get others) (sym e) ∙ there) in
          subst (λ i. StandsAt w p others after i other) (sym e) (subst (StandsAt w p others after j) is own_stands)
      go (inr apart) = λ up last t r found ask x o phase still.
          (let was = sym (get_other world.servers.sites j k turn.state apart) ∙ there in
          let its = ours_of t other k was r found in
          other_stands w world below from clock letter rest j state at front k apart other was t its.at (txn_known w t its.known) ask other.session x o (all k other was up last t r found ask x o phase still))
