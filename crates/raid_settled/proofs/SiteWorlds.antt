-- A site's step keeps each copy under way: the letter that it takes is answered, or was meant for a session that is over.
use Rattle.std.proofs.Common.{◌≡◌, ◌≢◌, ◌⊎◌, inl, inr, ℕ, ℤ, suc, ◌+◌, ◌-◌, ◌<◌, ◌≤◌, ◌==◌, nat_le, Bool, true, false, ◌&&◌, List, ◌∷◌, Some, arith, sym, subst, ap, ◌∙◌, refl}
use Rattle.std.specs.Prelude.{slice_get, slice_set}
use Rattle.std.specs.List.{list_any}
use Rattle.std.proofs.lemmas.Bool.{and_parts, and_from, eqb-true, true≢false}
use Rattle.raid_base.specs.declared.names.Site.{Site}
use Rattle.raid_base.specs.declared.entry.Noted.{Noted}
use Rattle.raid_base.specs.Sites.{session, site}
use Rattle.raid_workload.specs.declared.workload.Workload.{Workload}
use Rattle.raid_rules.specs.History.{noted, version}
use Rattle.raid_rules.specs.Sessions.{last_session, is_copy_locked}
use Rattle.raid_legal.specs.Seen.{vector}
use Rattle.raid_message.specs.declared.letter.Message.TheVariants as letters
use Rattle.raid_message.specs.declared.letter.Letter.{Letter}
use Rattle.raid_steps.specs.State.{Out, Turn, Copy, Copying, SiteState}
use Rattle.raid_steps.specs.Fits.{knows_site}
use Rattle.raid_steps.specs.Copies.{copy_of, holds_copy}
use Rattle.raid_steps.specs.Site.{hear_site}
use Rattle.raid_steps.specs.World.{World, link, set_link}
use Rattle.raid_sessions.proofs.Agreed.{told_follows}
use Rattle.raid_sessions.proofs.Ledger.{session_most}
use Rattle.raid_sessions.proofs.Lists.{get_below, get_set, get_other, is_same, same_self, some_is, within}
use Rattle.raid_sessions.proofs.Mail.{AreSquare, same_or_not, set_square, letter_of, moved}
use Rattle.raid_sessions.proofs.Site.{SiteStep, site_step}
use Rattle.raid_sessions.proofs.Site as steps
use Rattle.raid_letters.specs.Says.{is_held, NoteSays, CopyDoSays}
use Rattle.raid_letters.proofs.Runs.{LetterSays, QueueSays}
use Rattle.raid_versions.specs.Versions.{HaveLastVersions}
use Rattle.raid_versions.proofs.Copied.{held_copied}
use Rattle.raid_versions.proofs.Owed.{Known}
use Rattle.raid_versions.proofs.Written.{version_within}
use Rattle.raid_told.specs.Copiers.{IsCurrent, Speaks, QueueTells, CopiersTell}
use Rattle.raid_witness.specs.Ended.{HasEnded}
use Rattle.raid_settled.specs.Settled.{asks_for, brings, asks_copy, brings_copy, tells_copy, HasLetter, asked, brought, told, source_ended, target_ended, Stands, UnderWay}
use Rattle.raid_settled.proofs.Links.{posts_grow, letter_grows, letter_left, sent_there, IsIts, was_asked, was_brought, was_told}
use Rattle.raid_settled.proofs.Sites.{asks_is, brings_is, sends_copy, tells_renewed}

least : (a b : ℕ) → a ≤ b → nat_le a b ≡ true
least a b below = grind (arith, below)

module _ (w : Workload) (state : World) (known : Known w state) (last : HaveLastVersions state) (speak : CopiersTell w state) (from clock : ℕ) (letter : Letter) (rest : List Letter) (j : ℕ) (own : SiteState)
    (at : slice_get state.servers.sites j ≡ Some own) (front : link state.links (suc (suc j)) from ≡ letter ∷ rest) where
  abbrev p : List Noted
  p = noted state.servers.sequencer.history

  abbrev here : Site
  here = site (j + 1)

  abbrev turn : Turn SiteState
  turn = hear_site w own from letter

  abbrev changed : List SiteState
  changed = slice_set state.servers.sites j (hear_site w own from letter).state

  abbrev taken : List (List (List Letter))
  taken = set_link state.links (suc (suc j)) from rest

  abbrev after : List (List (List Letter))
  after = moved state.links (suc (suc j)) from (hear_site w own from letter).state.session clock rest (hear_site w own from letter).outs

  abbrev now : Site → ℕ
  now s = session (vector w p) s

  low : j < w.sites
  low = (let b = get_below state.servers.sites j own at in let long = known.says.reached.long in omega (arith, b, long))

  square : AreSquare (w.sites + 2) taken
  square = set_square (w.sites + 2) state.links (suc (suc j)) from rest known.says.reached.square

  is_here : (s : Site) → s.0 + 1 ≡ suc (suc j) → here ≡ s
  is_here s e = ap site (let q : j + 1 ≡ s.0 = omega (arith, e) in q)

  -- a server's place, as a site
  here_is : site (suc (suc j) - 1) ≡ here
  here_is = ap site (let e : suc (suc j) - 1 ≡ j + 1 = omega arith in e)

  -- the site is in no session before the one told
  follows : (s : Site) → knows_site w s ≡ true → s.0 - 1 ≡ j → now s ≤ own.session
  follows s is e = (let most = session_most w state.servers.sequencer.history s known.says.reached.ledger is in let least = subst (λ z. last_session p z ≤ own.session) same (told_follows w state known.says.reached j own at) in omega (arith, most, least))
    where
      same : here ≡ s
      same = is_here s (let some = (within w.sites s.0 is).0 in omega (arith, e, some))

  -- who has ended its session has so still
  ended_on : (s : Site) → knows_site w s ≡ true → HasEnded state.servers.sites s (now s) → HasEnded changed s (now s)
  ended_on s is old z there up = go (same_or_not (s.0 - 1) j)
    where
      mine : s.0 - 1 ≡ j → SiteStep own from letter turn → turn.state ≡ z → now s < z.session
      mine e (steps.stops x) same = absurd (true≢false (sym up ∙ ap (λ (o : SiteState). o.up) (sym same) ∙ x.after))
      mine e (steps.returns x) same = (let f = follows s is e in let q = x.session in let r = ap (λ (o : SiteState). o.session) same in omega (arith, f, q, r))
      mine e (steps.stays x) same =
          let was = old own (ap (slice_get state.servers.sites) e ∙ at) (sym x.0 ∙ ap (λ (o : SiteState). o.up) same ∙ up) in
          let q = x.1 in
          let r = ap (λ (o : SiteState). o.session) same in
          omega (arith, was, q, r)

      go : (s.0 - 1 ≡ j) ⊎ (s.0 - 1 ≢ j) → now s < z.session
      go (inl e) = mine e (site_step w own from letter) (some_is turn.state z (sym (get_set state.servers.sites j turn.state (get_below state.servers.sites j own at)) ∙ ap (slice_get changed) (sym e) ∙ there))
      go (inr differ) = old z (sym (get_other state.servers.sites j (s.0 - 1) turn.state differ) ∙ there) up

  -- a letter that isn't heard was meant for a session that is over
  over : (s : Site) → knows_site w s ≡ true → s.0 + 1 ≡ suc (suc j) → (own.up ≡ true → now s ≡ own.session → ⊥) → HasEnded changed s (now s)
  over s is e other = ended_on s is before
    where
      place : s.0 - 1 ≡ j
      place = omega (arith, e)

      less : own.up ≡ true → now s < own.session
      less up = apart (same_or_not (now s) own.session)
        where
          apart : (now s ≡ own.session) ⊎ (now s ≢ own.session) → now s < own.session
          apart (inl same) = absurd (other up same)
          apart (inr differ) = (let f = follows s is place in strict (now s) own.session f differ)
            where
              strict : (a b : ℕ) → a ≤ b → a ≢ b → a < b
              strict a b most differ = elim (same_or_not a b) [ inl q ↦ absurd (differ q) | inr q ↦ omega (arith, most, q) ]

      before : HasEnded state.servers.sites s (now s)
      before z there up = (let same = some_is own z (sym at ∙ ap (slice_get state.servers.sites) (sym place) ∙ there) in let l = less (ap (λ (o : SiteState). o.up) same ∙ up) in subst (λ (o : SiteState). now s < o.session) same l)

  -- what else a site sends, and in which session
  still : (i : ℕ) → from ≡ suc i → turn.state.session ≡ own.session
  still i of = go (site_step w own from letter)
    where
      go : SiteStep own from letter turn → turn.state.session ≡ own.session
      go (steps.stops x) = x.session
      go (steps.returns x) = absurd (let none = x.of in omega (arith, none, of))
      go (steps.stays x) = x.1

  module _ (c : Copying) (stands : Stands w p c) where
    -- a source that is asked
    asked_on : c.source.0 + 1 ≡ suc (suc j) → 1 ≡ from → asks_copy (now c.source) (now c.target) c letter ≡ true → HasLetter changed after (now c.source) (now c.target) c
    asked_on e of h = go own.up refl (letter.to == own.session) refl
      where
        parts : ((letter.to == now c.source) ≡ true) × (asks_for c.item c.target (now c.target) letter.message ≡ true)
        parts = and_parts (letter.to == now c.source) (asks_for c.item c.target (now c.target) letter.message) h

        to_is : letter.to ≡ now c.source
        to_is = eqb-true letter.to (now c.source) parts.0

        is : letter.message ≡ letters.CopyDo c.item c.target (now c.target)
        is = asks_is c.item c.target (now c.target) letter.message parts.1

        says : CopyDoSays w here c.item c.target
        says = subst (NoteSays w p here letter.to) is (subst (λ z. NoteSays w p z letter.to letter.message) here_is (subst (λ d. LetterSays w p (suc (suc j)) d letter) (sym of) (subst (QueueSays w p (suc (suc j)) from) front (known.says.says (suc (suc j)) from)).0))

        held : holds_copy own c.item ≡ true
        held = known.held j own at c.item ∙ says.held

        test : Out → Bool
        test out = (out.0 == c.target.0 + 1) && brings_copy (now c.target) c (letter_of turn.state.session clock out)

        found : (d : Copy) × (copy_of own c.item ≡ Some d)
        found = held_copied own c.item held

        passes : test (c.target.0 + 1, now c.target, letters.CopyValue c.item found.0.value found.0.version) ≡ true
        passes = and_from (c.target.0 + 1 == c.target.0 + 1) _ (same_self (c.target.0 + 1)) (and_from (now c.target == now c.target) _ (same_self (now c.target)) (same_self c.item.0))

        go : (u : Bool) → own.up ≡ u → (b : Bool) → (letter.to == own.session) ≡ b → HasLetter changed after (now c.source) (now c.target) c
        go false down b q = source_ended (over c.source stands.source_known e (λ up same. true≢false (sym up ∙ down)))
        go true up false q = source_ended (over c.source stands.source_known e (λ up same. true≢false (sym (is_same letter.to own.session (to_is ∙ same)) ∙ q)))
        go true up true q =
            brought (subst (λ f. list_any (brings_copy (now c.target) c) (link after (c.target.0 + 1) f) ≡ true) (sym e)
            (sent_there (w.sites + 2) (suc (suc j)) turn.state.session clock turn.outs taken (c.target.0 + 1) (brings_copy (now c.target) c) square (let l = low in omega (arith, l)) (let high = (within w.sites c.target.0 stands.target_known).1 in omega (arith, high))
            (subst (λ f. list_any test (hear_site w own f letter).outs ≡ true) of (sends_copy w own letter up q c.item stands.item_known found.0 held found.1 c.target (now c.target) stands.target_known is test passes))))

    -- a target that gets one
    brought_on : c.target.0 + 1 ≡ suc (suc j) → c.source.0 + 1 ≡ from → brings_copy (now c.target) c letter ≡ true → HasLetter changed after (now c.source) (now c.target) c
    brought_on e by h = go own.up refl (letter.to == own.session) refl
      where
        parts : ((letter.to == now c.target) ≡ true) × (brings c.item letter.message ≡ true)
        parts = and_parts (letter.to == now c.target) (brings c.item letter.message) h

        to_is : letter.to ≡ now c.target
        to_is = eqb-true letter.to (now c.target) parts.0

        message : (value : ℤ) × ((v : ℕ) × (letter.message ≡ letters.CopyValue c.item value v))
        message = brings_is c.item letter.message parts.1

        value : ℤ
        value = message.0

        v : ℕ
        v = message.1.0

        i : ℕ
        i = c.source.0 - 1

        of : suc (suc i) ≡ from
        of = (let some = (within w.sites c.source.0 stands.source_known).0 in omega (arith, by, some))

        same : here ≡ c.target
        same = is_here c.target e

        has : (is_held w c.target c.item ≡ true) × (is_copy_locked p c.target c.item ≡ true)
        has = and_parts (is_held w c.target c.item) (is_copy_locked p c.target c.item) stands.locked

        held : holds_copy own c.item ≡ true
        held = known.held j own at c.item ∙ ap (λ z. is_held w z c.item) same ∙ has.0

        found : (d : Copy) × (copy_of own c.item ≡ Some d)
        found = held_copied own c.item held

        current : IsCurrent w p c.target letter.to c.item v
        current =
            subst (λ z. Speaks w p z (site (i + 1)) letter.to letter.from (letters.CopyValue c.item value v)) (here_is ∙ same)
            (subst (Speaks w p (site (suc (suc j) - 1)) (site (i + 1)) letter.to letter.from) message.1.1
            (subst (λ d. QueueTells w p (suc (suc j)) d (letter ∷ rest)) (sym of) (subst (QueueTells w p (suc (suc j)) from) front (speak (suc (suc j)) from))).0) stands.target_known

        version_is : v ≡ version p c.item
        version_is = current.current (record { some = subst (λ z. 1 ≤ z) (sym to_is) stands.target_up; up = sym to_is; held = has.0; locked = has.1 })

        newer : nat_le found.0.version v ≡ true
        newer = least found.0.version v (let most = version_within state.servers.sequencer.history c.item found.0.version (last.versions j own at c.item found.0 found.1) in let q = version_is in omega (arith, most, q))

        test : Out → Bool
        test out = (out.0 == 1) && tells_copy (now c.target) c (letter_of turn.state.session clock out)

        go : (u : Bool) → own.up ≡ u → (b : Bool) → (letter.to == own.session) ≡ b → HasLetter changed after (now c.source) (now c.target) c
        go false down b q = target_ended (over c.target stands.target_known e (λ up same. true≢false (sym up ∙ down)))
        go true up false q = target_ended (over c.target stands.target_known e (λ up same. true≢false (sym (is_same letter.to own.session (to_is ∙ same)) ∙ q)))
        go true up true q =
            told (subst (λ f. list_any (tells_copy (now c.target) c) (link after 1 f) ≡ true) (sym e)
            (sent_there (w.sites + 2) (suc (suc j)) turn.state.session clock turn.outs taken 1 (tells_copy (now c.target) c) square (let l = low in omega (arith, l)) (omega arith)
            (subst (λ f. list_any test (hear_site w own f letter).outs ≡ true) of (tells_renewed w own letter up q c.item stands.item_known found.0 held found.1 i value v newer message.1.1 test passes))))
          where
            in_session : turn.state.session ≡ now c.target
            in_session = still (suc i) (sym of) ∙ sym (eqb-true letter.to own.session q) ∙ to_is

            passes : test (1, 0, letters.CopyDone c.item v) ≡ true
            passes = and_from (1 == 1) _ refl (and_from (turn.state.session == now c.target) _ (is_same turn.state.session (now c.target) in_session) (same_self c.item.0))

    its_on : IsIts (suc (suc j)) from (now c.source) (now c.target) c letter → HasLetter changed after (now c.source) (now c.target) c
    its_on (was_asked e of h) = asked_on e of h
    its_on (was_brought e by h) = brought_on e by h
    its_on (was_told e by h) = absurd (omega (arith, e))

    changed_on : (links : List (List (List Letter))) → HasLetter state.servers.sites links (now c.source) (now c.target) c → HasLetter changed links (now c.source) (now c.target) c
    changed_on links (asked h) = asked h
    changed_on links (brought h) = brought h
    changed_on links (told h) = told h
    changed_on links (source_ended h) = source_ended (ended_on c.source stands.source_known h)
    changed_on links (target_ended h) = target_ended (ended_on c.target stands.target_known h)

  pub site_way : (c : Copying) → UnderWay w (noted state.servers.sequencer.history) state.servers.sites state.links c →
      UnderWay w (noted state.servers.sequencer.history) (slice_set state.servers.sites j (hear_site w own from letter).state)
      (moved state.links (suc (suc j)) from (hear_site w own from letter).state.session clock rest (hear_site w own from letter).outs) c
  site_way c way = record {
    stands = way.stands;
    letter = elim (letter_left state.servers.sites state.links (suc (suc j)) from (now c.source) (now c.target) c letter rest front way.letter) [
      | inl left ↦ letter_grows changed taken after (now c.source) (now c.target) c (posts_grow (suc (suc j)) turn.state.session clock turn.outs taken) (changed_on c way.stands taken left)
      | inr its ↦ its_on c way.stands its
    ];
  }
