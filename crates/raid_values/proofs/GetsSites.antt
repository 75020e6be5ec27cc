-- Each step of a site keeps what is on its way to answer an ask the value that the transaction has seen.
use Rattle.std.proofs.Common.{◌≡◌, ◌≢◌, ◌⊎◌, inl, inr, ℕ, ℤ, zero, suc, ◌+◌, ◌-◌, ◌<◌, ◌≤◌, ◌==◌, nat_le, Bool, true, false, ◌&&◌, List, [], ◌∷◌, ◌++◌, find, Option, Some, None, if◌then◌else◌, arith, sym, subst, ap, ◌∙◌, refl}
use Rattle.std.specs.Prelude.{slice_get, slice_set}
use Rattle.std.specs.Option.{option_map_or}
use Rattle.std.specs.List.{AllByRecursion}
use Rattle.std.proofs.lemmas.Bool.{and_from, eqb-true, true≢false}
use Rattle.raid_base.specs.declared.names.Txn.{Txn}
use Rattle.raid_base.specs.declared.names.Item.{Item}
use Rattle.raid_base.specs.declared.names.Site.{Site}
use Rattle.raid_base.specs.declared.entry.Noted.{Noted}
use Rattle.raid_base.specs.Find.{first_of}
use Rattle.raid_base.specs.Names.{is_item}
use Rattle.raid_base.specs.Sites.{site}
use Rattle.raid_workload.specs.declared.workload.Workload.{Workload}
use Rattle.raid_rules.specs.History.{noted, has_ended}
use Rattle.raid_rules.specs.Sessions.{last_session}
use Rattle.raid_legal.specs.Seen.{seen}
use Rattle.raid_message.specs.declared.letter.Message.{Message}
use Rattle.raid_message.specs.declared.letter.Message.TheVariants as letters
use Rattle.raid_message.specs.declared.letter.Letter.{Letter}
use Rattle.raid_steps.specs.State.{Out, Turn, asking, Copy, Running, SiteState}
use Rattle.raid_steps.specs.Copies.{copy_of, renewed, staged_of}
use Rattle.raid_steps.specs.Fits.{knows_txn}
use Rattle.raid_steps.specs.Programs.{running_of}
use Rattle.raid_steps.specs.Site.{fits_here, hear_site}
use Rattle.raid_steps.specs.World.{World, link}
use Rattle.raid_sessions.proofs.Agreed.{told_follows}
use Rattle.raid_sessions.proofs.Holds.{IsSpoken, last_of}
use Rattle.raid_sessions.proofs.Lists.{all_weaken, get_below, get_set, get_other, is_same, some_is}
use Rattle.raid_sessions.proofs.Mail.{same_or_not, letters_to, moved, moved_sent, moved_taken, moved_other}
use Rattle.raid_sessions.proofs.Reached.{server_below, from_below}
use Rattle.raid_moves.specs.Moves.{Hears, Tells, Says}
use Rattle.raid_moves.proofs.Places.{found_txn, something}
use Rattle.raid_asks.proofs.Facts.{or_right}
use Rattle.raid_letters.specs.Says.{NoteSays, is_held, was_applied}
use Rattle.raid_letters.proofs.Runs.{LetterSays, QueueSays}
use Rattle.raid_layers.specs.Asks.{asks_of, OfSequencer, HoldsOf, AllTokens, IsBelow, Outstanding, asked, dropped, read, IsAbout, Talks, AskOneThing}
use Rattle.raid_layers.proofs.SiteWorlds.{HomeStep, same, falls, rises, hears, home_step}
use Rattle.raid_layers.proofs.Tokens.{TokenAt, step_all, all_weaker, asks_append}
use Rattle.raid_layers.proofs.Turns.{asked_by, asked_sent}
use Rattle.raid_layers.proofs.Worlds.{TalksAt}
use Rattle.raid_staged.specs.Agree.{PartsAgree}
use Rattle.raid_staged.specs.Staged.{ApplyStaged, StagedFirst}
use Rattle.raid_staged.proofs.Ends.{applied_committed}
use Rattle.raid_staged.proofs.Worlds.{Landed}
use Rattle.raid_versions.specs.Versions.{was_written, IsVersion, IsLive, LastVersions, Along, after_message, after_letter, AreAbove, NoGap, ReadsWhole, reads_copy, is_pending, applies as is_apply, Brings}
use Rattle.raid_versions.proofs.SiteCopies.{same_item, found_item, found_mapped, renewed_item, set_in, set_item}
use Rattle.raid_versions.proofs.SiteFacts.{committed_known}
use Rattle.raid_versions.proofs.SiteParts.{Passes, Copied, keeps, applies, renews, step_copies}
use Rattle.raid_versions.proofs.SiteLetters.{Effect, leaves, sets, effect, above_rest}
use Rattle.raid_values.specs.Gets.{Ask, reads_for, ReadsSeen, BringsSeen, IsAnsweredBySeen, GetWhatTheySaw}
use Rattle.raid_values.specs.Values.{committed_value}
use Rattle.raid_values.proofs.Asking.{Waited, step_knows}
use Rattle.raid_values.proofs.Claims.{IsNot, IsOfItem, below_not, of_item, IsReadFor, IsBroughtFor, read_parts, read_whole, brought_parts, Brought, brought_links, links_brought, none_answers}
use Rattle.raid_values.proofs.Committed.{AllOf, CopyOf, own_copy, told_part}
use Rattle.raid_values.proofs.GetsWorlds.{outstanding}
use Rattle.raid_values.proofs.Rows.{Sent, step_sent}
use Rattle.raid_values.proofs.Written.{Applied}

empty_last : {X : Type 0} (xs ys : List X) → xs ++ ys ≡ [] → ys ≡ []
empty_last [] ys q = q
empty_last (x ∷ xs) ys q = absurd (cc q)

-- a copy that comes to have a later version: where it is read behind this, that version was applied before
along_brought : (w : Workload) (p : List Noted) (a : Ask) (m u v : ℕ) (ls : List Letter) → u < v → was_written p a.item v ≡ true → AreAbove p a.item m v ls → Along (ReadsWhole p a.item m) p a.item m u ls →
    Along (ReadsSeen w p a) p a.item m u ls → Along (ReadsSeen w p a) p a.item m v ls
along_brought w p a m u v [] less written above whole seen_so = tt
along_brought w p a m u v (l ∷ ls) less written above whole seen_so = ((λ meant reads. absurd (missed (whole.0 meant (copied l.message reads)))), go (effect p a.item m l) (along_brought w p a m u v ls less written (above_rest p a.item m v l ls above)))
  where
    copied : (message : Message) → reads_for a message ≡ true → reads_copy a.item message ≡ true
    copied (letters.ReadDo t number x home session) q = (read_parts a t number x home session q).of
    copied other q = absurd (true≢false (sym q))

    missed : NoGap p a.item m u ls → ⊥
    missed gap = (let more = above v (or_right (l.to == m && is_apply v l.message) (is_pending m v ls) (gap v written less)) written in omega (arith, more))

    go : Effect p a.item m l → (Along (ReadsWhole p a.item m) p a.item m u ls → Along (ReadsSeen w p a) p a.item m u ls → Along (ReadsSeen w p a) p a.item m v ls) → Along (ReadsSeen w p a) p a.item m (after_letter p a.item m v l) ls
    go (leaves still) more =
        subst (λ z. Along (ReadsSeen w p a) p a.item m z ls) (sym (still v))
        (more (subst (λ z. Along (ReadsWhole p a.item m) p a.item m z ls) (still u) whole.1) (subst (λ z. Along (ReadsSeen w p a) p a.item m z ls) (still u) seen_so.1))
    go (sets t number meant is written_now set) more = subst (λ z. Along (ReadsSeen w p a) p a.item m z ls) (set u ∙ sym (set v)) seen_so.1

module _ (w : Workload) (state : World) (landed : Landed w state) (agree : PartsAgree w state) (staged : StagedFirst w state) (copies : AllOf w (noted state.servers.sequencer.history) state.servers.sites state.links)
    (holds : (k : ℕ) (s : SiteState) → slice_get state.servers.sites k ≡ Some s → (x : Item) (c : Copy) → copy_of s x ≡ Some c → is_held w (site (k + 1)) x ≡ true)
    (versions : LastVersions (noted state.servers.sequencer.history) state.servers.sites state.links) (talk : AskOneThing w state) (gets : GetWhatTheySaw w (noted state.servers.sequencer.history) state.servers.sites state.links)
    (from clock : ℕ) (letter : Letter) (rest : List Letter) (j : ℕ) (own : SiteState) (at : slice_get state.servers.sites j ≡ Some own) (front : link state.links (suc (suc j)) from ≡ letter ∷ rest) where
  abbrev p : List Noted
  p = noted state.servers.sequencer.history

  abbrev sites : List SiteState
  sites = state.servers.sites

  abbrev turn : Turn SiteState
  turn = hear_site w own from letter

  abbrev changed : List SiteState
  changed = slice_set state.servers.sites j (hear_site w own from letter).state

  abbrev after : List (List (List Letter))
  after = moved state.links (suc (suc j)) from (hear_site w own from letter).state.session clock rest (hear_site w own from letter).outs

  place : suc (suc j) ≡ j + 2
  place = omega arith

  known : from < w.sites + 2
  known = from_below (w.sites + 2) state.links (suc (suc j)) from letter rest landed.says.reached.square front

  inside : suc (suc j) < w.sites + 2
  inside = server_below (w.sites + 2) state.links (suc (suc j)) from letter rest landed.says.reached.square front

  low : j < w.sites
  low = (let b = get_below sites j own at in let long = landed.says.reached.long in omega (arith, b, long))

  front_here : (d : ℕ) → from ≡ d → link state.links (j + 2) d ≡ letter ∷ rest
  front_here d q = ap (λ c. link state.links c d) (sym place) ∙ ap (link state.links (suc (suc j))) (sym q) ∙ front

  own_is : (z : SiteState) → slice_get changed j ≡ Some z → turn.state ≡ z
  own_is z there = some_is turn.state z (sym (get_set sites j turn.state (get_below sites j own at)) ∙ there)

  follows : last_session p (site (j + 1)) ≤ own.session
  follows = told_follows w state landed.says.reached j own at

  -- a site that hears another server is live
  hears_live : (from ≡ 0 → ⊥) → Hears own letter → IsLive p sites j own
  hears_live some h = record { at = at; up = h.up; last = (let to = eqb-true letter.to own.session h.meant in let late = heard_late from refl in let f = follows in omega (arith, to, late, f)) }
    where
      heard_late : (f : ℕ) → from ≡ f → letter.to ≤ last_session p (site (j + 1))
      heard_late zero of = absurd (some of)
      heard_late (suc zero) of = (subst (AllByRecursion _) (front_here 1 of) (landed.says.reached.heard j low)).0.0
      heard_late (suc (suc i)) of =
          let two : from ≡ i + 2 = omega (arith, of) in
          (subst (AllByRecursion (IsSpoken w (last_of state.servers.sequencer.history) j i)) (front_here (i + 2) two) (landed.says.reached.spoken j i low (let b = known in omega (arith, b, of)))).0.0

  -- one that is live after the step was live before, in the same session
  was_live : IsLive p changed j turn.state → IsLive p sites j own × (turn.state.session ≡ own.session)
  was_live live = go (home_step w own from letter)
    where
      go : HomeStep own from (hear_site w own from letter) → IsLive p sites j own × (turn.state.session ≡ own.session)
      go (same none is) = (record { at = at; up = sym (ap (λ (s : SiteState). s.up) is) ∙ live.up; last = live.last ∙ ap (λ (s : SiteState). s.session) is }, ap (λ (s : SiteState). s.session) is)
      go (falls none down) = absurd (true≢false (sym live.up ∙ down))
      go (rises none next) = absurd (let f = follows in let last = live.last in omega (arith, f, last, next))
      go (hears up some up_same session_same) = (record { at = at; up = up; last = live.last ∙ session_same }, session_same)

  -- an Apply that is meant for a live site is heard
  applies_heard : IsLive p sites j own → (t : Txn) (number : ℕ) → from ≡ 1 → (letter.to == own.session) ≡ true → letter.message ≡ letters.Apply t number → Tells w own from letter (letters.Apply t number)
  applies_heard live t number by meant is = record { heard = record { up = live.up; meant = meant }; by = by; is = is; fits = and_from (knows_txn w t) (fits_here w own (letters.Apply t number)) known_txn (subst (ApplyStaged own) is (there meant)) }
    where
      there : (letter.to == own.session) ≡ true → ApplyStaged own letter.message
      there = (subst (AllByRecursion (λ (l : Letter). (l.to == own.session) ≡ true → ApplyStaged own l.message)) (front_here 1 by) (staged.applies j own at live.up live.last)).0

      says : was_applied p t (site (suc (suc j) - 1)) number ≡ true
      says = subst (NoteSays w p (site (suc (suc j) - 1)) letter.to) is (subst (λ d. LetterSays w p (suc (suc j)) d letter) by (subst (QueueSays w p (suc (suc j)) from) front (landed.says.says (suc (suc j)) from)).0)

      known_txn : knows_txn w t ≡ true
      known_txn = committed_known w state.servers.sequencer.history landed.says.reached.placed t (applied_committed p t (site (suc (suc j) - 1)) number says)

  -- What is on its way to answer an ask
  module _ (a : Ask) (old : IsAnsweredBySeen w p sites state.links a) (items : AllTokens state.links a.txn a.place a.session (IsOfItem a.number a.item)) where
    abbrev m : ℕ
    m = own.session

    -- the links to the site from the sequencer
    taken : from ≡ 1 → link after (j + 2) 1 ≡ rest
    taken one = ap (λ c. link after c 1) (sym place) ∙ ap (link after (suc (suc j))) (sym one) ∙ moved_taken (w.sites + 2) state.links (suc (suc j)) from turn.state.session clock rest turn.outs landed.says.reached.square inside known (λ e. omega (arith, e, one))

    not_taken : (from ≡ 1 → ⊥) → link after (j + 2) 1 ≡ link state.links (j + 2) 1
    not_taken other =
        ap (λ c. link after c 1) (sym place)
        ∙ moved_other (w.sites + 2) state.links (suc (suc j)) from turn.state.session clock rest turn.outs landed.says.reached.square inside (suc (suc j)) 1 inside (λ e. omega (arith, e)) (inr (λ e. other (sym e)))
        ∙ ap (λ c. link state.links c 1) place

    -- the site's own copy
    module _ (live : IsLive p sites j own) where
      abbrev Wanted : Copy → Type 0
      Wanted c = Along (ReadsSeen w p a) p a.item m c.version (link after (j + 2) 1)

      before : (c : Copy) → copy_of own a.item ≡ Some c → Along (ReadsSeen w p a) p a.item m c.version (link state.links (j + 2) 1)
      before c has = old.read j own c live has

      -- nothing is applied
      unchanged : Passes w own from letter → (c : Copy) → copy_of own a.item ≡ Some c → Wanted c
      unchanged none c has = go (same_or_not from 1)
        where
          still : (b : Bool) → (letter.to == m) ≡ b → (message : Message) → letter.message ≡ message → from ≡ 1 → (if b then after_message p a.item c.version message else c.version) ≡ c.version
          still false q message is one = refl
          still true q (letters.Apply t number) is one = absurd (none t number (applies_heard live t number one q is))
          still true q other is one = refl

          go : (from ≡ 1) ⊎ (from ≢ 1) → Wanted c
          go (inl one) =
              subst (Along (ReadsSeen w p a) p a.item m c.version) (sym (taken one))
              (subst (λ v. Along (ReadsSeen w p a) p a.item m v rest) (still (letter.to == m) refl letter.message refl one) (subst (Along (ReadsSeen w p a) p a.item m c.version) (front_here 1 one) (before c has)).1)
          go (inr other) = subst (Along (ReadsSeen w p a) p a.item m c.version) (sym (not_taken other)) (before c has)

      -- the staged writes of a Commit become the copies
      renewed_so : (t : Txn) (number : ℕ) (ps : List (Item × ℤ)) → Tells w own from letter (letters.Apply t number) → staged_of own t ≡ Some ps → (c : Copy) → copy_of own a.item ≡ Some c → Wanted (renewed number ps c)
      renewed_so t number ps told has c found =
          subst (Along (ReadsSeen w p a) p a.item m (renewed number ps c).version) (sym (taken told.by))
          (subst (λ v. Along (ReadsSeen w p a) p a.item m v rest) version_is (subst (Along (ReadsSeen w p a) p a.item m c.version) (front_here 1 told.by) (before c found)).1)
        where
          part : Applied w p (site (j + 1)) number ps
          part = told_part w state landed agree copies from clock letter rest j own at front t number ps told has

          item_is : c.item ≡ a.item
          item_is = found_item own a.item c found

          go : (o : Option ℤ) → first_of c.item ps ≡ o → (if was_written p a.item number then number else c.version) ≡ (option_map_or (λ v. let d : Copy = record { item = c.item; value = v; version = number } in d) o c).version
          go None q = ap (λ b. if b then number else c.version) (part.none a.item (holds j own at a.item c found) (ap (λ i. first_of i ps) (sym item_is) ∙ q))
          go (Some v) q = ap (λ b. if b then number else c.version) (part.values a.item v (ap (λ i. first_of i ps) (sym item_is) ∙ q)).1

          version_is : after_letter p a.item m c.version letter ≡ (renewed number ps c).version
          version_is = ap (λ b. if b then after_message p a.item c.version letter.message else c.version) told.heard.meant ∙ ap (after_message p a.item c.version) told.is ∙ go (first_of c.item ps) refl

      -- a copy comes from another site
      set_so : (i : ℕ) (y : Item) (v : ℤ) (version : ℕ) (b : Copy) → Says w own from letter i (letters.CopyValue y v version) → copy_of own y ≡ Some b → nat_le b.version version ≡ true → (c : Copy) → copy_of own a.item ≡ Some c → Wanted (set_in y v version c)
      set_so i y v version b told found most c has = subst (Along (ReadsSeen w p a) p a.item m (set_in y v version c).version) (sym (not_taken (λ one. (let by = told.by in omega (arith, one, by))))) (go (is_item y c.item) refl)
        where
          item_is : c.item ≡ a.item
          item_is = found_item own a.item c has

          -- its version is one, and what is pending is above it
          brought : Brings p sites state.links j letter.to (letters.CopyValue y v version)
          brought =
              subst (Brings p sites state.links j letter.to) told.is
              (subst (AllByRecursion (λ (l : Letter). Brings p sites state.links j l.to l.message)) (front_here (i + 2) (let by = told.by in omega (arith, by))) (versions.brought j i)).0

          newer : y ≡ a.item → b ≡ c → Along (ReadsSeen w p a) p a.item m version (link state.links (j + 2) 1)
          newer items_same copies_same = by_version (same_or_not c.version version)
            where
              above : AreAbove p a.item m version (link state.links (j + 2) 1)
              above =
                  subst (λ z. AreAbove p z m version (link state.links (j + 2) 1)) items_same
                  (subst (λ n. AreAbove p y n version (link state.links (j + 2) 1)) (eqb-true letter.to m told.heard.meant) (brought.1 own live (sym (eqb-true letter.to m told.heard.meant))))

              at_most : (s t : ℕ) → nat_le s t ≡ true → s ≤ t
              at_most s t q = grind (arith, q)

              low_enough : c.version ≤ version
              low_enough = at_most c.version version (subst (λ (z : Copy). nat_le z.version version ≡ true) copies_same most)

              written : IsVersion p y version → c.version < version → was_written p a.item version ≡ true
              written (inl zero_is) less = absurd (omega (arith, zero_is, less))
              written (inr w_is) less = subst (λ z. was_written p z version ≡ true) items_same w_is

              by_version : (c.version ≡ version) ⊎ (c.version ≢ version) → Along (ReadsSeen w p a) p a.item m version (link state.links (j + 2) 1)
              by_version (inl same_version) = subst (λ z. Along (ReadsSeen w p a) p a.item m z (link state.links (j + 2) 1)) same_version (before c has)
              by_version (inr differ) =
                  let less : c.version < version = (let l = low_enough in omega (arith, l, differ)) in
                  along_brought w p a m c.version version (link state.links (j + 2) 1) less (written brought.0 less) above (versions.kept j own live a.item c has).whole (before c has)

          go : (t : Bool) → is_item y c.item ≡ t → Along (ReadsSeen w p a) p a.item m (let d : Copy = if t then record { item = c.item; value = v; version = version } else c in d).version (link state.links (j + 2) 1)
          go true q =
              let items_same : y ≡ a.item = sym (same_item y c.item q) ∙ item_is in
              newer items_same (something (sym found ∙ ap (copy_of own) items_same ∙ has))
          go false q = before c has

    own_after : IsLive p changed j turn.state → (c : Copy) → copy_of turn.state a.item ≡ Some c → Along (ReadsSeen w p a) p a.item turn.state.session c.version (link after (j + 2) 1)
    own_after live c has =
        let was = was_live live in
        subst (λ n. Along (ReadsSeen w p a) p a.item n c.version (link after (j + 2) 1)) (sym was.1) (go was.0 (step_copies w own from letter (landed.says.homes j own at).ascend))
      where
        found : {cs : List Copy} → turn.state.copies ≡ cs → find (λ (c : Copy). is_item a.item c.item) cs ≡ Some c
        found is = sym (ap (find (λ (c : Copy). is_item a.item c.item)) is) ∙ has

        go : IsLive p sites j own → Copied w own from letter turn → Along (ReadsSeen w p a) p a.item m c.version (link after (j + 2) 1)
        go live_before (keeps is passes sent) = unchanged live_before passes c (found is)
        go live_before (applies t number ps told staged_so is sent) =
            let d = found_mapped (renewed number ps) (renewed_item number ps) a.item own.copies c (found is) in
            subst (λ (z : Copy). Along (ReadsSeen w p a) p a.item m z.version (link after (j + 2) 1)) d.1.1 (renewed_so live_before t number ps told staged_so d.0 d.1.0)
        go live_before (renews i y v version b told copy most is sent) =
            let d = found_mapped (set_in y v version) (set_item y v version) a.item own.copies c (found is) in
            subst (λ (z : Copy). Along (ReadsSeen w p a) p a.item m z.version (link after (j + 2) 1)) d.1.1 (set_so live_before i y v version b told copy most d.0 d.1.0)

    -- a value that is sent is that of the copy that the site was to read
    sent_seen : (server to : ℕ) (message : Message) → Sent w own from letter server to message → server ≡ a.place + 2 → BringsSeen w p a to message
    sent_seen server to (letters.Value t number v) h here = λ q. sees (brought_parts a to t number q)
      where
        sees : IsBroughtFor a to t number → seen w p a.txn a.item ≡ Some v
        sees parts =
            (subst (Along (ReadsSeen w p a) p a.item m h.copy.version) (front_here 1 h.told.by) (old.read j own h.copy live found)).0 h.told.heard.meant (subst (λ z. reads_for a z ≡ true) (sym h.told.is) (read_whole a t number h.item h.home to reads_it))
            ∙ ap Some (sym (h.value ∙ its.0.value ∙ ap (λ i. committed_value w p i h.copy.version) (its.1 ∙ item_is)))
          where
            live : IsLive p sites j own
            live = hears_live (λ none. (let by = h.told.by in omega (arith, none, by))) h.told.heard

            at_home : (h.home.0 == a.place + 1) ≡ true
            at_home = is_same h.home.0 (a.place + 1) (let e = h.addressee in omega (arith, e, here))

            item_is : h.item ≡ a.item
            item_is =
                (subst (OfSequencer a.txn a.place a.session (IsOfItem a.number a.item) (suc (suc j)) letter.to) h.told.is
                (subst (λ d. HoldsOf a.txn a.place a.session (IsOfItem a.number a.item) (suc (suc j)) d letter.to letter.message) h.told.by
                (subst (AllByRecursion (TokenAt a.txn a.place a.session (IsOfItem a.number a.item) (suc (suc j)) from)) front (items (suc (suc j)) from)).0)) parts.own at_home parts.meant parts.numbered

            found : copy_of own a.item ≡ Some h.copy
            found = ap (copy_of own) (sym item_is) ∙ h.found

            its : CopyOf w p h.copy × (h.copy.item ≡ h.item)
            its = own_copy w state landed agree copies from clock letter rest j own at front h.item h.copy h.found

            reads_it : IsReadFor a t number h.item h.home to
            reads_it = record { own = parts.own; numbered = parts.numbered; of = is_same h.item.0 a.item.0 (ap (λ (i : Item). i.0) item_is); at = at_home; meant = parts.meant }
    sent_seen server to other h here = tt

    pub answered_after : IsAnsweredBySeen w p changed after a
    answered_after = record {
      read = λ i z c live has. reads_at i z c live has (same_or_not i j);
      brought = links_brought w p a after
          (step_all (Brought w p a) (suc (suc j)) from turn.state.session clock letter rest turn.outs state.links front
          (all_weaken (λ (out : Out). Sent w own from letter out.0 out.1 out.2) (λ (out : Out). out.0 ≡ a.place + 2 → BringsSeen w p a out.1 out.2) turn.outs (λ out h here. sent_seen out.0 out.1 out.2 h here) (step_sent w own from letter (landed.says.homes j own at).ascend))
          (brought_links w p a state.links old.brought));
    }
      where
        reads_at : (i : ℕ) (z : SiteState) (c : Copy) → IsLive p changed i z → copy_of z a.item ≡ Some c → (i ≡ j) ⊎ (i ≢ j) → Along (ReadsSeen w p a) p a.item z.session c.version (link after (i + 2) 1)
        reads_at i z c live has (inl e) =
            let is : turn.state ≡ z = own_is z (ap (slice_get changed) (sym e) ∙ live.at) in
            let here : IsLive p changed j z = subst (λ n. IsLive p changed n z) e live in
            subst (λ n. Along (ReadsSeen w p a) p a.item z.session c.version (link after (n + 2) 1)) (sym e)
            (subst (λ (y : SiteState). Along (ReadsSeen w p a) p a.item y.session c.version (link after (j + 2) 1)) is
            (own_after (subst (IsLive p changed j) (sym is) here) c (ap (λ (y : SiteState). copy_of y a.item) is ∙ has)))
        reads_at i z c live has (inr differ) =
            let there : slice_get sites i ≡ Some z = sym (get_other sites j i turn.state differ) ∙ live.at in
            let room : i + 2 < w.sites + 2 = (let b = get_below sites i z there in let long = landed.says.reached.long in omega (arith, b, long)) in
            subst (Along (ReadsSeen w p a) p a.item z.session c.version)
            (sym (moved_other (w.sites + 2) state.links (suc (suc j)) from turn.state.session clock rest turn.outs landed.says.reached.square inside (i + 2) 1 room (λ e. omega (arith, e)) (inl (λ e. differ (omega (arith, e))))))
            (old.read i z c (record { at = there; up = live.up; last = live.last }) has)

  -- what programs get
  module _ (talks_after : TalksAt w (noted state.servers.sequencer.history) (moved state.links (suc (suc j)) from (hear_site w own from letter).state.session clock rest (hear_site w own from letter).outs) j (hear_site w own from letter).state) where
    -- at the site's own home
    own_gets : (r : Running) (number : ℕ) (x : Item) (o : Option Site) → IsLive p changed j turn.state → running_of turn.state r.txn ≡ Some r → r.phase ≡ asking number x o → has_ended p r.txn ≡ false →
        IsAnsweredBySeen w p changed after (record { txn = r.txn; place = j; session = turn.state.session; number = number; item = x })
    own_gets r number x o live f is alive = by (about (subst (Talks p after j turn.state.session r.txn asks) f (talks_after live.up live.last r.txn)).1)
      where
        asks : List Message
        asks = asks_of r.txn (link after 1 (j + 2))

        about : (has_ended p r.txn ≡ true) ⊎ IsAbout p after j turn.state.session r.txn r.asks r.answers asks r.phase → Outstanding p after j turn.state.session r.txn number x o asks
        about (inl over) = absurd (true≢false (sym over ∙ alive))
        about (inr h) = (subst (IsAbout p after j turn.state.session r.txn r.asks r.answers asks) is h).1.1.1

        not_asked : asks ≡ [] → asked_by r.txn turn.outs ≡ []
        not_asked none =
            empty_last (asks_of r.txn (link state.links 1 (j + 2))) (asked_by r.txn turn.outs)
            (sym (ap (asks_of r.txn) sent_is ∙ asks_append r.txn (link state.links 1 (j + 2)) (letters_to 1 turn.state.session clock turn.outs) ∙ ap (λ ms. asks_of r.txn (link state.links 1 (j + 2)) ++ ms) (asked_sent r.txn turn.state.session clock turn.outs)) ∙ none)
          where
            sent_is : link after 1 (j + 2) ≡ link state.links 1 (j + 2) ++ letters_to 1 turn.state.session clock turn.outs
            sent_is = ap (link after 1) (sym place) ∙ moved_sent (w.sites + 2) state.links (suc (suc j)) from turn.state.session clock rest turn.outs landed.says.reached.square inside 1 (omega arith) (λ e. omega (arith, e)) ∙ ap (λ d. link state.links 1 d ++ letters_to 1 turn.state.session clock turn.outs) place

        -- it waited before
        waited : Waited w own from letter r.txn number x → IsAnsweredBySeen w p changed after (record { txn = r.txn; place = j; session = turn.state.session; number = number; item = x })
        waited h =
            let was = was_live live in
            let same_txn : h.program.txn ≡ r.txn = found_txn r.txn own.running h.program h.found in
            let f0 : running_of own h.program.txn ≡ Some h.program = ap (running_of own) same_txn ∙ h.found in
            let alive0 : has_ended p h.program.txn ≡ false = subst (λ t. has_ended p t ≡ false) (sym same_txn) alive in
            subst (λ n. IsAnsweredBySeen w p changed after (record { txn = r.txn; place = j; session = n; number = number; item = x })) (sym was.1)
            (subst (λ t. IsAnsweredBySeen w p changed after (record { txn = t; place = j; session = own.session; number = number; item = x })) same_txn
            (answered_after (record { txn = h.program.txn; place = j; session = own.session; number = number; item = x }) (gets j own h.program number x h.server was.0 f0 h.phase alive0)
            (of_item p state.links j own.session h.program.txn number x h.server (asks_of h.program.txn (link state.links 1 (j + 2))) (outstanding w state talk j own h.program number x h.server was.0 f0 h.phase alive0))))

        by : Outstanding p after j turn.state.session r.txn number x o asks → IsAnsweredBySeen w p changed after (record { txn = r.txn; place = j; session = turn.state.session; number = number; item = x })
        by (asked e n toks) = none_answers w p changed after _ (all_weaker r.txn j turn.state.session after (IsBelow number) (IsNot number) (λ a token low. below_not number a token low) toks)
        by (dropped e n toks) = none_answers w p changed after _ (all_weaker r.txn j turn.state.session after (IsBelow number) (IsNot number) (λ a token low. below_not number a token low) toks)
        by (read n z e l there has toks server falls_so) =
            elim (step_knows w own from letter (landed.says.homes j own at).ascend r.txn r number x o f is) [
              | inl before_so ↦ waited before_so
              | inr some ↦ absurd (some (not_asked e))
            ]

    pub site_gets : GetWhatTheySaw w (noted state.servers.sequencer.history) (slice_set state.servers.sites j (hear_site w own from letter).state)
        (moved state.links (suc (suc j)) from (hear_site w own from letter).state.session clock rest (hear_site w own from letter).outs)
    site_gets k s r number x o live f is alive = go (same_or_not k j)
      where
        go : (k ≡ j) ⊎ (k ≢ j) → IsAnsweredBySeen w p changed after (record { txn = r.txn; place = k; session = s.session; number = number; item = x })
        go (inl e) =
            let own_state : turn.state ≡ s = own_is s (ap (slice_get changed) (sym e) ∙ live.at) in
            let here : IsLive p changed j s = subst (λ n. IsLive p changed n s) e live in
            subst (λ n. IsAnsweredBySeen w p changed after (record { txn = r.txn; place = n; session = s.session; number = number; item = x })) (sym e)
            (subst (λ (z : SiteState). IsAnsweredBySeen w p changed after (record { txn = r.txn; place = j; session = z.session; number = number; item = x })) own_state
            (own_gets r number x o (subst (IsLive p changed j) (sym own_state) here) (ap (λ (z : SiteState). running_of z r.txn) own_state ∙ f) is alive))
        go (inr differ) =
            let there : slice_get sites k ≡ Some s = sym (get_other sites j k turn.state differ) ∙ live.at in
            let before_live : IsLive p sites k s = record { at = there; up = live.up; last = live.last } in
            answered_after (record { txn = r.txn; place = k; session = s.session; number = number; item = x }) (gets k s r number x o before_live f is alive)
            (of_item p state.links k s.session r.txn number x o (asks_of r.txn (link state.links 1 (k + 2))) (outstanding w state talk k s r number x o before_live f is alive))
