-- Each step of a site keeps the last versions.
use Rattle.std.proofs.Common.{◌≡◌, ◌≢◌, ◌⊎◌, inl, inr, ℕ, ℤ, zero, suc, ◌+◌, ◌-◌, ◌<◌, ◌≤◌, ◌==◌, nat_le, Bool, true, false, ◌&&◌, List, [], ◌∷◌, map, find, Option, Some, None, if◌then◌else◌, arith, sym, subst, ap, ◌∙◌, refl}
use Rattle.std.specs.Prelude.{⊤, slice_get, slice_set}
use Rattle.std.specs.List.{AllByRecursion}
use Rattle.std.proofs.lemmas.Bool.{and_from, eqb-true, true≢false}
use Rattle.raid_base.specs.declared.names.Txn.{Txn}
use Rattle.raid_base.specs.declared.names.Item.{Item}
use Rattle.raid_base.specs.declared.names.Site.{Site}
use Rattle.raid_base.specs.declared.entry.Entry.TheVariants.{Commit}
use Rattle.raid_base.specs.declared.entry.Noted.{Noted}
use Rattle.raid_base.specs.Names.{is_item, holds}
use Rattle.raid_base.specs.Sites.{site}
use Rattle.raid_workload.specs.declared.workload.Workload.{Workload}
use Rattle.raid_rules.specs.History.{noted, version}
use Rattle.raid_rules.specs.Sessions.{last_session, is_copy_locked}
use Rattle.raid_message.specs.declared.letter.Message.{Message}
use Rattle.raid_message.specs.declared.letter.Message.TheVariants as letters
use Rattle.raid_message.specs.declared.letter.Letter.{Letter}
use Rattle.raid_steps.specs.State.{Out, Turn, Copy, SiteState}
use Rattle.raid_steps.specs.Fits.{knows_txn, is_of_sequencer}
use Rattle.raid_steps.specs.Copies.{copy_of, staged_of, renewed, set_copy}
use Rattle.raid_steps.specs.Programs.{held_by}
use Rattle.raid_steps.specs.Site.{fits_here, hear_site}
use Rattle.raid_steps.specs.World.{World, link}
use Rattle.raid_sessions.proofs.Agreed.{told_follows}
use Rattle.raid_sessions.proofs.Holds.{last_of, IsHeard, IsSpoken}
use Rattle.raid_sessions.proofs.Lists.{all_weaken, at_most, get_below, get_set, get_other, same_self, set_long, some_is}
use Rattle.raid_sessions.proofs.Mail.{same_or_not, moved, moved_taken, moved_other}
use Rattle.raid_sessions.proofs.Reached.{from_below}
use Rattle.raid_moves.specs.Moves.{Hears, Tells, Says}
use Rattle.raid_asks.proofs.Facts.{or_left}
use Rattle.raid_letters.specs.Says.{is_held, was_applied, NoteSays, AreInTurn}
use Rattle.raid_letters.proofs.Runs.{LetterSays, QueueSays}
use Rattle.raid_layers.proofs.SiteWorlds.{HomeStep, home_step}
use Rattle.raid_layers.proofs.SiteWorlds as steps
use Rattle.raid_layers.proofs.Tokens.{OnLinks, step_all}
use Rattle.raid_staged.specs.Agree.{IsPartOf, AreParts, EntryAgrees}
use Rattle.raid_staged.specs.Staged.{is_staged, ApplyStaged}
use Rattle.raid_staged.proofs.Ends.{applied_committed}
use Rattle.raid_versions.specs.Versions.{was_written, was_written_by, IsVersion, OwesLast, IsLive, applies, is_pending, after_message, after_letter, AreAbove, Along, IsKeptUp, ApplyOwed, AckTold, CopyTold, Told, AboveAt, Brings, Sends, LastVersions, HaveLastVersions}
use Rattle.raid_versions.proofs.Owed.{Known, SiteOwes}
use Rattle.raid_versions.proofs.SiteCopies.{same_item, found_item, found_held, found_mapped, renewed_item, renewed_version, set_in, set_item, set_version, staged_has}
use Rattle.raid_versions.proofs.SiteFacts.{at_holds, noted_once, commit_once, committed_known, Applying, applying, writes_at, writer_at}
use Rattle.raid_versions.proofs.SiteLetters.{pending_rest, Effect, leaves, sets, effect, kept_rest, kept_later, sends_later, along_weaken}
use Rattle.raid_versions.proofs.SiteParts.{IsQuiet, Passes, IsSent, Copied, step_copies}
use Rattle.raid_versions.proofs.SiteParts as made
use Rattle.raid_versions.proofs.Written.{version_within, written_by}

module _ (w : Workload) (state : World) (known : Known w state) (last : HaveLastVersions state) (from clock : ℕ) (letter : Letter) (rest : List Letter) (j : ℕ) (own : SiteState)
    (at : slice_get state.servers.sites j ≡ Some own) (front : link state.links (suc (suc j)) from ≡ letter ∷ rest) where
  abbrev p : List Noted
  p = noted state.servers.sequencer.history

  abbrev sites : List SiteState
  sites = state.servers.sites

  abbrev here : Site
  here = site (j + 1)

  abbrev turn : Turn SiteState
  turn = hear_site w own from letter

  abbrev changed : List SiteState
  changed = slice_set state.servers.sites j (hear_site w own from letter).state

  abbrev after : List (List (List Letter))
  after = moved state.links (suc (suc j)) from (hear_site w own from letter).state.session clock rest (hear_site w own from letter).outs

  abbrev notes : List Letter
  notes = link state.links (j + 2) 1

  -- places
  place : suc (suc j) ≡ j + 2
  place = omega arith

  low : (k : ℕ) (s : SiteState) → slice_get sites k ≡ Some s → k < w.sites
  low k s there = (let b = get_below sites k s there in let long = known.says.reached.long in omega (arith, b, long))

  low_changed : (k : ℕ) (s : SiteState) → slice_get changed k ≡ Some s → k < w.sites
  low_changed k s there = (let b = get_below changed k s there in let same = set_long sites j turn.state in let long = known.says.reached.long in omega (arith, b, same, long))

  inside : suc (suc j) < w.sites + 2
  inside = (let b = low j own at in omega (arith, b))

  from_low : from < w.sites + 2
  from_low = from_below (w.sites + 2) state.links (suc (suc j)) from letter rest known.says.reached.square front

  own_is : (z : SiteState) → slice_get changed j ≡ Some z → turn.state ≡ z
  own_is z there = some_is turn.state z (sym (get_set sites j turn.state (get_below sites j own at)) ∙ there)

  other_is : (k : ℕ) (z : SiteState) → k ≢ j → slice_get changed k ≡ Some z → slice_get sites k ≡ Some z
  other_is k z differ there = sym (get_other sites j k turn.state differ) ∙ there

  -- the sequencer's links to sites: only what is heard is taken
  pub front_of : (d : ℕ) → from ≡ d → link state.links (j + 2) d ≡ letter ∷ rest
  front_of d q = ap (λ c. link state.links c d) (sym place) ∙ ap (link state.links (suc (suc j))) (sym q) ∙ front

  note_taken : from ≡ 1 → link after (j + 2) 1 ≡ rest
  note_taken one =
      ap (λ c. link after c 1) (sym place) ∙ ap (link after (suc (suc j))) (sym one)
      ∙ moved_taken (w.sites + 2) state.links (suc (suc j)) from turn.state.session clock rest turn.outs known.says.reached.square inside from_low (λ e. omega (arith, e, one))

  note_left : (from ≡ 1 → ⊥) → link after (j + 2) 1 ≡ notes
  note_left other =
      ap (λ c. link after c 1) (sym place)
      ∙ moved_other (w.sites + 2) state.links (suc (suc j)) from turn.state.session clock rest turn.outs known.says.reached.square inside (suc (suc j)) 1 inside (λ e. omega (arith, e)) (inr (λ e. other (sym e)))
      ∙ ap (λ c. link state.links c 1) place

  note_other : (k : ℕ) → k ≢ j → k < w.sites → link after (k + 2) 1 ≡ link state.links (k + 2) 1
  note_other k differ below =
      moved_other (w.sites + 2) state.links (suc (suc j)) from turn.state.session clock rest turn.outs known.says.reached.square inside (k + 2) 1 (omega (arith, below)) (λ e. omega (arith, e)) (inl (λ e. differ (omega (arith, e))))

  fewer : (k : ℕ) → k < w.sites → (m number : ℕ) → is_pending m number (link after (k + 2) 1) ≡ true → is_pending m number (link state.links (k + 2) 1) ≡ true
  fewer k below m number pending = go (same_or_not k j) (same_or_not from 1)
    where
      mine : (from ≡ 1) ⊎ (from ≢ 1) → is_pending m number (link after (j + 2) 1) ≡ true → is_pending m number notes ≡ true
      mine (inl one) h = subst (λ ls. is_pending m number ls ≡ true) (sym (front_of 1 one)) (pending_rest m number letter rest (subst (λ ls. is_pending m number ls ≡ true) (note_taken one) h))
      mine (inr other) h = subst (λ ls. is_pending m number ls ≡ true) (note_left other) h

      go : (k ≡ j) ⊎ (k ≢ j) → (from ≡ 1) ⊎ (from ≢ 1) → is_pending m number (link state.links (k + 2) 1) ≡ true
      go (inl e) whose = subst (λ z. is_pending m number (link state.links (z + 2) 1) ≡ true) (sym e) (mine whose (subst (λ z. is_pending m number (link after (z + 2) 1) ≡ true) e pending))
      go (inr differ) whose = subst (λ ls. is_pending m number ls ≡ true) (note_other k differ below) pending

  -- the site is live after the step only if it was before
  record Before (z : SiteState) : Type 0 where
    is : turn.state ≡ z
    live : IsLive p sites j own
    session : z.session ≡ own.session

  before : (z : SiteState) → IsLive p changed j z → Before z
  before z live = go (home_step w own from letter)
    where
      is : turn.state ≡ z
      is = own_is z live.at

      still : turn.state.up ≡ own.up → turn.state.session ≡ own.session → Before z
      still up session = (let same : z.session ≡ own.session = ap (λ (s : SiteState). s.session) (sym is) ∙ session in
          record { is = is; live = record { at = at; up = sym up ∙ ap (λ (s : SiteState). s.up) is ∙ live.up; last = live.last ∙ same }; session = same })

      go : HomeStep own from (hear_site w own from letter) → Before z
      go (steps.same none own_still) = still (ap (λ (s : SiteState). s.up) own_still) (ap (λ (s : SiteState). s.session) own_still)
      go (steps.falls none down) = absurd (true≢false (sym live.up ∙ ap (λ (s : SiteState). s.up) (sym is) ∙ down))
      go (steps.rises none next) = absurd (let follows = told_follows w state known.says.reached j own at in let now = live.last in let same = ap (λ (s : SiteState). s.session) is in omega (arith, follows, now, same, next))
      go (steps.hears was some up session) = still up session

  -- a site that hears another server is live
  pub hears_live : Hears own letter → (from ≡ 0 → ⊥) → IsLive p sites j own
  hears_live hears some = record { at = at; up = hears.up; last = (let most = told_follows w state known.says.reached j own at in let least = heard from refl in let same = eqb-true letter.to own.session hears.meant in omega (arith, most, least, same)) }
    where
      heard : (f : ℕ) → from ≡ f → letter.to ≤ last_session p (site (j + 1))
      heard zero of = absurd (some of)
      heard (suc zero) of = (subst (AllByRecursion (IsHeard w (last_of state.servers.sequencer.history) j)) (front_of 1 of) (known.says.reached.heard j (low j own at))).0.0
      heard (suc (suc i)) of =
          let two : from ≡ i + 2 = omega (arith, of) in
          (subst (AllByRecursion (IsSpoken w (last_of state.servers.sequencer.history) j i)) (front_of (i + 2) two) (known.says.reached.spoken j i (low j own at) (let b = from_low in omega (arith, b, of)))).0.0

  -- what is pending elsewhere is above a version still
  above_still : (k n : ℕ) (x : Item) (v : ℕ) → AboveAt p sites state.links k n x v → AboveAt p changed after k n x v
  above_still k n x v above z live same number pending written = go (same_or_not k j)
    where
      old : is_pending n number (link state.links (k + 2) 1) ≡ true
      old = fewer k (low_changed k z live.at) n number pending

      mine : (k ≡ j) → Before z → v < number
      mine e b = above own (subst (λ i. IsLive p sites i own) (sym e) b.live) (sym b.session ∙ same) number old written

      go : (k ≡ j) ⊎ (k ≢ j) → v < number
      go (inl e) = mine e (before z (subst (λ i. IsLive p changed i z) e live))
      go (inr differ) = above z (record { at = other_is k z differ live.at; up = live.up; last = live.last }) same number old written

  sends_still : (x : Item) (v : ℕ) (message : Message) (behind : List Letter) → Sends p sites state.links x v message behind → Sends p changed after x v message behind
  sends_still x v (letters.CopyDo y target n) behind h = λ same i is. above_still i n x v (h same i is)
  sends_still x v other behind h = tt

  -- what the letter says, where it is the sequencer's
  note : from ≡ 1 → NoteSays w p here letter.to letter.message
  note of =
      let says = (subst (QueueSays w p (suc (suc j)) from) front (known.says.says (suc (suc j)) from)).0 in
      subst (λ z. NoteSays w p z letter.to letter.message) (ap site (let e : suc (suc j) - 1 ≡ j + 1 = omega arith in e)) (subst (λ d. LetterSays w p (suc (suc j)) d letter) of says)

  applied_here : (t : Txn) (number : ℕ) → from ≡ 1 → letter.message ≡ letters.Apply t number → was_applied p t here number ≡ true
  applied_here t number one is = subst (NoteSays w p here letter.to) is (note one)

  turns : from ≡ 1 → AreInTurn (letter ∷ rest)
  turns one = subst AreInTurn (front_of 1 one) (known.says.turns (j + 2) 1 refl)

  -- an Apply fits
  fits : IsLive p sites j own → from ≡ 1 → (letter.to == own.session) ≡ true → (t : Txn) (number : ℕ) → letter.message ≡ letters.Apply t number → (is_of_sequencer w (letters.Apply t number) && fits_here w own (letters.Apply t number)) ≡ true
  fits live one meant t number is =
      and_from (knows_txn w t) (is_staged t own)
      (committed_known w state.servers.sequencer.history known.says.reached.placed t (applied_committed p t here number (applied_here t number one is)))
      (subst (ApplyStaged own) is ((subst (AllByRecursion (λ (l : Letter). (l.to == own.session) ≡ true → ApplyStaged own l.message)) (front_of 1 one) (known.staged.applies j own at live.up live.last)).0 meant))

  -- so where nothing is applied, the front letter leaves each version
  passes_by : Passes w own from letter → IsLive p sites j own → from ≡ 1 → (y : Item) (v : ℕ) → after_letter p y own.session v letter ≡ v
  passes_by passes live one y v = go (effect p y own.session letter)
    where
      go : Effect p y own.session letter → after_letter p y own.session v letter ≡ v
      go (leaves same) = same v
      go (sets t number meant is written set) = absurd (passes t number (record { heard = record { up = live.up; meant = meant }; by = one; is = is; fits = fits live one meant t number is }))

  -- the version that a copy of an item had, and the one that it has
  record Fares (y : Item) (u v : ℕ) : Type 0 where
    rises : u ≤ v
    is : IsVersion p y v
    kept : IsLive p sites j own → IsKeptUp p here y own.session u notes → IsKeptUp p here y own.session v (link after (j + 2) 1)
    sent : IsLive p sites j own → IsKeptUp p here y own.session u notes → Along (Sends p sites state.links y) p y own.session u notes → Along (Sends p sites state.links y) p y own.session v (link after (j + 2) 1)

  -- by the front letter
  fares_front : from ≡ 1 → (y : Item) (u : ℕ) (v : ℕ) → u ≤ v → IsVersion p y v → (IsLive p sites j own → v ≡ after_letter p y own.session u letter) → Fares y u v
  fares_front one y u v low is same = record {
    rises = low;
    is = is;
    kept = λ live kept. subst (IsKeptUp p here y own.session v) (sym (note_taken one)) (subst (λ z. IsKeptUp p here y own.session z rest) (sym (same live)) (kept_rest p y own.session here u letter rest (turns one) (subst (IsKeptUp p here y own.session u) (front_of 1 one) kept)));
    sent = λ live kept sent. subst (Along (Sends p sites state.links y) p y own.session v) (sym (note_taken one)) (subst (λ z. Along (Sends p sites state.links y) p y own.session z rest) (sym (same live)) (subst (Along (Sends p sites state.links y) p y own.session u) (front_of 1 one) sent).1);
  }

  -- by a letter that leaves it
  fares_still : Passes w own from letter → (y : Item) (c : Copy) → copy_of own y ≡ Some c → Fares y c.version c.version
  fares_still passes y c has = go (same_or_not from 1)
    where
      is : IsVersion p y c.version
      is = last.versions j own at y c has

      go : (from ≡ 1) ⊎ (from ≢ 1) → Fares y c.version c.version
      go (inl one) = fares_front one y c.version c.version (omega arith) is (λ live. sym (passes_by passes live one y c.version))
      go (inr other) = record {
        rises = omega arith;
        is = is;
        kept = λ live kept. subst (IsKeptUp p here y own.session c.version) (sym (note_left other)) kept;
        sent = λ live kept sent. subst (Along (Sends p sites state.links y) p y own.session c.version) (sym (note_left other)) sent;
      }

  -- by a copy that comes from another site
  fares_renewed : (from ≡ 1 → ⊥) → IsLive p sites j own → (x : Item) (c : Copy) (v : ℕ) → copy_of own x ≡ Some c → c.version < v → IsVersion p x v → AreAbove p x own.session v notes → Fares x c.version v
  fares_renewed other live x c v has less is above = record {
    rises = omega (arith, less);
    is = is;
    kept = λ live kept. subst (IsKeptUp p here x own.session v) (sym (note_left other)) (kept_later p x own.session here c.version v notes (omega (arith, less)) (version_within state.servers.sequencer.history x v is) above kept);
    sent = λ live kept sent. subst (Along (Sends p sites state.links x) p x own.session v) (sym (note_left other)) (sends_later p x own.session sites state.links c.version v notes less written (absent (is_pending own.session v notes) refl) kept.whole sent);
  }
    where
      written : was_written p x v ≡ true
      written = go is
        where
          go : IsVersion p x v → was_written p x v ≡ true
          go (inl none) = absurd (omega (arith, none, less))
          go (inr w) = w

      absent : (b : Bool) → is_pending own.session v notes ≡ b → b ≡ false
      absent true q = absurd (let more = above v q written in omega (arith, more))
      absent false q = refl

  -- a Commit that is applied here
  module _ (t : Txn) (number : ℕ) (tells : Tells w own from letter (letters.Apply t number)) where
    commit : Applying p t number
    commit = applying p t here number (applied_here t number tells.by tells.is)

    live_then : IsLive p sites j own
    live_then = hears_live tells.heard (λ none. (let one = tells.by in omega (arith, none, one)))

    writes : (x : Item) → was_written p x number ≡ holds x commit.request.writes
    writes x = writes_at p (noted_once state.servers.sequencer.history) t number commit x

    part : (ps : List (Item × ℤ)) → staged_of own t ≡ Some ps → ps ≡ held_by w here commit.request.writes
    part ps q =
        let all : AreParts w state t (Some commit.request.writes) = at_holds (EntryAgrees w state) p number (Commit t commit.request commit.applied) known.agree.entries commit.at in
        staged_has (λ (pairs : List (Item × ℤ)). IsPartOf w here (Some commit.request.writes) pairs) own t ps q (all.staged j own at)

    -- the version that a copy has after it
    after_it : (y : Item) (v : ℕ) → after_letter p y own.session v letter ≡ (if was_written p y number then number else v)
    after_it y v = ap (λ b. if b then after_message p y v letter.message else v) tells.heard.meant ∙ ap (after_message p y v) tells.is

    version_now : (y : Item) (c : Copy) → copy_of own y ≡ Some c → (renewed number (held_by w here commit.request.writes) c).version ≡ after_letter p y own.session c.version letter
    version_now y c has =
        renewed_version w here number commit.request.writes c (subst (λ z. is_held w here z ≡ true) (sym item) (sym (known.held j own at y) ∙ found_held own y c has))
        ∙ ap (λ b. if b then number else c.version) (ap (λ z. holds z commit.request.writes) item ∙ sym (writes y)) ∙ sym (after_it y c.version)
      where
        item : c.item ≡ y
        item = found_item own y c has

    has_number : (y : Item) (c d : Copy) → copy_of own y ≡ Some c → renewed number (held_by w here commit.request.writes) c ≡ d → was_written p y number ≡ true → d.version ≡ number
    has_number y c d has is written = ap (λ (z : Copy). z.version) (sym is) ∙ version_now y c has ∙ after_it y c.version ∙ ap (λ b. if b then number else c.version) written

    fares_applied : (y : Item) (c : Copy) → copy_of own y ≡ Some c → Fares y c.version (renewed number (held_by w here commit.request.writes) c).version
    fares_applied y c has = subst (Fares y c.version) (sym (version_now y c has)) (fares_front tells.by y c.version (after_letter p y own.session c.version letter) (grows (effect p y own.session letter)) (is (effect p y own.session letter)) (λ live. refl))
      where
        kept : IsKeptUp p here y own.session c.version (letter ∷ rest)
        kept = subst (IsKeptUp p here y own.session c.version) (front_of 1 tells.by) (last.kept j own live_then y c has)

        grows : Effect p y own.session letter → c.version ≤ after_letter p y own.session c.version letter
        grows (leaves same) = (let e = same c.version in omega (arith, e))
        grows (sets u n meant of written set) =
            let here_now = or_left (letter.to == own.session && applies n letter.message) (is_pending own.session n rest) (and_from (letter.to == own.session) (applies n letter.message) meant (ap (applies n) of ∙ same_self n)) in
            let more = kept.above n here_now written in
            let e = set c.version in
            omega (arith, more, e)

        is : Effect p y own.session letter → IsVersion p y (after_letter p y own.session c.version letter)
        is (leaves same) = subst (IsVersion p y) (sym (same c.version)) (last.versions j own at y c has)
        is (sets u n meant of written set) = subst (IsVersion p y) (sym (set c.version)) (inr written)

  -- a copy that was brought, as the letter has it
  module _ (k : ℕ) (x : Item) (value : ℤ) (v : ℕ) (says : Says w own from letter k (letters.CopyValue x value v)) where
    not_noted : from ≡ 1 → ⊥
    not_noted one = (let of = says.by in omega (arith, of, one))

    passes_now : Passes w own from letter
    passes_now t number tells = not_noted tells.by

    live_now : IsLive p sites j own
    live_now = hears_live says.heard (λ none. (let of = says.by in omega (arith, none, of)))

    brings : IsVersion p x v × AboveAt p sites state.links j letter.to x v
    brings = subst (Brings p sites state.links j letter.to) says.is (subst (AllByRecursion (λ (l : Letter). Brings p sites state.links j l.to l.message)) (front_of (k + 2) (let of = says.by in omega (arith, of))) (last.brought j k)).0

    above_here : AreAbove p x own.session v notes
    above_here = (let same : letter.to ≡ own.session = eqb-true letter.to own.session says.heard.meant in subst (λ m. AreAbove p x m v notes) same (brings.1 own live_now (sym same)))

    fares_brought : (y : Item) (c b : Copy) → copy_of own x ≡ Some c → nat_le c.version v ≡ true → copy_of own y ≡ Some b → Fares y b.version (set_in x value v b).version
    fares_brought y c b has most there = subst (Fares y b.version) (sym (set_version x value v b)) (go (is_item x b.item) refl)
      where
        older : (u : ℕ) → u ≤ v → (u ≡ v) ⊎ (u < v)
        older u l = elim (same_or_not u v) [ inl e ↦ inl e | inr differ ↦ inr (less u v l differ) ]
          where
            less : (a b : ℕ) → a ≤ b → a ≢ b → a < b
            less a b l differ = elim (le_or a b l) [ inl e ↦ absurd (differ e) | inr m ↦ m ]
              where
                le_or : (a b : ℕ) → a ≤ b → (a ≡ b) ⊎ (a < b)
                le_or zero zero l = inl refl
                le_or zero (suc b) l = inr (omega arith)
                le_or (suc a) zero l = absurd (omega (arith, l))
                le_or (suc a) (suc b) l = elim (le_or a b (omega (arith, l))) [ inl e ↦ inl (ap suc e) | inr m ↦ inr (omega (arith, m)) ]

        go : (d : Bool) → is_item x b.item ≡ d → Fares y b.version (if d then v else b.version)
        go false other = fares_still passes_now y b there
        go true same = its (found_item own y b there)
          where
            its : b.item ≡ y → Fares y b.version v
            its item =
                let y_is : y ≡ x = sym item ∙ same_item x b.item same in
                let one : c ≡ b = some_is c b (sym has ∙ ap (copy_of own) (sym y_is) ∙ there) in
                let low : b.version ≤ v = subst (λ (z : Copy). z.version ≤ v) one (at_most c.version v most) in
                elim (older b.version low) [
                  | inl e ↦ subst (Fares y b.version) e (fares_still passes_now y b there)
                  | inr less ↦ subst (λ z. Fares z b.version v) (sym y_is) (fares_renewed not_noted live_now x b v (subst (λ z. copy_of own z ≡ Some b) y_is there) less brings.0 above_here)
                ]

  -- each copy after the step
  abbrev Fared : Item → Copy → Type 0
  Fared y d = (c : Copy) × ((copy_of own y ≡ Some c) × Fares y c.version d.version)

  fares : (y : Item) (d : Copy) → copy_of turn.state y ≡ Some d → Fared y d
  fares y d has = go (step_copies w own from letter (known.says.homes j own at).ascend)
    where
      found : (cs : List Copy) → turn.state.copies ≡ cs → find (λ (c : Copy). is_item y c.item) cs ≡ Some d
      found cs same = sym (ap (find (λ (c : Copy). is_item y c.item)) same) ∙ has

      go : Copied w own from letter (hear_site w own from letter) → Fared y d
      go (made.keeps same passes sent) = (d, (found own.copies same, fares_still passes y d (found own.copies same)))
      go (made.applies t number ps tells q same sent) =
          let writes = (commit t number tells).request.writes in
          let made_of = found_mapped (renewed number (held_by w here writes)) (renewed_item number (held_by w here writes)) y own.copies d (found (map (renewed number (held_by w here writes)) own.copies) (same ∙ ap (λ z. map (renewed number z) own.copies) (part t number tells ps q))) in
          (made_of.0, (made_of.1.0, subst (λ (z : Copy). Fares y made_of.0.version z.version) made_of.1.1 (fares_applied t number tells y made_of.0 made_of.1.0)))
      go (made.renews k x value v c says q most same sent) =
          let made_of = found_mapped (set_in x value v) (set_item x value v) y own.copies d (found (map (set_in x value v) own.copies) same) in
          (made_of.0, (made_of.1.0, subst (λ (z : Copy). Fares y made_of.0.version z.version) made_of.1.1 (fares_brought k x value v says y c made_of.0 q most made_of.1.0)))

  -- what was told stays so
  told_still : (m : Message) → Told p own m → Told p turn.state m
  told_still (letters.Ack t) h = record {
    committed = h.committed;
    within = λ x d number has wrote. (let f = fares x d has in let low = h.within x f.0 number f.1.0 wrote in let more = f.1.1.rises in omega (arith, low, more));
  }
  told_still (letters.CopyDone x v) h = λ d has. (let f = fares x d has in let low = h f.0 f.1.0 in let more = f.1.1.rises in omega (arith, low, more))
  told_still other h = tt

  -- claims of letters, by their links
  abbrev ToldBy : Option SiteState → Message → Type 0
  ToldBy None m = ⊤
  ToldBy (Some s) m = Told p s m

  abbrev Claim : ℕ → ℕ → Letter → Type 0
  Claim zero d l = ⊤
  Claim (suc zero) zero l = ⊤
  Claim (suc zero) (suc zero) l = ⊤
  Claim (suc zero) (suc (suc k)) l = ToldBy (slice_get changed k) l.message
  Claim (suc (suc k)) zero l = ⊤
  Claim (suc (suc k)) (suc zero) l = ⊤
  Claim (suc (suc k)) (suc (suc i)) l = Brings p changed after k l.to l.message

  brings_still : (k to : ℕ) (m : Message) → Brings p sites state.links k to m → Brings p changed after k to m
  brings_still k to (letters.CopyValue x value v) h = (h.0, above_still k to x v h.1)
  brings_still k to other h = tt

  nothing_claimed : (ls : List Letter) → AllByRecursion (λ (l : Letter). ⊤) ls
  nothing_claimed [] = tt
  nothing_claimed (l ∷ ls) = (tt, nothing_claimed ls)

  old_claims : OnLinks Claim state.links
  old_claims zero d = nothing_claimed (link state.links zero d)
  old_claims (suc zero) zero = nothing_claimed (link state.links (suc zero) zero)
  old_claims (suc zero) (suc zero) = nothing_claimed (link state.links (suc zero) (suc zero))
  old_claims (suc zero) (suc (suc k)) = go (slice_get changed k) refl (same_or_not k j)
    where
      two : k + 2 ≡ suc (suc k)
      two = omega arith

      told : (s : SiteState) → slice_get sites k ≡ Some s → AllByRecursion (λ (l : Letter). Told p s l.message) (link state.links 1 (suc (suc k)))
      told s there = subst (λ d. AllByRecursion (λ (l : Letter). Told p s l.message) (link state.links 1 d)) two (last.told k s there)

      go : (o : Option SiteState) → slice_get changed k ≡ o → (k ≡ j) ⊎ (k ≢ j) → AllByRecursion (λ (l : Letter). ToldBy o l.message) (link state.links 1 (suc (suc k)))
      go None q whose = nothing_claimed (link state.links 1 (suc (suc k)))
      go (Some s) q (inl e) =
          let is : turn.state ≡ s = own_is s (subst (λ z. slice_get changed z ≡ Some s) e q) in
          all_weaken (λ (l : Letter). Told p own l.message) (λ (l : Letter). Told p s l.message) (link state.links 1 (suc (suc k))) (λ l h. subst (λ z. Told p z l.message) is (told_still l.message h)) (told own (subst (λ z. slice_get sites z ≡ Some own) (sym e) at))
      go (Some s) q (inr differ) = told s (other_is k s differ q)
  old_claims (suc (suc k)) zero = nothing_claimed (link state.links (suc (suc k)) zero)
  old_claims (suc (suc k)) (suc zero) = nothing_claimed (link state.links (suc (suc k)) (suc zero))
  old_claims (suc (suc k)) (suc (suc i)) =
      all_weaken (λ (l : Letter). Brings p sites state.links k l.to l.message) (λ (l : Letter). Brings p changed after k l.to l.message) (link state.links (suc (suc k)) (suc (suc i))) (λ l h. brings_still k l.to l.message h)
      (subst (λ c. AllByRecursion (λ (l : Letter). Brings p sites state.links k l.to l.message) (link state.links c (suc (suc i)))) (two k)
      (subst (λ d. AllByRecursion (λ (l : Letter). Brings p sites state.links k l.to l.message) (link state.links (k + 2) d)) (two i) (last.brought k i)))
    where
      two : (n : ℕ) → n + 2 ≡ suc (suc n)
      two n = omega arith

  -- of what is sent
  abbrev SentClaim : Out → Type 0
  SentClaim out = Claim out.0 (suc (suc j)) (let l : Letter = record { clock = clock; from = turn.state.session; to = out.1; message = out.2 } in l)

  told_plain : (o : Option SiteState) (m : Message) → IsQuiet m → ToldBy o m
  told_plain None m q = tt
  told_plain (Some s) (letters.Ack t) q = absurd q
  told_plain (Some s) (letters.CopyDone x v) q = absurd q
  told_plain (Some s) other q = tt

  brings_plain : (k to : ℕ) (m : Message) → IsQuiet m → Brings p changed after k to m
  brings_plain k to (letters.CopyValue x value v) q = absurd q
  brings_plain k to other q = tt

  quiet_claim : (c to : ℕ) (m : Message) → IsQuiet m → SentClaim (c, to, m)
  quiet_claim zero to m q = tt
  quiet_claim (suc zero) to m q = told_plain (slice_get changed j) m q
  quiet_claim (suc (suc k)) to m q = brings_plain k to m q

  -- a copy is sent
  copy_claim : (x : Item) (target : Site) (n : ℕ) (c : Copy) → Tells w own from letter (letters.CopyDo x target n) → copy_of own x ≡ Some c → (server : ℕ) → server ≡ target.0 + 1 → SentClaim (server, n, letters.CopyValue x c.value c.version)
  copy_claim x target n c tells has zero is = tt
  copy_claim x target n c tells has (suc zero) is = plain (slice_get changed j)
    where
      plain : (o : Option SiteState) → ToldBy o (letters.CopyValue x c.value c.version)
      plain None = tt
      plain (Some s) = tt
  copy_claim x target n c tells has (suc (suc k)) is = (last.versions j own at x c has, above_still k n x c.version (sends (same_self x.0) k its))
    where
      live : IsLive p sites j own
      live = hears_live tells.heard (λ none. (let one = tells.by in omega (arith, none, one)))

      sends : Sends p sites state.links x c.version (letters.CopyDo x target n) rest
      sends = subst (λ m. Sends p sites state.links x c.version m rest) tells.is ((subst (Along (Sends p sites state.links x) p x own.session c.version) (front_of 1 tells.by) (last.sent j own live x c has)).0 tells.heard.meant)

      its : target ≡ site (k + 1)
      its = ap (λ i. let z : Site = record { 0 = i } in z) (let e : target.0 ≡ k + 1 = omega (arith, is) in e)

  told_here : (m : Message) → Told p turn.state m → ToldBy (slice_get changed j) m
  told_here m h = subst (λ o. ToldBy o m) (sym (get_set sites j turn.state (get_below sites j own at))) h

  -- an Apply is acknowledged
  ack_told : (t : Txn) (number : ℕ) (ps : List (Item × ℤ)) (tells : Tells w own from letter (letters.Apply t number)) → staged_of own t ≡ Some ps → turn.state.copies ≡ map (renewed number ps) own.copies → AckTold p turn.state t
  ack_told t number ps tells q same = record { committed = applied_committed p t here number (applied_here t number tells.by tells.is); within = within }
    where
      writes : List (Item × ℤ)
      writes = (commit t number tells).request.writes

      one_number : (x : Item) (n : ℕ) → was_written_by p t x n ≡ true → n ≡ number
      one_number x n wrote =
          let by = writer_at p t x n wrote in
          let once = commit_once w state.servers.sequencer.history known.says.reached.placed t in
          once n by.0 by.1.0 by.1.1 ∙ sym (once number (Commit t (commit t number tells).request (commit t number tells).applied) (commit t number tells).at (same_self t.0))

      within : (x : Item) (d : Copy) (n : ℕ) → copy_of turn.state x ≡ Some d → was_written_by p t x n ≡ true → n ≤ d.version
      within x d n has wrote =
          let made_of = found_mapped (renewed number (held_by w here writes)) (renewed_item number (held_by w here writes)) x own.copies d
          (sym (ap (find (λ (c : Copy). is_item x c.item)) (same ∙ ap (λ z. map (renewed number z) own.copies) (part t number tells ps q))) ∙ has) in
          let written : was_written p x number ≡ true = subst (λ z. was_written p x z ≡ true) (one_number x n wrote) (written_by p t x n wrote) in
          let now = has_number t number tells x made_of.0 d made_of.1.0 made_of.1.1 written in
          let is = one_number x n wrote in
          omega (arith, now, is)

  -- a copy that was renewed is told of
  done_told : (x : Item) (value : ℤ) (v : ℕ) → turn.state.copies ≡ set_copy x value v own.copies → CopyTold turn.state x v
  done_told x value v same d has =
      let made_of = found_mapped (set_in x value v) (set_item x value v) x own.copies d (sym (ap (find (λ (c : Copy). is_item x c.item)) same) ∙ has) in
      let item = found_item own x made_of.0 made_of.1.0 in
      let now : d.version ≡ v = ap (λ (z : Copy). z.version) (sym made_of.1.1) ∙ set_version x value v made_of.0 ∙ ap (λ b. if b then v else made_of.0.version) (ap (is_item x) item ∙ same_self x.0) in
      omega (arith, now)

  sent_claims : AllByRecursion SentClaim turn.outs
  sent_claims = go (step_copies w own from letter (known.says.homes j own at).ascend)
    where
      each : (Q : Out → Type 0) → ((out : Out) → Q out → SentClaim out) → AllByRecursion (λ (out : Out). IsQuiet out.2 ⊎ Q out) turn.outs → AllByRecursion SentClaim turn.outs
      each Q f a = all_weaken (λ (out : Out). IsQuiet out.2 ⊎ Q out) SentClaim turn.outs (λ out h. elim h [ inl quiet ↦ quiet_claim out.0 out.1 out.2 quiet | inr special ↦ f out special ]) a

      copies : (out : Out) → IsSent w own from letter out → SentClaim out
      copies out (made.copied x target n c tells has is) = subst SentClaim (sym is) (copy_claim x target n c tells has (target.0 + 1) refl)

      go : Copied w own from letter (hear_site w own from letter) → AllByRecursion SentClaim turn.outs
      go (made.keeps same passes sent) = each (IsSent w own from letter) copies sent
      go (made.applies t number ps tells q same sent) = each (λ out. out ≡ (1, 0, letters.Ack t)) (λ out is. subst SentClaim (sym is) (told_here (letters.Ack t) (ack_told t number ps tells q same))) sent
      go (made.renews k x value v c says q most same sent) = each (λ out. out ≡ (1, 0, letters.CopyDone x v)) (λ out is. subst SentClaim (sym is) (told_here (letters.CopyDone x v) (done_told x value v same))) sent

  new_claims : OnLinks Claim after
  new_claims = step_all Claim (suc (suc j)) from turn.state.session clock letter rest turn.outs state.links front sent_claims old_claims

  -- the site itself
  own_unlocked : (x : Item) (d : Copy) → copy_of turn.state x ≡ Some d → is_copy_locked p here x ≡ false → (d.version ≡ version p x) ⊎ OwesLast p here x
  own_unlocked x d has free = (let f = fares x d has in elim (last.unlocked j own at x f.0 f.1.0 free) [
    | inl same ↦ inl (let more = f.1.1.rises in let most = version_within state.servers.sequencer.history x d.version f.1.1.is in let e : d.version ≡ version p x = omega (arith, same, more, most) in e)
    | inr owes ↦ inr owes
  ])

  own_kept : (z : SiteState) → IsLive p changed j z → (x : Item) (d : Copy) → copy_of z x ≡ Some d → IsKeptUp p here x z.session d.version (link after (j + 2) 1)
  own_kept z live x d has =
      let b = before z live in
      let f = fares x d (ap (λ s. copy_of s x) b.is ∙ has) in
      subst (λ m. IsKeptUp p here x m d.version (link after (j + 2) 1)) (sym b.session) (f.1.1.kept b.live (last.kept j own b.live x f.0 f.1.0))

  own_sent : (z : SiteState) → IsLive p changed j z → (x : Item) (d : Copy) → copy_of z x ≡ Some d → Along (Sends p changed after x) p x z.session d.version (link after (j + 2) 1)
  own_sent z live x d has =
      let b = before z live in
      let f = fares x d (ap (λ s. copy_of s x) b.is ∙ has) in
      subst (λ m. Along (Sends p changed after x) p x m d.version (link after (j + 2) 1)) (sym b.session)
      (along_weaken p x own.session (Sends p sites state.links x) (Sends p changed after x) (sends_still x) d.version (link after (j + 2) 1) (f.1.1.sent b.live (last.kept j own b.live x f.0 f.1.0) (last.sent j own b.live x f.0 f.1.0)))

  abbrev Owed : ℕ → Letter → Type 0
  Owed m l = (l.to == m) ≡ true → ApplyOwed p here l.message

  own_owed : (z : SiteState) → IsLive p changed j z → AllByRecursion (Owed z.session) (link after (j + 2) 1)
  own_owed z live = subst (λ m. AllByRecursion (Owed m) (link after (j + 2) 1)) (sym b.session) (go (same_or_not from 1))
    where
      b : Before z
      b = before z live

      go : (from ≡ 1) ⊎ (from ≢ 1) → AllByRecursion (Owed own.session) (link after (j + 2) 1)
      go (inl one) = subst (AllByRecursion (Owed own.session)) (sym (note_taken one)) (subst (AllByRecursion (Owed own.session)) (front_of 1 one) (last.owed j own b.live)).1
      go (inr other) = subst (AllByRecursion (Owed own.session)) (sym (note_left other)) (last.owed j own b.live)

  -- each site
  old_live : (k : ℕ) (z : SiteState) → k ≢ j → IsLive p changed k z → IsLive p sites k z
  old_live k z differ live = record { at = other_is k z differ live.at; up = live.up; last = live.last }

  pub site_last : LastVersions (noted state.servers.sequencer.history) (slice_set state.servers.sites j (hear_site w own from letter).state)
      (moved state.links (suc (suc j)) from (hear_site w own from letter).state.session clock rest (hear_site w own from letter).outs)
  site_last = record {
    versions = λ k z there x d has. versions k z there x d has (same_or_not k j);
    unlocked = λ k z there x d has. unlocked k z there x d has (same_or_not k j);
    kept = λ k z live x d has. kept k z live x d has (same_or_not k j);
    owed = λ k z live. owed k z live (same_or_not k j);
    told = told;
    brought = brought;
    sent = λ k z live x d has. sent k z live x d has (same_or_not k j);
  }
    where
      here_is : (z : SiteState) (k : ℕ) → k ≡ j → slice_get changed k ≡ Some z → turn.state ≡ z
      here_is z k e there = own_is z (subst (λ i. slice_get changed i ≡ Some z) e there)

      versions : (k : ℕ) (z : SiteState) → slice_get changed k ≡ Some z → (x : Item) (d : Copy) → copy_of z x ≡ Some d → (k ≡ j) ⊎ (k ≢ j) → IsVersion p x d.version
      versions k z there x d has (inl e) = (fares x d (ap (λ s. copy_of s x) (here_is z k e there) ∙ has)).1.1.is
      versions k z there x d has (inr differ) = last.versions k z (other_is k z differ there) x d has

      unlocked : (k : ℕ) (z : SiteState) → slice_get changed k ≡ Some z → (x : Item) (d : Copy) → copy_of z x ≡ Some d → (k ≡ j) ⊎ (k ≢ j) → is_copy_locked p (site (k + 1)) x ≡ false → (d.version ≡ version p x) ⊎ OwesLast p (site (k + 1)) x
      unlocked k z there x d has (inl e) =
          subst (λ i. is_copy_locked p (site (i + 1)) x ≡ false → (d.version ≡ version p x) ⊎ OwesLast p (site (i + 1)) x) (sym e) (own_unlocked x d (ap (λ s. copy_of s x) (here_is z k e there) ∙ has))
      unlocked k z there x d has (inr differ) = last.unlocked k z (other_is k z differ there) x d has

      kept : (k : ℕ) (z : SiteState) → IsLive p changed k z → (x : Item) (d : Copy) → copy_of z x ≡ Some d → (k ≡ j) ⊎ (k ≢ j) → IsKeptUp p (site (k + 1)) x z.session d.version (link after (k + 2) 1)
      kept k z live x d has (inl e) = subst (λ i. IsKeptUp p (site (i + 1)) x z.session d.version (link after (i + 2) 1)) (sym e) (own_kept z (subst (λ i. IsLive p changed i z) e live) x d has)
      kept k z live x d has (inr differ) = subst (IsKeptUp p (site (k + 1)) x z.session d.version) (sym (note_other k differ (low_changed k z live.at))) (last.kept k z (old_live k z differ live) x d has)

      owed : (k : ℕ) (z : SiteState) → IsLive p changed k z → (k ≡ j) ⊎ (k ≢ j) → AllByRecursion (λ (l : Letter). (l.to == z.session) ≡ true → ApplyOwed p (site (k + 1)) l.message) (link after (k + 2) 1)
      owed k z live (inl e) = subst (λ i. AllByRecursion (λ (l : Letter). (l.to == z.session) ≡ true → ApplyOwed p (site (i + 1)) l.message) (link after (i + 2) 1)) (sym e) (own_owed z (subst (λ i. IsLive p changed i z) e live))
      owed k z live (inr differ) = subst (AllByRecursion (λ (l : Letter). (l.to == z.session) ≡ true → ApplyOwed p (site (k + 1)) l.message)) (sym (note_other k differ (low_changed k z live.at))) (last.owed k z (old_live k z differ live))

      sent : (k : ℕ) (z : SiteState) → IsLive p changed k z → (x : Item) (d : Copy) → copy_of z x ≡ Some d → (k ≡ j) ⊎ (k ≢ j) → Along (Sends p changed after x) p x z.session d.version (link after (k + 2) 1)
      sent k z live x d has (inl e) = subst (λ i. Along (Sends p changed after x) p x z.session d.version (link after (i + 2) 1)) (sym e) (own_sent z (subst (λ i. IsLive p changed i z) e live) x d has)
      sent k z live x d has (inr differ) =
          subst (Along (Sends p changed after x) p x z.session d.version) (sym (note_other k differ (low_changed k z live.at)))
          (along_weaken p x z.session (Sends p sites state.links x) (Sends p changed after x) (sends_still x) d.version (link state.links (k + 2) 1) (last.sent k z (old_live k z differ live) x d has))

      two : (n : ℕ) → suc (suc n) ≡ n + 2
      two n = omega arith

      told : (k : ℕ) (z : SiteState) → slice_get changed k ≡ Some z → AllByRecursion (λ (l : Letter). Told p z l.message) (link after 1 (k + 2))
      told k z there = subst (λ d. AllByRecursion (λ (l : Letter). Told p z l.message) (link after 1 d)) (two k) (subst (λ o. AllByRecursion (λ (l : Letter). ToldBy o l.message) (link after 1 (suc (suc k)))) there (new_claims 1 (suc (suc k))))

      brought : (k i : ℕ) → AllByRecursion (λ (l : Letter). Brings p changed after k l.to l.message) (link after (k + 2) (i + 2))
      brought k i =
          subst (λ c. AllByRecursion (λ (l : Letter). Brings p changed after k l.to l.message) (link after c (i + 2))) (two k)
          (subst (λ d. AllByRecursion (λ (l : Letter). Brings p changed after k l.to l.message) (link after (suc (suc k)) d)) (two i) (new_claims (suc (suc k)) (suc (suc i))))

pub site_versions : (w : Workload) → SiteOwes w
site_versions w state known last from clock letter rest k own at front = site_last w state known last from clock letter rest k own at front
