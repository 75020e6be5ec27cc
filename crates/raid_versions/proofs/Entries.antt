-- Each entry that the sequencer places keeps what copies have and get.
use Rattle.std.proofs.Common.{◌≡◌, ◌⊎◌, inl, inr, ℕ, ◌+◌, ◌<◌, ◌≤◌, ◌==◌, nat_lt, Bool, true, false, not, ◌&&◌, ◌||◌, List, ◌++◌, length, Some, if◌then◌else◌, arith, sym, subst, ap, ◌∙◌, refl}
use Rattle.std.specs.Prelude.{⊤, slice_get}
use Rattle.std.specs.List.{AllByRecursion}
use Rattle.std.proofs.lemmas.Bool.{and_parts, and_from, true≢false}
use Rattle.raid_base.specs.declared.names.Txn.{Txn}
use Rattle.raid_base.specs.declared.names.Item.{Item}
use Rattle.raid_base.specs.declared.names.Site.{Site}
use Rattle.raid_base.specs.declared.request.Request.{Request}
use Rattle.raid_base.specs.declared.entry.Entry.{Entry}
use Rattle.raid_base.specs.declared.entry.Entry.TheVariants.{Read, Commit, Abort, Ack, Down, Up, Clear}
use Rattle.raid_base.specs.declared.entry.Noted.{Noted}
use Rattle.raid_base.specs.Names.{is_txn, is_item, is_site, has_site, holds}
use Rattle.raid_base.specs.Sites.{session, site}
use Rattle.raid_workload.specs.declared.workload.Workload.{Workload}
use Rattle.raid_workload.specs.Parts.{home}
use Rattle.raid_workload.specs.Parts as workload
use Rattle.raid_rules.specs.Entries.{writes_of, writes_item, is_commit}
use Rattle.raid_rules.specs.History.{noted, add, next, version}
use Rattle.raid_rules.specs.Sessions.{owes, owes_for, turn_owed, turn_lock, turn_vector, is_copy_locked}
use Rattle.raid_rules.proofs.Push.{is_copy_locked_push, vector_push, same_txn}
use Rattle.raid_legal.specs.Seen.{vector, is_up}
use Rattle.raid_message.specs.declared.letter.Message.{Message}
use Rattle.raid_message.specs.declared.letter.Message.TheVariants as letters
use Rattle.raid_message.specs.declared.letter.Letter.{Letter}
use Rattle.raid_steps.specs.State.{Out, Copy, SiteState}
use Rattle.raid_steps.specs.Copies.{copy_of}
use Rattle.raid_steps.specs.Fits.{knows_site}
use Rattle.raid_steps.specs.Sequencer as rows
use Rattle.raid_steps.specs.World.{link}
use Rattle.raid_placed.specs.Placed.{Placed, Placeable}
use Rattle.raid_sessions.proofs.Ledger.{session_set}
use Rattle.raid_sessions.proofs.Lists.{all_append, all_weaken, same_self}
use Rattle.raid_sessions.proofs.Mail.{letters_to}
use Rattle.raid_asks.proofs.Facts.{or_right, any_weaken}
use Rattle.raid_asks.proofs.Notes.{all_sent}
use Rattle.raid_letters.specs.Says.{is_held, is_applied}
use Rattle.raid_letters.proofs.Sends.{same_site}
use Rattle.raid_moves.proofs.Places.{all_both}
use Rattle.raid_versions.specs.Versions.{was_written, was_written_by, IsVersion, OwesLast, IsLive, is_pending, latest, NonePending, NoGap, Along, ReadsWhole, IsKeptUp, ApplyOwed, AckTold, CopyTold, Told, Sends}
use Rattle.raid_versions.proofs.Copied.{held_copied, copied_held}
use Rattle.raid_versions.proofs.Grown.{kept_more, kept_commit, kept_risen, Was, was, risen, grown}
use Rattle.raid_versions.proofs.Links.{IsUnread, AreUnread, IsUnapplied, AreUnapplied, ApplyOnly, along_unread, unread, pending_only, latest_off, latest_alike, latest_quiet, all_alike}
use Rattle.raid_versions.proofs.Mid.{ApplySays, Mid, Alive, IsTold, owes_now, version_now, after, inside, known, stand_now, live_now, grows_now, only_now, mid_now}
use Rattle.raid_versions.proofs.Owed.{HoldsOwn}
use Rattle.raid_versions.proofs.Placing.{commit_whole, read_source, clear_locked, up_holder, held_some, applied_held}
use Rattle.raid_versions.proofs.SiteCopies.{same_item}
use Rattle.raid_versions.proofs.Sent.{place_is, along_each, along_any, each_pending, SendsOf, sends_of, apply_pending}
use Rattle.raid_versions.proofs.Steps.{Why, source_unlocked}
use Rattle.raid_versions.proofs.Written.{at_number, at_parts, at_kept, at_last, at_same, numbered, version_most, version_within, version_long, written_by, long_push}

-- an entry that is no Read, and one that is no Commit
abbrev IsNoRead : Entry → Type 0
IsNoRead (Read t x s) = ⊥
IsNoRead other = ⊤

module _ (w : Workload) (sites : List SiteState) (long : length sites ≡ w.sites) (held : (k : ℕ) (s : SiteState) → slice_get sites k ≡ Some s → HoldsOwn w k s) (known_sites : (k : ℕ) → k < w.sites → has_site (workload.sites w) (site (k + 1)) ≡ true)
    (from : ℕ) (letter : Letter) (first : List Noted) (told : IsTold w sites from letter first)
    (h : List Entry) (links : List (List (List Letter))) (clock ask : ℕ) (e : Entry) (placed : Placed w h) (mid : Mid w sites (noted h) links) (goes : Placeable w (noted h) e) (why : Why w from letter first (noted h) e)
    (alive : Alive w sites (noted h)) (alive_now : Alive w sites (add (noted h) e)) where
  abbrev p : List Noted
  p = noted h

  abbrev q : List Noted
  q = add (noted h) e

  abbrev outs : List Out
  outs = rows.sends w (add (noted h) e) ask e

  abbrev new : ℕ → List Letter
  new k = letters_to (k + 2) 0 clock (rows.sends w (add (noted h) e) ask e)

  abbrev notes : ℕ → List Letter
  notes k = link links (k + 2) 1

  same_place : (k j : ℕ) → site (k + 1) ≡ site (j + 1) → k ≡ j
  same_place k j r = (let e = ap (λ (s : Site). s.0) r in omega (arith, e))

  lock_now : (s : Site) (x : Item) → is_copy_locked q s x ≡ turn_lock s x p (is_copy_locked p s x) e
  lock_now s x = is_copy_locked_push p (next p e) s x

  -- copies that the site has
  has_copy : (k : ℕ) (s : SiteState) → slice_get sites k ≡ Some s → (x : Item) → is_held w (site (k + 1)) x ≡ true → (c : Copy) × (copy_of s x ≡ Some c)
  has_copy k s at x is = held_copied s x (held k s at x ∙ is)

  is_copied : (k : ℕ) (s : SiteState) → slice_get sites k ≡ Some s → (x : Item) (c : Copy) → copy_of s x ≡ Some c → is_held w (site (k + 1)) x ≡ true
  is_copied k s at x c has = sym (held k s at x) ∙ copied_held s x c has

  -- what the letter told of the site
  acked : (t : Txn) (r : Site) → Why w from letter first p (Ack t r) → (k : ℕ) (s : SiteState) → slice_get sites k ≡ Some s → site (k + 1) ≡ r → AckTold p s t
  acked t r (j, (of, (is, (place, same)))) k s at here =
      subst (λ z. AckTold z s t) (sym same) (subst (Told first s) is (told k s (let e = same_place k j (here ∙ place) in omega (arith, of, e)) at))

  copied : (r : Site) (x : Item) (v : ℕ) → Why w from letter first p (Clear r x v) → (k : ℕ) (s : SiteState) → slice_get sites k ≡ Some s → site (k + 1) ≡ r → CopyTold s x v
  copied r x v (j, (of, (is, (place, same)))) k s at here = subst (Told first s) is (told k s (let e = same_place k j (here ∙ place) in omega (arith, of, e)) at)

  -- an unlocked copy
  module _ (k : ℕ) (s : SiteState) (at : slice_get sites k ≡ Some s) (x : Item) (c : Copy) (has : copy_of s x ≡ Some c) where
    abbrev here : Site
    here = site (k + 1)

    abbrev IsFit : List Noted → Type 0
    IsFit r = (c.version ≡ version r x) ⊎ OwesLast r (site (k + 1)) x

    is_version : IsVersion p x c.version
    is_version = mid.last.versions k s at x c has

    -- where no Commit writes the item, it is as before
    still : (d : Entry) → e ≡ d → holds x (writes_of d) ≡ false → ((t : Txn) → owes p here t ≡ true → was_written_by p t x (version p x) ≡ true → (c.version ≡ version p x) ⊎ (turn_owed here t true d ≡ true)) →
        (c.version ≡ version p x) ⊎ OwesLast p here x → IsFit q
    still d is none keeps old = elim old [
      | inl same ↦ inl (same ∙ sym now)
      | inr o ↦ elim (keeps o.txn o.owed o.wrote) [
        | inl same ↦ inl (same ∙ sym now)
        | inr owed ↦ inr (record {
          txn = o.txn;
          wrote = subst (λ n. was_written_by q o.txn x n ≡ true) (sym now) (at_kept (writes_item o.txn x) p e (version p x) o.wrote);
          owed = owes_now p e here o.txn ∙ ap (λ b. turn_owed here o.txn b e) o.owed ∙ ap (turn_owed here o.txn true) is ∙ owed;
        })
      ]
    ]
      where
        now : version q x ≡ version p x
        now = version_now p e x ∙ ap (λ b. if b then length p + 1 else version p x) (ap (λ z. holds x (writes_of z)) is ∙ none)

    unlocked_now : is_copy_locked q here x ≡ false → IsFit q
    unlocked_now free = go e refl goes why (sym (lock_now here x) ∙ free)
      where
        old : is_copy_locked p here x ≡ false → (c.version ≡ version p x) ⊎ OwesLast p here x
        old = mid.last.unlocked k s at x c has

        plain : (d : Entry) → e ≡ d → holds x (writes_of d) ≡ false → ((t : Txn) → turn_owed here t true d ≡ true) → is_copy_locked p here x ≡ false → IsFit q
        plain d is none keeps unlocked = still d is none (λ t owed wrote. inr (keeps t)) (old unlocked)

        commit : (t : Txn) (r : Request) (applied : List Site) → e ≡ Commit t r applied → (b : Bool) → holds x r.writes ≡ b → (if b then not (has_site applied here) else is_copy_locked p here x) ≡ false → IsFit q
        commit t r applied is true wrote unlocked =
            inr (record {
              txn = t;
              wrote = subst (λ n. was_written_by q t x n ≡ true) (sym (version_now p e x ∙ ap (λ b. if b then length p + 1 else version p x) (ap (λ z. holds x (writes_of z)) is ∙ wrote)))
                  (at_last (writes_item t x) p e (ap (writes_item t x) is ∙ and_from (is_txn t t) (holds x r.writes) (same_self t.0) wrote));
              owed = owes_now p e here t ∙ ap (turn_owed here t (owes p here t)) is ∙ or_right (owes p here t) (is_txn t t && has_site applied here) (and_from (is_txn t t) (has_site applied here) (same_self t.0) (there (has_site applied here) unlocked));
            })
          where
            there : (b : Bool) → not b ≡ false → b ≡ true
            there true r = refl
            there false r = absurd (true≢false r)
        commit t r applied is false wrote unlocked = still (Commit t r applied) is wrote (λ u owed w. inr refl) (old unlocked)

        ack : (t : Txn) (r : Site) → e ≡ Ack t r → Why w from letter first p (Ack t r) → is_copy_locked p here x ≡ false → IsFit q
        ack t r is y unlocked = still (Ack t r) is refl keeps (old unlocked)
          where
            keeps : (u : Txn) → owes p here u ≡ true → was_written_by p u x (version p x) ≡ true → (c.version ≡ version p x) ⊎ (not (is_txn u t && is_site here r) ≡ true)
            keeps u owed wrote = go (is_txn u t && is_site here r) refl
              where
                go : (b : Bool) → (is_txn u t && is_site here r) ≡ b → (c.version ≡ version p x) ⊎ (not b ≡ true)
                go true is =
                    let both = and_parts (is_txn u t) (is_site here r) is in
                    let a = acked t r y k s at (sym (same_site here r both.1)) in
                    let most = a.within x c (version p x) has (subst (λ z. was_written_by p z x (version p x) ≡ true) (sym (same_txn t u both.0)) wrote) in
                    let least = version_within h x c.version is_version in
                    inl (omega (arith, most, least))
                go false is = inr refl

        down : (r : Site) → e ≡ Down r → (is_copy_locked p here x || (is_site here r && owes_for p here x)) ≡ false → IsFit q
        down r is unlocked = split (is_copy_locked p here x) refl (is_site here r && owes_for p here x) refl unlocked
          where
            split : (a : Bool) → is_copy_locked p here x ≡ a → (b : Bool) → (is_site here r && owes_for p here x) ≡ b → (a || b) ≡ false → IsFit q
            split true qa b qb f = absurd (true≢false f)
            split false qa true qb f = absurd (true≢false f)
            split false qa false qb f = still (Down r) is refl keeps (old qa)
              where
                keeps : (u : Txn) → owes p here u ≡ true → was_written_by p u x (version p x) ≡ true → (c.version ≡ version p x) ⊎ (not (is_site here r) ≡ true)
                keeps u owed wrote = go (is_site here r) refl qb
                  where
                    commits : (d : Entry) → writes_item u x d ≡ true → is_commit (λ t request. holds x request.writes && owes p here t) d ≡ true
                    commits (Commit t request applied) r =
                        let both = and_parts (is_txn u t) (holds x request.writes) r in
                        and_from (holds x request.writes) (owes p here t) both.1 (subst (λ z. owes p here z ≡ true) (sym (same_txn t u both.0)) owed)
                    commits other r = absurd (true≢false (sym r))

                    for_it : owes_for p here x ≡ true
                    for_it = any_weaken (λ z. (z.at == version p x) && writes_item u x z.entry) (λ z. is_commit (λ t request. holds x request.writes && owes p here t) z.entry)
                        (λ z r. commits z.entry (and_parts (z.at == version p x) (writes_item u x z.entry) r).1) p wrote

                    go : (b : Bool) → is_site here r ≡ b → (b && owes_for p here x) ≡ false → (c.version ≡ version p x) ⊎ (not b ≡ true)
                    go true is none = absurd (true≢false (sym for_it ∙ none))
                    go false is none = inr refl

        clear : (r : Site) (y : Item) (v : ℕ) → e ≡ Clear r y v → Placeable w p (Clear r y v) → Why w from letter first p (Clear r y v) → (is_copy_locked p here x && not (is_site here r && is_item x y)) ≡ false → IsFit q
        clear r y v is g told_why unlocked = split (is_copy_locked p here x) refl (is_site here r && is_item x y) refl unlocked
          where
            split : (a : Bool) → is_copy_locked p here x ≡ a → (b : Bool) → (is_site here r && is_item x y) ≡ b → (a && not b) ≡ false → IsFit q
            split true qa true qb f =
                let both = and_parts (is_site here r) (is_item x y) qb in
                let item = sym (same_item x y both.1) in
                let most : v ≤ c.version = copied r y v told_why k s at (sym (same_site here r both.0)) c (subst (λ z. copy_of s z ≡ Some c) item has) in
                let now = (clear_locked w p r y v g).1 ∙ ap (version p) (sym item) in
                let least = version_within h x c.version is_version in
                let same : c.version ≡ version p x = omega (arith, most, now, least) in
                inl (same ∙ sym (version_now p e x ∙ ap (λ z. if holds x (writes_of z) then length p + 1 else version p x) is))
            split true qa false qb f = absurd (true≢false f)
            split false qa b qb f = plain (Clear r y v) is refl (λ t. refl) qa

        go : (d : Entry) → e ≡ d → Placeable w p d → Why w from letter first p d → turn_lock here x p (is_copy_locked p here x) d ≡ false → IsFit q
        go (Commit t r applied) is g y unlocked = commit t r applied is (holds x r.writes) refl unlocked
        go (Ack t r) is g y unlocked = ack t r is y unlocked
        go (Down r) is g y unlocked = down r is unlocked
        go (Clear r y v) is g told_why unlocked = clear r y v is g told_why unlocked
        go other is g y unlocked = plain other is refl (λ t. refl) unlocked

  -- a site that goes down isn't live
  down_other : (r : Site) → e ≡ Down r → (k : ℕ) (s : SiteState) → IsLive q sites k s → is_site (site (k + 1)) r ≡ false
  down_other r is k s live = go (is_site (site (k + 1)) r) refl
    where
      low : k < w.sites
      low = inside w sites long from letter first h links clock ask e mid goes why k s live.at

      is_known : knows_site w r ≡ true
      is_known = subst (Why w from letter first p) is why

      now : (b : Bool) → is_site (site (k + 1)) r ≡ b → session (vector w q) (site (k + 1)) ≡ (if b then 0 else session (vector w p) (site (k + 1)))
      now b there = ap (λ v. session v (site (k + 1))) (vector_push w.sites p (next p e) ∙ ap (turn_vector (vector w p)) is)
          ∙ session_set w (vector w p) r (site (k + 1)) 0 mid.vectors is_known (known w sites long from letter first h links clock ask e mid goes why k low)
          ∙ ap (λ b. if b then 0 else session (vector w p) (site (k + 1))) there

      go : (b : Bool) → is_site (site (k + 1)) r ≡ b → b ≡ false
      go true there =
          let some = (stand_now w sites long from letter first h links clock ask e mid goes why k low).some in
          let last = live.last in
          let up = alive_now k s live in
          let none = now true there in
          absurd (omega (arith, some, last, up, none))
      go false there = refl

  -- what the entry sends
  new_unread : IsNoRead e → (k : ℕ) → AreUnread (new k)
  new_unread calm k = all_sent (λ (l : Letter). IsUnread l.message) (k + 2) 0 clock outs (all_weaken (λ (out : Out). IsUnread out.2) (λ (out : Out). out.0 ≡ k + 2 → IsUnread out.2) outs (λ out r of. r) (sends_of w q ask (λ (out : Out). IsUnread out.2) e (go e calm)))
    where
      go : (d : Entry) → IsNoRead d → SendsOf w q ask (λ (out : Out). IsUnread out.2) d
      go (Read t x s) calm = absurd calm
      go (Commit t r applied) calm = λ s. ((λ there. tt), tt)
      go (Abort t cause act) calm = λ s. tt
      go (Down r) calm = λ s. tt
      go (Up r n) calm = (tt, (λ s. tt))
      go other calm = tt

  abbrev later : List (List (List Letter))
  later = after w sites long from letter first h links clock ask e mid goes why

  abbrev IsUnsent : Item → Message → Type 0
  IsUnsent x message = (v : ℕ) (behind : List Letter) → Sends (add (noted h) e) sites (after w sites long from letter first h links clock ask e mid goes why) x v message behind

  new_unsent : (k : ℕ) (x : Item) → AllByRecursion (λ (l : Letter). IsUnsent x l.message) (new k)
  new_unsent k x = all_sent (λ (l : Letter). IsUnsent x l.message) (k + 2) 0 clock outs (all_weaken (λ (out : Out). IsUnsent x out.2) (λ (out : Out). out.0 ≡ k + 2 → IsUnsent x out.2) outs (λ out r of. r) (sends_of w q ask (λ (out : Out). IsUnsent x out.2) e (go e)))
    where
      go : (d : Entry) → SendsOf w q ask (λ (out : Out). IsUnsent x out.2) d
      go (Read t y s) = ((λ v behind. tt), (λ v behind. tt))
      go (Commit t r applied) = λ s. ((λ there v behind. tt), (λ v behind. tt))
      go (Abort t cause act) = λ s v behind. tt
      go (Down r) = λ s v behind. tt
      go (Up r n) = ((λ v behind. tt), (λ s v behind. tt))
      go other = tt

  -- a copy at a site that was live
  module _ (k : ℕ) (s : SiteState) (live : IsLive q sites k s) (before : IsLive p sites k s) (x : Item) (c : Copy) (has : copy_of s x ≡ Some c) where
    low : k < w.sites
    low = inside w sites long from letter first h links clock ask e mid goes why k s live.at

    old : IsKeptUp p (site (k + 1)) x s.session c.version (notes k)
    old = mid.last.kept k s before x c has

    was_version : IsVersion p x c.version
    was_version = mid.last.versions k s live.at x c has

    only : ApplyOnly (length p + 1) (new k)
    only = only_now w sites long from letter first h links clock ask e mid goes why k low

    -- which the entry doesn't write
    module _ (none : holds x (writes_of e) ≡ false) where
      same : (n : ℕ) → was_written q x n ≡ was_written p x n
      same n = at_same (λ e. holds x (writes_of e)) p e n none

      unwritten : was_written q x (length p + 1) ≡ false
      unwritten = same (length p + 1) ∙ go (was_written p x (length p + 1)) refl
        where
          go : (b : Bool) → was_written p x (length p + 1) ≡ b → b ≡ false
          go true r = (let most = (numbered h (λ e. holds x (writes_of e)) (length p + 1) r).1 in absurd (omega (arith, most)))
          go false r = refl

      version_same : version q x ≡ version p x
      version_same = version_now p e x ∙ ap (λ b. if b then length p + 1 else version p x) none

      with_locks : (is_copy_locked q (site (k + 1)) x ≡ false → latest p x s.session c.version (notes k) ≡ version p x) → (is_copy_locked q (site (k + 1)) x ≡ true → NonePending p x s.session (notes k)) →
          Along (ReadsWhole q x s.session) q x s.session (latest q x s.session c.version (notes k)) (new k) → IsKeptUp q (site (k + 1)) x s.session c.version (notes k ++ new k)
      with_locks current locked whole =
          kept_more p q (site (k + 1)) x s.session c.version (notes k) (new k) same version_same current locked was_version (λ v. latest_off q x s.session v (length p + 1) (new k) unwritten only)
          (λ n pending. ap (was_written q x) (pending_only s.session n (length p + 1) (new k) only pending) ∙ unwritten) whole old

      as_locked : is_copy_locked q (site (k + 1)) x ≡ is_copy_locked p (site (k + 1)) x → Along (ReadsWhole q x s.session) q x s.session (latest q x s.session c.version (notes k)) (new k) → IsKeptUp q (site (k + 1)) x s.session c.version (notes k ++ new k)
      as_locked lock whole = with_locks (λ free. old.current (sym lock ∙ free)) (λ locked. old.locked (sym lock ∙ locked)) whole

    none_read : IsNoRead e → (v : ℕ) → Along (ReadsWhole q x s.session) q x s.session v (new k)
    none_read calm v = along_unread (ReadsWhole q x s.session) (λ z message behind u r. absurd (true≢false (sym r ∙ unread x message u))) q x s.session v (new k) (new_unread calm k)

    -- a Read
    abbrev IsFull : Out → Type 0
    IsFull out = out.0 ≡ k + 2 → (behind : List Letter) → ReadsWhole (add (noted h) e) x s.session (latest (add (noted h) e) x s.session c.version (link links (k + 2) 1)) out.2 behind

    reading : (t : Txn) (y : Item) (r : Site) → e ≡ Read t y r → IsKeptUp q (site (k + 1)) x s.session c.version (notes k ++ new k)
    reading t y r is = as_locked none lock (along_each (ReadsWhole q x s.session) q x s.session (latest q x s.session c.version (notes k)) (new k) unapplied whole)
      where
        none : holds x (writes_of e) ≡ false
        none = ap (λ z. holds x (writes_of z)) is

        lock : is_copy_locked q (site (k + 1)) x ≡ is_copy_locked p (site (k + 1)) x
        lock = lock_now (site (k + 1)) x ∙ ap (turn_lock (site (k + 1)) x p (is_copy_locked p (site (k + 1)) x)) is

        source : is_copy_locked p r y ≡ false
        source = (source_unlocked w p y r (read_source w p t y r (subst (Placeable w p) is goes))).1

        sent : (Q : Out → Type 0) → SendsOf w q ask Q (Read t y r) → AllByRecursion Q outs
        sent Q of = sends_of w q ask Q e (subst (SendsOf w q ask Q) (sym is) of)

        unapplied : AreUnapplied (new k)
        unapplied = all_sent (λ (l : Letter). IsUnapplied l.message) (k + 2) 0 clock outs (all_weaken (λ (out : Out). IsUnapplied out.2) (λ (out : Out). out.0 ≡ k + 2 → IsUnapplied out.2) outs (λ out r of. r) (sent (λ (out : Out). IsUnapplied out.2) (tt, tt)))

        full : is_copy_locked p (site (k + 1)) x ≡ false → (behind : List Letter) → NoGap q x s.session (latest q x s.session c.version (notes k)) behind
        full free behind n wrote more =
            let now = latest_alike p q x s.session c.version (notes k) (all_alike p q x (same none) (notes k)) ∙ old.current free in
            let most = version_most h x n (sym (same none n) ∙ wrote) in
            absurd (omega (arith, now, most, more))

        whole : AllByRecursion (λ (l : Letter). (behind : List Letter) → ReadsWhole q x s.session (latest q x s.session c.version (notes k)) l.message behind) (new k)
        whole = all_sent (λ (l : Letter). (behind : List Letter) → ReadsWhole q x s.session (latest q x s.session c.version (notes k)) l.message behind) (k + 2) 0 clock outs
            (sent IsFull (
              (λ of behind it. full (subst (λ z. is_copy_locked p z x ≡ false) (place_is r k of) (subst (λ z. is_copy_locked p r z ≡ false) (same_item x y it) source)) behind),
              (λ of behind it. absurd (true≢false (sym it))),
            ))

    -- a Commit that writes it
    committing : (t : Txn) (r : Request) (applied : List Site) → e ≡ Commit t r applied → holds x r.writes ≡ true → IsKeptUp q (site (k + 1)) x s.session c.version (notes k ++ new k)
    committing t r applied is wrote =
        kept_commit p q (site (k + 1)) x s.session c.version (notes k) (new k) (length p + 1) (λ n now. elim (at_parts (λ e. holds x (writes_of e)) p e n now) [ inl before_it ↦ inl before_it | inr it ↦ inr it.0 ])
        (at_last (λ e. holds x (writes_of e)) p e writes) (version_now p e x ∙ ap (λ b. if b then length p + 1 else version p x) writes)
        (lock_now (site (k + 1)) x ∙ ap (turn_lock (site (k + 1)) x p (is_copy_locked p (site (k + 1)) x)) is ∙ ap (λ b. if b then not (has_site applied (site (k + 1))) else is_copy_locked p (site (k + 1)) x) wrote ∙ ap not there)
        ((grows_now w sites long from letter first h links clock ask e mid goes why).alike k low x) (λ v is_one. (let most = version_long h x v is_one in omega (arith, most))) only (new_unread (subst IsNoRead (sym is) tt) k) pending was_version old
      where
        writes : holds x (writes_of e) ≡ true
        writes = ap (λ z. holds x (writes_of z)) is ∙ wrote

        below : (n : ℕ) → 1 ≤ n → nat_lt 0 n ≡ true
        below n some = grind (arith, some)

        up : is_up w p (site (k + 1)) ≡ true
        up = below (session (vector w p) (site (k + 1))) (let some = (mid.stand k low).some in let now = alive k s before in let last = before.last in omega (arith, some, now, last))

        there : has_site applied (site (k + 1)) ≡ true
        there = subst (λ ss. has_site ss (site (k + 1)) ≡ true) (sym (commit_whole w p t r applied (subst (Placeable w p) is goes)))
            (up_holder w p r.writes (site (k + 1)) (known_sites k low) up (held_some w r.writes (site (k + 1)) x wrote (is_copied k s live.at x c has)))

        in_session : session (vector w q) (site (k + 1)) ≡ s.session
        in_session = ap (λ v. session v (site (k + 1))) (vector_push w.sites p (next p e) ∙ ap (turn_vector (vector w p)) is) ∙ alive k s before

        pending : is_pending s.session (length p + 1) (new k) ≡ true
        pending = subst (λ n. is_pending s.session n (new k) ≡ true) (long_push p e)
            (subst (λ m. is_pending m (length q) (new k) ≡ true) in_session
            (subst (λ d. is_pending (session (vector w q) (site (k + 1))) (length q) (letters_to (k + 2) 0 clock (rows.sends w q ask d)) ≡ true) (sym is) (apply_pending w q t applied k clock there (workload.sites w) (known_sites k low))))

    -- a Clear of the copy
    clearing : (r : Site) (y : Item) (v : ℕ) → e ≡ Clear r y v → IsKeptUp q (site (k + 1)) x s.session c.version (notes k ++ new k)
    clearing r y v is = go (is_site (site (k + 1)) r && is_item x y) refl
      where
        none : holds x (writes_of e) ≡ false
        none = ap (λ z. holds x (writes_of z)) is

        lock : (b : Bool) → (is_site (site (k + 1)) r && is_item x y) ≡ b → is_copy_locked q (site (k + 1)) x ≡ (is_copy_locked p (site (k + 1)) x && not b)
        lock b it = lock_now (site (k + 1)) x ∙ ap (turn_lock (site (k + 1)) x p (is_copy_locked p (site (k + 1)) x)) is ∙ ap (λ b. is_copy_locked p (site (k + 1)) x && not b) it

        and_true : (a : Bool) → (a && not false) ≡ a
        and_true true = refl
        and_true false = refl

        and_false : (a : Bool) → (a && not true) ≡ false
        and_false true = refl
        and_false false = refl

        go : (b : Bool) → (is_site (site (k + 1)) r && is_item x y) ≡ b → IsKeptUp q (site (k + 1)) x s.session c.version (notes k ++ new k)
        go false it = as_locked none (lock false it ∙ and_true (is_copy_locked p (site (k + 1)) x)) (none_read (subst IsNoRead (sym is) tt) (latest q x s.session c.version (notes k)))
        go true it = with_locks none (λ free. current) (λ locked. absurd (true≢false (sym locked ∙ lock true it ∙ and_false (is_copy_locked p (site (k + 1)) x)))) (none_read (subst IsNoRead (sym is) tt) (latest q x s.session c.version (notes k)))
          where
            both : (is_site (site (k + 1)) r ≡ true) × (is_item x y ≡ true)
            both = and_parts (is_site (site (k + 1)) r) (is_item x y) it

            was_locked : is_copy_locked p (site (k + 1)) x ≡ true
            was_locked = subst (λ z. is_copy_locked p z x ≡ true) (same_site (site (k + 1)) r both.0) (subst (λ z. is_copy_locked p r z ≡ true) (same_item x y both.1) (clear_locked w p r y v (subst (Placeable w p) is goes)).0)

            current : latest p x s.session c.version (notes k) ≡ version p x
            current =
                let most : v ≤ c.version = copied r y v (subst (Why w from letter first p) is why) k s live.at (sym (same_site (site (k + 1)) r both.0)) c (subst (λ z. copy_of s z ≡ Some c) (sym (same_item x y both.1)) has) in
                let now = (clear_locked w p r y v (subst (Placeable w p) is goes)).1 ∙ ap (version p) (same_item x y both.1) in
                let least = version_within h x c.version was_version in
                let same_one : c.version ≡ version p x = omega (arith, most, now, least) in
                latest_quiet p x s.session c.version (notes k) (old.locked was_locked) ∙ same_one

    falling : (r : Site) → e ≡ Down r → IsKeptUp q (site (k + 1)) x s.session c.version (notes k ++ new k)
    falling r is = as_locked none (lock_now (site (k + 1)) x ∙ ap (turn_lock (site (k + 1)) x p (is_copy_locked p (site (k + 1)) x)) is ∙ ap (λ b. is_copy_locked p (site (k + 1)) x || (b && owes_for p (site (k + 1)) x)) (down_other r is k s live) ∙ or_none (is_copy_locked p (site (k + 1)) x)) (none_read (subst IsNoRead (sym is) tt) (latest q x s.session c.version (notes k)))
      where
        none : holds x (writes_of e) ≡ false
        none = ap (λ z. holds x (writes_of z)) is

        or_none : (a : Bool) → (a || (false && owes_for p (site (k + 1)) x)) ≡ a
        or_none true = refl
        or_none false = refl

    plainly : (d : Entry) → e ≡ d → holds x (writes_of d) ≡ false → IsNoRead d → turn_lock (site (k + 1)) x p (is_copy_locked p (site (k + 1)) x) d ≡ is_copy_locked p (site (k + 1)) x → IsKeptUp q (site (k + 1)) x s.session c.version (notes k ++ new k)
    plainly d is none calm lock = as_locked (ap (λ z. holds x (writes_of z)) is ∙ none) (lock_now (site (k + 1)) x ∙ ap (turn_lock (site (k + 1)) x p (is_copy_locked p (site (k + 1)) x)) is ∙ lock) (none_read (subst IsNoRead (sym is) calm) (latest q x s.session c.version (notes k)))

    kept_was : IsKeptUp q (site (k + 1)) x s.session c.version (notes k ++ new k)
    kept_was = go e refl
      where
        commits : (t : Txn) (r : Request) (applied : List Site) → e ≡ Commit t r applied → (b : Bool) → holds x r.writes ≡ b → IsKeptUp q (site (k + 1)) x s.session c.version (notes k ++ new k)
        commits t r applied is true wrote = committing t r applied is wrote
        commits t r applied is false wrote = plainly (Commit t r applied) is wrote tt (ap (λ b. if b then not (has_site applied (site (k + 1))) else is_copy_locked p (site (k + 1)) x) wrote)

        go : (d : Entry) → e ≡ d → IsKeptUp q (site (k + 1)) x s.session c.version (notes k ++ new k)
        go (Read t y r) is = reading t y r is
        go (Commit t r applied) is = commits t r applied is (holds x r.writes) refl
        go (Down r) is = falling r is
        go (Clear r y v) is = clearing r y v is
        go other is = plainly other is refl tt refl

  kept_now : (k : ℕ) (s : SiteState) → IsLive q sites k s → (x : Item) (c : Copy) → copy_of s x ≡ Some c → IsKeptUp q (site (k + 1)) x s.session c.version (notes k ++ new k)
  kept_now k s live x c has = go (live_now w sites long from letter first h links clock ask e mid goes why k s live)
    where
      go : Was w.sites p q (length p + 1) sites links (after w sites long from letter first h links clock ask e mid goes why) new k s → IsKeptUp q (site (k + 1)) x s.session c.version (notes k ++ new k)
      go (was before) = kept_was k s live before x c has
      go (risen others none unapplied unread_) =
          kept_risen p q (site (k + 1)) x s.session c.version (notes k) (new k)
          (λ free. elim (unlocked_now k s live.at x c has free) [ inl same ↦ same | inr o ↦ absurd (true≢false (sym o.owed ∙ none o.txn)) ]) others unapplied unread_

  -- what is to be applied is owed
  abbrev IsOwedTo : SiteState → ℕ → Letter → Type 0
  IsOwedTo s k l = (l.to == s.session) ≡ true → ApplyOwed (add (noted h) e) (site (k + 1)) l.message

  abbrev ToOwed : ℕ → SiteState → Out → Type 0
  ToOwed k s out = out.0 ≡ k + 2 → (out.1 == s.session) ≡ true → ApplyOwed (add (noted h) e) (site (k + 1)) out.2

  owed_new : (k : ℕ) (s : SiteState) → AllByRecursion (IsOwedTo s k) (new k)
  owed_new k s = all_sent (IsOwedTo s k) (k + 2) 0 clock outs (sends_of w q ask (ToOwed k s) e (go e refl))
    where
      go : (d : Entry) → e ≡ d → SendsOf w q ask (ToOwed k s) d
      go (Read t x r) is = ((λ of to. tt), (λ of to. tt))
      go (Commit t r applied) is = λ z. (
        (λ there of to. owes_now p e (site (k + 1)) t ∙ ap (turn_owed (site (k + 1)) t (owes p (site (k + 1)) t)) is
            ∙ or_right (owes p (site (k + 1)) t) (is_txn t t && has_site applied (site (k + 1))) (and_from (is_txn t t) (has_site applied (site (k + 1))) (same_self t.0) (subst (λ r. has_site applied r ≡ true) (place_is z k of) there))),
        (λ of to. tt),
      )
      go (Abort t cause act) is = λ z of to. tt
      go (Down r) is = λ z of to. tt
      go (Up r n) is = ((λ of to. tt), (λ z of to. tt))
      go other is = tt

  owed_still : (k : ℕ) (s : SiteState) → IsLive q sites k s → IsLive p sites k s → (t : Txn) (n : ℕ) → at_number (is_applied t (site (k + 1))) p n ≡ true → is_pending s.session n (notes k) ≡ true → owes p (site (k + 1)) t ≡ true → owes q (site (k + 1)) t ≡ true
  owed_still k s live before t n was_applied pending owed = owes_now p e (site (k + 1)) t ∙ ap (λ b. turn_owed (site (k + 1)) t b e) owed ∙ go e refl
    where
      -- an Ack is of nothing that is pending
      acking : (u : Txn) (r : Site) → e ≡ Ack u r → (b : Bool) → (is_txn t u && is_site (site (k + 1)) r) ≡ b → not b ≡ true
      acking u r is true it =
          let both = and_parts (is_txn t u) (is_site (site (k + 1)) r) it in
          let a = acked u r (subst (Why w from letter first p) is why) k s live.at (sym (same_site (site (k + 1)) r both.1)) in
          let f = applied_held w h placed t (site (k + 1)) n was_applied in
          let own = has_copy k s live.at f.0 f.1.1 in
          let most = a.within f.0 own.0 n own.1 (subst (λ z. was_written_by p z f.0 n ≡ true) (sym (same_txn u t both.0)) f.1.0) in
          let more = (mid.last.kept k s before f.0 own.0 own.1).above n pending (written_by p t f.0 n f.1.0) in
          absurd (omega (arith, most, more))
      acking u r is false it = refl

      go : (d : Entry) → e ≡ d → turn_owed (site (k + 1)) t true d ≡ true
      go (Ack u r) is = acking u r is (is_txn t u && is_site (site (k + 1)) r) refl
      go (Down r) is = ap not (down_other r is k s live)
      go other is = refl

  abbrev IsPending : ℕ → SiteState → Letter → Type 0
  IsPending k s l = (l.to == s.session) ≡ true → (t : Txn) (n : ℕ) → l.message ≡ letters.Apply t n → is_pending s.session n (link links (k + 2) 1) ≡ true

  abbrev WasOwed : ℕ → SiteState → Letter → Type 0
  WasOwed k s l = (l.to == s.session) ≡ true → ApplyOwed (noted h) (site (k + 1)) l.message

  owed_now : (k : ℕ) (s : SiteState) → IsLive q sites k s → AllByRecursion (IsOwedTo s k) (notes k ++ new k)
  owed_now k s live = all_append (IsOwedTo s k) (notes k) (new k) (go (live_now w sites long from letter first h links clock ask e mid goes why k s live)) (owed_new k s)
    where
      low : k < w.sites
      low = inside w sites long from letter first h links clock ask e mid goes why k s live.at

      say : IsLive p sites k s → (m : Message) → ApplySays p (site (k + 1)) m → ((t : Txn) (n : ℕ) → m ≡ letters.Apply t n → is_pending s.session n (notes k) ≡ true) → ApplyOwed p (site (k + 1)) m → ApplyOwed q (site (k + 1)) m
      say before (letters.Apply t n) says pending owed = owed_still k s live before t n says (pending t n refl) owed
      say before other says pending owed = tt

      go : Was w.sites p q (length p + 1) sites links (after w sites long from letter first h links clock ask e mid goes why) new k s → AllByRecursion (IsOwedTo s k) (notes k)
      go (was before) =
          all_both (λ (l : Letter). ApplySays p (site (k + 1)) l.message × IsPending k s l) (WasOwed k s) (IsOwedTo s k) (notes k) (λ l a b to. say before l.message a.0 (a.1 to) (b to))
          (all_both (λ (l : Letter). ApplySays p (site (k + 1)) l.message) (IsPending k s) (λ (l : Letter). ApplySays p (site (k + 1)) l.message × IsPending k s l) (notes k) (λ l a b. (a, b)) (mid.applied k low) (each_pending s.session (notes k))) (mid.last.owed k s before)
      go (risen others none unapplied unread_) = all_weaken (λ (l : Letter). (l.to == s.session) ≡ false) (IsOwedTo s k) (notes k) (λ l far to. absurd (true≢false (sym to ∙ far))) others

  pub placed_mid : Mid w sites q (after w sites long from letter first h links clock ask e mid goes why)
  placed_mid = mid_now w sites long from letter first h links clock ask e mid goes why
      (grown w.sites p q (length p + 1) sites links (after w sites long from letter first h links clock ask e mid goes why) new (grows_now w sites long from letter first h links clock ask e mid goes why) mid.last (record {
        unlocked = unlocked_now;
        kept = kept_now;
        owed = owed_now;
        sends = λ k s live x c has. along_any (Sends q sites (after w sites long from letter first h links clock ask e mid goes why) x) q x s.session (latest q x s.session c.version (notes k)) (new k) (new_unsent k x);
      }))
