-- A step of the sequencer, one part of it or none, and what it owes for copies to have the last versions after it.
use Rattle.std.proofs.Common.{◌≡◌, ◌⊎◌, inl, inr, ℕ, ◌+◌, ◌<◌, ◌==◌, true, false, List, ◌∷◌, ◌++◌, Some, arith, sym, subst, ap, ◌∙◌}
use Rattle.std.specs.Prelude.{slice_get}
use Rattle.std.specs.List.{AllByRecursion}
use Rattle.std.proofs.lemmas.Bool.{true≢false}
use Rattle.raid_base.specs.declared.names.Txn.{Txn}
use Rattle.raid_base.specs.declared.names.Item.{Item}
use Rattle.raid_base.specs.declared.names.Site.{Site}
use Rattle.raid_base.specs.declared.entry.Noted.{Noted}
use Rattle.raid_base.specs.Sites.{site}
use Rattle.raid_rules.specs.History.{has_committed, version}
use Rattle.raid_rules.specs.Sessions.{owes, is_copy_locked}
use Rattle.raid_message.specs.declared.letter.Message.{Message}
use Rattle.raid_message.specs.declared.letter.Message.TheVariants as letters
use Rattle.raid_message.specs.declared.letter.Letter.{Letter}
use Rattle.raid_steps.specs.State.{Copy, SiteState}
use Rattle.raid_steps.specs.Copies.{copy_of}
use Rattle.raid_steps.specs.World.{link}
use Rattle.raid_sessions.proofs.Lists.{all_weaken}
use Rattle.raid_asks.proofs.Facts.{or_left, or_right}
use Rattle.raid_versions.specs.Versions.{was_written, was_written_by, IsVersion, OwesLast, IsLive, is_pending, latest, NonePending, Along, ReadsWhole, IsKeptUp, ApplyOwed, Told, AboveAt, Brings, Sends, LastVersions}
use Rattle.raid_versions.proofs.Links.{pending_on, pending_parts, latest_on, AreAlike, all_alike, pending_alike, latest_alike, along_on, AreUnread, ApplyOnly, AreUnapplied, along_unread, unread, pending_none, latest_none, pending_only, latest_now, AreForOthers, pending_others, latest_others, along_others}

-- a copy at a live site, with more letters behind
module _ (p q : List Noted) (here : Site) (x : Item) (m v : ℕ) (notes ys : List Letter) where
  -- the history writes the item as before, and the new letters neither apply what writes it nor have it read where something was missed
  pub kept_more : ((n : ℕ) → was_written q x n ≡ was_written p x n) → version q x ≡ version p x → (is_copy_locked q here x ≡ false → latest p x m v notes ≡ version p x) → (is_copy_locked q here x ≡ true → NonePending p x m notes) →
      IsVersion p x v → ((k : ℕ) → latest q x m k ys ≡ k) → ((n : ℕ) → is_pending m n ys ≡ true → was_written q x n ≡ false) → Along (ReadsWhole q x m) q x m (latest q x m v notes) ys → IsKeptUp p here x m v notes → IsKeptUp q here x m v (notes ++ ys)
  kept_more same version_same current locked is still none whole kept = record {
    current = λ free. latest_on q x m v notes ys ∙ still (latest q x m v notes) ∙ latest_alike p q x m v notes (all_alike p q x same notes) ∙ current free ∙ sym version_same;
    locked = λ lock n pending. elim (pending_parts m n notes ys pending) [ inl old ↦ same n ∙ locked lock n old | inr new ↦ none n new ];
    above = λ n pending written. elim (pending_parts m n notes ys pending) [
      | inl old ↦ kept.above n old (sym (same n) ∙ written)
      | inr new ↦ absurd (true≢false (sym written ∙ none n new))
    ];
    whole = along_on p q x m (ReadsWhole p x m) (ReadsWhole q x m) ys gap v is notes (all_alike p q x same notes) kept.whole whole;
  }
    where
      gap : (k : ℕ) (message : Message) (behind : List Letter) → IsVersion p x k → ReadsWhole p x m k message behind → ReadsWhole q x m k message (behind ++ ys)
      gap k message behind w h reads n written more = pending_on m n behind ys ∙ or_left (is_pending m n behind) (is_pending m n ys) (h reads n (sym (same n) ∙ written) more)

  -- a new Commit writes it, and is applied by one of the new letters
  pub kept_commit : (number : ℕ) → ((n : ℕ) → was_written q x n ≡ true → (was_written p x n ≡ true) ⊎ (n ≡ number)) → was_written q x number ≡ true → version q x ≡ number → is_copy_locked q here x ≡ false →
      AreAlike p q x notes → ((k : ℕ) → IsVersion p x k → k < number) → ApplyOnly number ys → AreUnread ys → is_pending m number ys ≡ true → IsVersion p x v → IsKeptUp p here x m v notes → IsKeptUp q here x m v (notes ++ ys)
  kept_commit number either written is_last free alike below only reads pending is kept = record {
    current = λ f. latest_on q x m v notes ys ∙ latest_now q x m (latest q x m v notes) number ys written only pending ∙ sym is_last;
    locked = λ lock. absurd (true≢false (sym lock ∙ free));
    above = λ n h wrote. elim (pending_parts m n notes ys h) [
      | inl old ↦ kept.above n old (sym (pending_alike p q x m n notes alike old) ∙ wrote)
      | inr new ↦ (let e = pending_only m n number ys only new in let b = below v is in omega (arith, e, b))
    ];
    whole = along_on p q x m (ReadsWhole p x m) (ReadsWhole q x m) ys gap v is notes alike kept.whole
        (along_unread (ReadsWhole q x m) (λ k message behind u r. absurd (true≢false (sym r ∙ unread x message u))) q x m (latest q x m v notes) ys reads);
  }
    where
      gap : (k : ℕ) (message : Message) (behind : List Letter) → IsVersion p x k → ReadsWhole p x m k message behind → ReadsWhole q x m k message (behind ++ ys)
      gap k message behind w h r n wrote more = pending_on m n behind ys ∙ elim (either n wrote) [
        | inl old ↦ or_left (is_pending m n behind) (is_pending m n ys) (h r n old more)
        | inr now ↦ or_right (is_pending m n behind) (is_pending m n ys) (ap (λ z. is_pending m z ys) now ∙ pending)
      ]

  -- the site has just come up: nothing that was on its way is for its session
  pub kept_risen : (is_copy_locked q here x ≡ false → v ≡ version q x) → AreForOthers m notes → AreUnapplied ys → AreUnread ys → IsKeptUp q here x m v (notes ++ ys)
  kept_risen current others none reads = record {
    current = λ free. latest_on q x m v notes ys ∙ latest_none q x m (latest q x m v notes) ys none ∙ latest_others q x m v notes others ∙ current free;
    locked = λ lock n pending. absurd (no n pending);
    above = λ n pending written. absurd (no n pending);
    whole = along_others (ReadsWhole q x m) q x m v notes ys others (along_unread (ReadsWhole q x m) (λ k message behind u r. absurd (true≢false (sym r ∙ unread x message u))) q x m v ys reads);
  }
    where
      no : (n : ℕ) → is_pending m n (notes ++ ys) ≡ true → ⊥
      no n pending = elim (pending_parts m n notes ys pending) [
        | inl old ↦ true≢false (sym old ∙ pending_others m n notes others)
        | inr new ↦ true≢false (sym new ∙ pending_none m n ys none)
      ]

module _ (count : ℕ) (p q : List Noted) (number : ℕ) (sites : List SiteState) (links after : List (List (List Letter))) (new : ℕ → List Letter) where
  -- a live site of the later history was live before; or it has just come up: nothing that was on its way is for its session, it owes no Ack, and it is told
  -- nothing of copies
  pub data Was (k : ℕ) (s : SiteState) : Type 0 where
    was : IsLive p sites k s → Was k s
    risen : AreForOthers s.session (link links (k + 2) 1) → ((t : Txn) → owes q (site (k + 1)) t ≡ false) → AreUnapplied (new k) → AreUnread (new k) → Was k s

  -- the later history has at most one Commit more, with this number; the links to sites have more letters, and the others no more
  pub record Grows : Type 0 where
    pub written : (x : Item) (n : ℕ) → was_written p x n ≡ true → was_written q x n ≡ true
    pub by : (t : Txn) (x : Item) (n : ℕ) → has_committed p t ≡ true → was_written_by q t x n ≡ true → was_written_by p t x n ≡ true
    pub committed : (t : Txn) → has_committed p t ≡ true → has_committed q t ≡ true
    pub below : (x : Item) (v : ℕ) → IsVersion p x v → v < number
    pub inside : (k : ℕ) (s : SiteState) → slice_get sites k ≡ Some s → k < count
    pub live : (k : ℕ) (s : SiteState) → IsLive q sites k s → Was k s
    pub alike : (k : ℕ) → k < count → (x : Item) → AreAlike p q x (link links (k + 2) 1)
    pub only : (k : ℕ) → k < count → ApplyOnly number (new k)
    pub notes : (k : ℕ) → k < count → link after (k + 2) 1 ≡ link links (k + 2) 1 ++ new k
    pub asks : (k : ℕ) → (link after 1 (k + 2) ≡ link links 1 (k + 2)) ⊎ ((l : Letter) × (link links 1 (k + 2) ≡ l ∷ link after 1 (k + 2)))
    pub peers : (k j : ℕ) → link after (k + 2) (j + 2) ≡ link links (k + 2) (j + 2)

  -- what is left to be shown of the step
  pub record Owes : Type 0 where
    pub unlocked : (k : ℕ) (s : SiteState) → slice_get sites k ≡ Some s → (x : Item) (c : Copy) → copy_of s x ≡ Some c → is_copy_locked q (site (k + 1)) x ≡ false → (c.version ≡ version q x) ⊎ OwesLast q (site (k + 1)) x
    pub kept : (k : ℕ) (s : SiteState) → IsLive q sites k s → (x : Item) (c : Copy) → copy_of s x ≡ Some c → IsKeptUp q (site (k + 1)) x s.session c.version (link links (k + 2) 1 ++ new k)
    pub owed : (k : ℕ) (s : SiteState) → IsLive q sites k s → AllByRecursion (λ (l : Letter). (l.to == s.session) ≡ true → ApplyOwed q (site (k + 1)) l.message) (link links (k + 2) 1 ++ new k)
    pub sends : (k : ℕ) (s : SiteState) → IsLive q sites k s → (x : Item) (c : Copy) → copy_of s x ≡ Some c → Along (Sends q sites after x) q x s.session (latest q x s.session c.version (link links (k + 2) 1)) (new k)

  module _ (g : Grows) where
    pub version_on : (x : Item) (v : ℕ) → IsVersion p x v → IsVersion q x v
    version_on x v (inl zero) = inl zero
    version_on x v (inr old) = inr (g.written x v old)

    pub above_on : (j n : ℕ) (x : Item) (v : ℕ) → IsVersion p x v → AboveAt p sites links j n x v → AboveAt q sites after j n x v
    above_on j n x v is above s live same number_ pending wrote =
        go (g.live j s live) (pending_parts n number_ (link links (j + 2) 1) (new j) (subst (λ ls. is_pending n number_ ls ≡ true) (g.notes j inside) pending))
      where
        inside : j < count
        inside = g.inside j s live.at

        go : Was j s → (is_pending n number_ (link links (j + 2) 1) ≡ true) ⊎ (is_pending n number_ (new j) ≡ true) → v < number_
        go (was before) (inl old) = above s before same number_ old (sym (pending_alike p q x n number_ (link links (j + 2) 1) (g.alike j inside x) old) ∙ wrote)
        go (risen others none unapplied unread_) (inl old) = absurd (true≢false (sym old ∙ pending_others n number_ (link links (j + 2) 1) (subst (λ z. AreForOthers z (link links (j + 2) 1)) same others)))
        go before (inr now) = (let e = pending_only n number_ number (new j) (g.only j inside) now in let b = g.below x v is in omega (arith, e, b))

    told_on : (s : SiteState) (m : Message) → Told p s m → Told q s m
    told_on s (letters.Ack t) h = record { committed = g.committed t h.committed; within = λ x c n has wrote. h.within x c n has (g.by t x n h.committed wrote) }
    told_on s (letters.CopyDone x v) h = h
    told_on s other h = tt

    brings_on : (k to : ℕ) (m : Message) → Brings p sites links k to m → Brings q sites after k to m
    brings_on k to (letters.CopyValue x value v) h = (version_on x v h.0, above_on k to x v h.0 h.1)
    brings_on k to other h = tt

    sends_on : (x : Item) (v : ℕ) (message : Message) (behind : List Letter) (k : ℕ) → IsVersion p x v → Sends p sites links x v message behind → Sends q sites after x v message (behind ++ new k)
    sends_on x v (letters.CopyDo y target n) behind k is h = λ item j place. above_on j n x v is (h item j place)
    sends_on x v other behind k is h = tt

    pub grown : LastVersions p sites links → Owes → LastVersions q sites after
    grown last owes = record {
      versions = λ k s at x c has. version_on x c.version (last.versions k s at x c has);
      unlocked = owes.unlocked;
      kept = λ k s live x c has. subst (IsKeptUp q (site (k + 1)) x s.session c.version) (sym (g.notes k (g.inside k s live.at))) (owes.kept k s live x c has);
      owed = λ k s live. subst (AllByRecursion (λ (l : Letter). (l.to == s.session) ≡ true → ApplyOwed q (site (k + 1)) l.message)) (sym (g.notes k (g.inside k s live.at))) (owes.owed k s live);
      told = λ k s at. all_weaken (λ (l : Letter). Told p s l.message) (λ (l : Letter). Told q s l.message) (link after 1 (k + 2)) (λ l h. told_on s l.message h) (left k s at);
      brought = λ k j. subst (AllByRecursion (λ (l : Letter). Brings q sites after k l.to l.message)) (sym (g.peers k j))
          (all_weaken (λ (l : Letter). Brings p sites links k l.to l.message) (λ (l : Letter). Brings q sites after k l.to l.message) (link links (k + 2) (j + 2)) (λ l h. brings_on k l.to l.message h) (last.brought k j));
      sent = λ k s live x c has. subst (Along (Sends q sites after x) q x s.session c.version) (sym (g.notes k (g.inside k s live.at))) (go k s live x c has (g.live k s live));
    }
      where
        left : (k : ℕ) (s : SiteState) → slice_get sites k ≡ Some s → AllByRecursion (λ (l : Letter). Told p s l.message) (link after 1 (k + 2))
        left k s at = elim (g.asks k) [
          | inl same ↦ subst (AllByRecursion (λ (l : Letter). Told p s l.message)) (sym same) (last.told k s at)
          | inr one ↦ (subst (AllByRecursion (λ (l : Letter). Told p s l.message)) one.1 (last.told k s at)).1
        ]

        go : (k : ℕ) (s : SiteState) → IsLive q sites k s → (x : Item) (c : Copy) → copy_of s x ≡ Some c → Was k s → Along (Sends q sites after x) q x s.session c.version (link links (k + 2) 1 ++ new k)
        go k s live x c has (was before) =
            along_on p q x s.session (Sends p sites links x) (Sends q sites after x) (new k) (λ v message behind is h. sends_on x v message behind k is h) c.version (last.versions k s live.at x c has) (link links (k + 2) 1) (g.alike k (g.inside k s live.at) x)
            (last.sent k s before x c has) (owes.sends k s live x c has)
        go k s live x c has (risen others none unapplied unread_) =
            along_others (Sends q sites after x) q x s.session c.version (link links (k + 2) 1) (new k) others
            (subst (λ z. Along (Sends q sites after x) q x s.session z (new k)) (latest_others q x s.session c.version (link links (k + 2) 1) others) (owes.sends k s live x c has))
