-- What the sequencer sends besides its entries' letters keeps what copies have and get: copies that it sends for, and counts of ends.
use Rattle.std.proofs.Common.{◌≡◌, ◌⊎◌, inl, inr, ℕ, ◌+◌, ◌<◌, ◌≤◌, ◌==◌, true, false, List, [], ◌∷◌, ◌++◌, length, map, fold, Some, arith, sym, subst, ap, ◌∙◌, refl}
use Rattle.std.specs.Prelude.{⊤, slice_get}
use Rattle.std.specs.List.{AllByRecursion}
use Rattle.std.proofs.lemmas.Bool.{true≢false}
use Rattle.raid_base.specs.declared.names.Item.{Item}
use Rattle.raid_base.specs.declared.names.Site.{Site}
use Rattle.raid_base.specs.declared.entry.Entry.{Entry}
use Rattle.raid_base.specs.declared.entry.Noted.{Noted}
use Rattle.raid_base.specs.Sites.{session, site}
use Rattle.raid_workload.specs.declared.workload.Workload.{Workload}
use Rattle.raid_rules.specs.History.{noted}
use Rattle.raid_rules.specs.Sessions.{last_session, is_copy_locked}
use Rattle.raid_legal.specs.Seen.{vector}
use Rattle.raid_message.specs.declared.letter.Message.{Message}
use Rattle.raid_message.specs.declared.letter.Message.TheVariants as letters
use Rattle.raid_message.specs.declared.letter.Letter.{Letter}
use Rattle.raid_steps.specs.State.{Out, Copy, Copying, SiteState}
use Rattle.raid_steps.specs.Copies.{copy_of}
use Rattle.raid_steps.specs.Sequencer as rows
use Rattle.raid_steps.specs.World.{link, post}
use Rattle.raid_sessions.proofs.Lists.{all_append, all_weaken, get_below}
use Rattle.raid_sessions.proofs.Mail.{letters_to, posts_here, posts_square}
use Rattle.raid_asks.proofs.Notes.{all_sent}
use Rattle.raid_letters.specs.Says.{is_held}
use Rattle.raid_versions.specs.Versions.{IsLive, is_pending, latest, NonePending, NoGap, Along, ReadsWhole, IsKeptUp, ApplyOwed, AboveAt, Sends}
use Rattle.raid_versions.proofs.Copied.{held_copied}
use Rattle.raid_versions.proofs.Grown.{kept_more, was, Grows, grown}
use Rattle.raid_versions.proofs.Links.{pending_parts, IsUnapplied, AreUnapplied, AppliesOnly, pending_none, latest_none, all_alike}
use Rattle.raid_versions.proofs.Mid.{ApplySays, Mid}
use Rattle.raid_versions.proofs.Owed.{HoldsOwn}
use Rattle.raid_versions.proofs.SiteCopies.{same_item}
use Rattle.raid_versions.proofs.Sent.{posts_others, place_is, along_each, along_any}
use Rattle.raid_versions.proofs.Steps.{IsDue, AreDue}
use Rattle.raid_versions.proofs.Written.{version_most, version_long}

-- no Commit's Apply is sent; a copy is read only where it isn't locked, and sent only to a site whose copy is locked
abbrev IsRenewing : Workload → List Noted → Message → Site → Type 0
IsRenewing w p (letters.CopyDo x target n) source = IsDue w p (record { target = target; item = x; source = source })
IsRenewing w p (letters.Ends count) source = ⊤
IsRenewing w p other source = ⊥

-- such a message goes to its site in the session of the vector, or to no site
abbrev Goes : Workload → List Noted → Out → Type 0
Goes w p out = (k : ℕ) → out.0 ≡ k + 2 → (out.1 ≡ session (vector w p) (site (k + 1))) × IsRenewing w p out.2 (site (k + 1))

module _ (w : Workload) (sites : List SiteState) (long : length sites ≡ w.sites) (held : (k : ℕ) (s : SiteState) → slice_get sites k ≡ Some s → HoldsOwn w k s)
    (h : List Entry) (links : List (List (List Letter))) (clock : ℕ) (outs : List Out) (mid : Mid w sites (noted h) links) (all : AllByRecursion (Goes w (noted h)) outs) where
  abbrev p : List Noted
  p = noted h

  abbrev after : List (List (List Letter))
  after = fold (post 1 0 clock) links outs

  abbrev new : ℕ → List Letter
  new k = letters_to (k + 2) 0 clock outs

  abbrev notes : ℕ → List Letter
  notes k = link links (k + 2) 1

  inside : (k : ℕ) (s : SiteState) → slice_get sites k ≡ Some s → k < w.sites
  inside k s at = (let b = get_below sites k s at in omega (arith, b, long))

  notes_are : (k : ℕ) → k < w.sites → link after (k + 2) 1 ≡ notes k ++ new k
  notes_are k low = posts_here (w.sites + 2) 1 0 clock outs links (k + 2) mid.square (omega arith) (omega (arith, low))

  -- each letter to a site
  each : (k : ℕ) (P : Letter → Type 0) → ((l : Letter) → l.to ≡ session (vector w p) (site (k + 1)) → IsRenewing w p l.message (site (k + 1)) → P l) → AllByRecursion P (new k)
  each k P f = all_sent P (k + 2) 0 clock outs (all_weaken (Goes w p) (λ (out : Out). out.0 ≡ k + 2 → P (record { clock = clock; from = 0; to = out.1; message = out.2 })) outs (λ out g of. f (record { clock = clock; from = 0; to = out.1; message = out.2 }) (g k of).0 (g k of).1) all)

  unapplied : (k : ℕ) → AreUnapplied (new k)
  unapplied k = each k (λ (l : Letter). IsUnapplied l.message) (λ l to r. go l.message r)
    where
      go : (m : Message) → IsRenewing w p m (site (k + 1)) → IsUnapplied m
      go (letters.Apply t n) r = r
      go other r = tt

  only : (number k : ℕ) → AllByRecursion (λ (l : Letter). AppliesOnly number l.message) (new k)
  only number k = each k (λ (l : Letter). AppliesOnly number l.message) (λ l to r. go l.message r)
    where
      go : (m : Message) → IsRenewing w p m (site (k + 1)) → AppliesOnly number m
      go (letters.Apply t n) r = absurd r
      go other r = tt

  grows : Grows w.sites p p (length p + 1) sites links after new
  grows = record {
    written = λ x n old. old;
    by = λ t x n done wrote. wrote;
    committed = λ t old. old;
    below = λ x v is. (let low = version_long h x v is in omega (arith, low));
    inside = inside;
    live = λ k s live. was live;
    alike = λ k low x. all_alike p p x (λ n. refl) (notes k);
    only = λ k low. only (length p + 1) k;
    notes = notes_are;
    asks = λ k. inl (posts_others 1 0 clock outs links 1 (k + 2) (λ r. omega (arith, r)));
    peers = λ k j. posts_others 1 0 clock outs links (k + 2) (j + 2) (λ r. omega (arith, r));
  }

  kept : (k : ℕ) (s : SiteState) → IsLive p sites k s → (x : Item) (c : Copy) → copy_of s x ≡ Some c → IsKeptUp p (site (k + 1)) x s.session c.version (notes k ++ new k)
  kept k s live x c has =
      kept_more p p (site (k + 1)) x s.session c.version (notes k) (new k) (λ n. refl) refl old.current old.locked (mid.last.versions k s live.at x c has) (λ v. latest_none p x s.session v (new k) (unapplied k))
      (λ n pending. absurd (true≢false (sym pending ∙ pending_none s.session n (new k) (unapplied k)))) (along_each (ReadsWhole p x s.session) p x s.session (latest p x s.session c.version (notes k)) (new k) (unapplied k) whole) old
    where
      old : IsKeptUp p (site (k + 1)) x s.session c.version (notes k)
      old = mid.last.kept k s live x c has

      full : is_copy_locked p (site (k + 1)) x ≡ false → (behind : List Letter) → NoGap p x s.session (latest p x s.session c.version (notes k)) behind
      full free behind n wrote more = (let now = old.current free in let most = version_most h x n wrote in absurd (omega (arith, now, most, more)))

      go : (m : Message) → IsRenewing w p m (site (k + 1)) → (behind : List Letter) → ReadsWhole p x s.session (latest p x s.session c.version (notes k)) m behind
      go (letters.CopyDo y target n) due behind it = full (subst (λ z. is_copy_locked p (site (k + 1)) z ≡ false) (same_item x y it) due.unlocked) behind
      go (letters.Ends count) due behind it = absurd (true≢false (sym it))
      go other due behind it = absurd due

      whole : AllByRecursion (λ (l : Letter). (behind : List Letter) → ReadsWhole p x s.session (latest p x s.session c.version (notes k)) l.message behind) (new k)
      whole = each k (λ (l : Letter). (behind : List Letter) → ReadsWhole p x s.session (latest p x s.session c.version (notes k)) l.message behind) (λ l to due. go l.message due)

  -- nothing is pending at a target
  above : (j : ℕ) (target : Site) (n : ℕ) (x : Item) (v : ℕ) (source : Site) → IsDue w p (record { target = target; item = x; source = source }) → target ≡ site (j + 1) → AboveAt p sites after j n x v
  above j target n x v source due place s live same number pending wrote = absurd (go (pending_parts n number (notes j) (new j) (subst (λ ls. is_pending n number ls ≡ true) (notes_are j (inside j s live.at)) pending)))
    where
      own : (c : Copy) × (copy_of s x ≡ Some c)
      own = held_copied s x (held j s live.at x ∙ subst (λ z. is_held w z x ≡ true) place due.held)

      none : NonePending p x s.session (notes j)
      none = (mid.last.kept j s live x own.0 own.1).locked (subst (λ z. is_copy_locked p z x ≡ true) place due.locked)

      go : (is_pending n number (notes j) ≡ true) ⊎ (is_pending n number (new j) ≡ true) → ⊥
      go (inl old) = true≢false (sym wrote ∙ none number (subst (λ z. is_pending z number (notes j) ≡ true) (sym same) old))
      go (inr now) = true≢false (sym now ∙ pending_none n number (new j) (unapplied j))

  sends : (k : ℕ) (s : SiteState) → IsLive p sites k s → (x : Item) (c : Copy) → copy_of s x ≡ Some c → Along (Sends p sites after x) p x s.session (latest p x s.session c.version (notes k)) (new k)
  sends k s live x c has = along_any (Sends p sites after x) p x s.session (latest p x s.session c.version (notes k)) (new k) (each k (λ (l : Letter). (v : ℕ) (behind : List Letter) → Sends p sites after x v l.message behind) (λ l to due. go l.message due))
    where
      go : (m : Message) → IsRenewing w p m (site (k + 1)) → (v : ℕ) (behind : List Letter) → Sends p sites after x v m behind
      go (letters.CopyDo y target n) due v behind = λ it j place. subst (λ z. AboveAt p sites after j n z v) (same_item x y it) (above j target n y v (site (k + 1)) due place)
      go (letters.Ends count) due v behind = tt
      go other due v behind = absurd due

  owed : (k : ℕ) (s : SiteState) → IsLive p sites k s → AllByRecursion (λ (l : Letter). (l.to == s.session) ≡ true → ApplyOwed p (site (k + 1)) l.message) (notes k ++ new k)
  owed k s live = all_append (λ (l : Letter). (l.to == s.session) ≡ true → ApplyOwed p (site (k + 1)) l.message) (notes k) (new k) (mid.last.owed k s live) (all_weaken (λ (l : Letter). IsUnapplied l.message) (λ (l : Letter). (l.to == s.session) ≡ true → ApplyOwed p (site (k + 1)) l.message) (new k) (λ l u to. go l.message u) (unapplied k))
    where
      go : (m : Message) → IsUnapplied m → ApplyOwed p (site (k + 1)) m
      go (letters.Apply t n) u = absurd u
      go other u = tt

  applied : (k : ℕ) → k < w.sites → AllByRecursion (λ (l : Letter). ApplySays p (site (k + 1)) l.message) (link after (k + 2) 1)
  applied k low =
      subst (AllByRecursion (λ (l : Letter). ApplySays p (site (k + 1)) l.message)) (sym (notes_are k low))
      (all_append (λ (l : Letter). ApplySays p (site (k + 1)) l.message) (notes k) (new k) (mid.applied k low) (all_weaken (λ (l : Letter). IsUnapplied l.message) (λ (l : Letter). ApplySays p (site (k + 1)) l.message) (new k) (λ l u. go l.message u) (unapplied k)))
    where
      go : (m : Message) → IsUnapplied m → ApplySays p (site (k + 1)) m
      go (letters.Apply t n) u = absurd u
      go other u = tt

  past : (k : ℕ) → k < w.sites → AllByRecursion (λ (l : Letter). l.to ≤ last_session p (site (k + 1))) (link after (k + 2) 1)
  past k low =
      subst (AllByRecursion (λ (l : Letter). l.to ≤ last_session p (site (k + 1)))) (sym (notes_are k low))
      (all_append (λ (l : Letter). l.to ≤ last_session p (site (k + 1))) (notes k) (new k) (mid.past k low) (each k (λ (l : Letter). l.to ≤ last_session p (site (k + 1))) (λ l to due. go l.to to)))
    where
      go : (n : ℕ) → n ≡ session (vector w p) (site (k + 1)) → n ≤ last_session p (site (k + 1))
      go n is = elim (mid.stand k low).so [ inl down ↦ omega (arith, is, down) | inr up ↦ omega (arith, is, up) ]

  pub sent_mid : Mid w sites (noted h) (fold (post 1 0 clock) links outs)
  sent_mid = record {
    square = posts_square (w.sites + 2) 1 0 clock outs links mid.square;
    last = grown w.sites p p (length p + 1) sites links after new grows mid.last (record { unlocked = mid.last.unlocked; kept = kept; owed = owed; sends = sends });
    applied = applied;
    past = past;
    vectors = mid.vectors;
    stand = mid.stand;
    owers = mid.owers;
  }

-- copies that are due
pub due_goes : (w : Workload) (p : List Noted) (due : List Copying) → AreDue w p due → AllByRecursion (Goes w p) (map (rows.copy_out (vector w p)) due)
due_goes w p [] a = tt
due_goes w p (c ∷ due) a = ((λ k of. (ap (session (vector w p)) (place_is c.source k of), subst (λ z. IsDue w p (record { target = c.target; item = c.item; source = z })) (place_is c.source k of) a.0)), due_goes w p due a.1)

-- a count goes to no site
pub count_goes : (w : Workload) (p : List Noted) (n : ℕ) → AllByRecursion (Goes w p) ((0, 0, letters.Ends n) ∷ [])
count_goes w p n = ((λ k of. absurd (omega (arith, of))), tt)
