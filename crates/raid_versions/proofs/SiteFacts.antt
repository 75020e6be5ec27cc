-- What a history's entries say by their numbers: each number is of one entry, and a transaction's Commits have one number.
use Rattle.std.proofs.Common.{◌≡◌, ◌⊎◌, inl, inr, ℕ, ◌+◌, ◌*◌, ◌≤◌, ◌==◌, nat_le, Bool, true, false, not, ◌&&◌, ◌||◌, List, [], ◌∷◌, ◌++◌, length, length-append, if◌then◌else◌, arith, sym, subst, ap, ◌∙◌, refl}
use Rattle.std.specs.List.{AllByRecursion, list_any}
use Rattle.std.proofs.lemmas.Bool.{and_parts, and_from, eqb-true, true≢false}
use Rattle.raid_base.specs.declared.names.Txn.{Txn}
use Rattle.raid_base.specs.declared.names.Item.{Item}
use Rattle.raid_base.specs.declared.names.Site.{Site}
use Rattle.raid_base.specs.declared.request.Request.{Request}
use Rattle.raid_base.specs.declared.entry.Entry.{Entry}
use Rattle.raid_base.specs.declared.entry.Entry.TheVariants.{Commit}
use Rattle.raid_base.specs.declared.entry.Noted.{Noted}
use Rattle.raid_base.specs.Names.{is_txn, has_site, holds}
use Rattle.raid_workload.specs.declared.workload.Workload.{Workload}
use Rattle.raid_rules.specs.Entries.{is_commit_of, writes_of, writes_item}
use Rattle.raid_rules.specs.History.{noted, add, next, has_begun, has_committed, has_ended, commit_number}
use Rattle.raid_rules.specs.Order.{is_of}
use Rattle.raid_rules.proofs.Places.{by_last}
use Rattle.raid_rules.proofs.Push.{noted_push, number_of_push, same_txn}
use Rattle.raid_history.specs.Tables.{may_follow}
use Rattle.raid_serial.proofs.Views.{same_tests}
use Rattle.raid_placed.specs.Placed.{Placed}
use Rattle.raid_placed.proofs.Orderly.{placed_whole, placed_known, placeable_follows}
use Rattle.raid_placed.proofs.Sent.{placed_push}
use Rattle.raid_sessions.proofs.Lists.{is_same}
use Rattle.raid_steps.specs.Fits.{knows_txn}
use Rattle.raid_asks.proofs.Facts.{or_left, or_right, any_weaken}
use Rattle.raid_asks.proofs.Least.{known_txn}
use Rattle.raid_letters.specs.Says.{is_applied, was_applied}
use Rattle.raid_layers.proofs.Histories.{committed_ended}
use Rattle.raid_versions.specs.Versions.{was_written, was_written_by}

-- the entry has this number in the history
abbrev pub HasAt : List Noted → ℕ → Entry → Type 0
HasAt [] number e = ⊥
HasAt (n ∷ ns) number e = ((n.at ≡ number) × (n.entry ≡ e)) ⊎ HasAt ns number e

-- a test that the entry with a number passes
pub some_at : (test : Entry → Bool) (p : List Noted) (number : ℕ) → list_any (λ n. (n.at == number) && test n.entry) p ≡ true → (e : Entry) × (HasAt p number e × (test e ≡ true))
some_at test [] number h = absurd (true≢false (sym h))
some_at test (n ∷ ns) number h = go (n.at == number) refl (test n.entry) refl h (some_at test ns number)
  where
    Found : Type 0
    Found = (e : Entry) × (HasAt (n ∷ ns) number e × (test e ≡ true))

    later : (e : Entry) × (HasAt ns number e × (test e ≡ true)) → Found
    later (e, (at, is)) = (e, (inr at, is))

    go : (b : Bool) → (n.at == number) ≡ b → (c : Bool) → test n.entry ≡ c → (b && c || list_any (λ n. (n.at == number) && test n.entry) ns) ≡ true →
        (list_any (λ n. (n.at == number) && test n.entry) ns ≡ true → (e : Entry) × (HasAt ns number e × (test e ≡ true))) → Found
    go true at true is h rest = (n.entry, (inl (eqb-true n.at number at, refl), is))
    go true at false is h rest = later (rest h)
    go false at c is h rest = later (rest h)

pub at_some : (test : Entry → Bool) (p : List Noted) (number : ℕ) (e : Entry) → HasAt p number e → test e ≡ true → list_any (λ n. (n.at == number) && test n.entry) p ≡ true
at_some test [] number e at is = absurd at
at_some test (n ∷ ns) number e (inl (at, same)) is =
    or_left ((n.at == number) && test n.entry) (list_any (λ n. (n.at == number) && test n.entry) ns) (and_from (n.at == number) (test n.entry) (is_same n.at number at) (ap test same ∙ is))
at_some test (n ∷ ns) number e (inr more) is = or_right ((n.at == number) && test n.entry) (list_any (λ n. (n.at == number) && test n.entry) ns) (at_some test ns number e more is)

pub at_any : (test : Entry → Bool) (p : List Noted) (number : ℕ) (e : Entry) → HasAt p number e → test e ≡ true → list_any (λ n. test n.entry) p ≡ true
at_any test [] number e at is = absurd at
at_any test (n ∷ ns) number e (inl (at, same)) is = or_left (test n.entry) (list_any (λ n. test n.entry) ns) (ap test same ∙ is)
at_any test (n ∷ ns) number e (inr more) is = or_right (test n.entry) (list_any (λ n. test n.entry) ns) (at_any test ns number e more is)

-- what holds of each entry
pub at_holds : (P : Entry → Type 0) (p : List Noted) (number : ℕ) (e : Entry) → AllByRecursion (λ (n : Noted). P n.entry) p → HasAt p number e → P e
at_holds P [] number e a at = absurd at
at_holds P (n ∷ ns) number e a (inl (at, same)) = subst P same a.0
at_holds P (n ∷ ns) number e a (inr more) = at_holds P ns number e a.1 more

-- of a longer history
last_at : (p : List Noted) (n : Noted) (number : ℕ) (e : Entry) → HasAt (p ++ n ∷ []) number e → HasAt p number e ⊎ ((n.at ≡ number) × (n.entry ≡ e))
last_at [] n number e (inl now) = inr now
last_at [] n number e (inr more) = inl more
last_at (z ∷ p) n number e (inl first) = inl (inl first)
last_at (z ∷ p) n number e (inr more) = elim (last_at p n number e more) [ inl old ↦ inl (inr old) | inr now ↦ inr now ]

-- each number is of one entry
pub record AtOnce (p : List Noted) : Type 0 where
  pub within : (number : ℕ) (e : Entry) → HasAt p number e → number ≤ length p
  pub once : (number : ℕ) (e f : Entry) → HasAt p number e → HasAt p number f → e ≡ f

pub noted_once : (h : List Entry) → AtOnce (noted h)
noted_once = by_last (λ h. AtOnce (noted h)) (record { within = λ number e at. absurd at; once = λ number e f at there. absurd at }) more
  where
    more : (h : List Entry) (e : Entry) → AtOnce (noted h) → AtOnce (noted (h ++ e ∷ []))
    more h e rest = subst AtOnce (sym (noted_push h e)) (record {
      within = λ number f at. within f number (last_at p (next p e) number f at);
      once = λ number f g at there. once f g number (last_at p (next p e) number f at) (last_at p (next p e) number g there);
    })
      where
        p : List Noted
        p = noted h

        within : (f : Entry) (number : ℕ) → HasAt p number f ⊎ ((length p + 1 ≡ number) × (e ≡ f)) → number ≤ length (add p e)
        within f number (inl old) = (let low = rest.within number f old in let l = length-append p (next p e ∷ []) in omega (arith, low, l))
        within f number (inr now) = (let same = now.0 in let l = length-append p (next p e ∷ []) in omega (arith, same, l))

        once : (f g : Entry) (number : ℕ) → HasAt p number f ⊎ ((length p + 1 ≡ number) × (e ≡ f)) → HasAt p number g ⊎ ((length p + 1 ≡ number) × (e ≡ g)) → f ≡ g
        once f g number (inl old) (inl there) = rest.once number f g old there
        once f g number (inl old) (inr now) = absurd (let low = rest.within number f old in let same = now.0 in omega (arith, low, same))
        once f g number (inr now) (inl old) = absurd (let low = rest.within number g old in let same = now.0 in omega (arith, low, same))
        once f g number (inr now) (inr again) = sym now.1 ∙ again.1

-- a Commit ends its transaction, so there is one
module _ (w : Workload) where
  no_more_commits : (p : List Noted) (e : Entry) (t : Txn) → may_follow p e ≡ true → has_ended p t ≡ true → is_commit_of t e ≡ false
  no_more_commits p (Commit u r applied) t follows over = go (is_txn t u) refl
    where
      clash : (b : Bool) → not b ≡ true → b ≡ true → ⊥
      clash true q r = true≢false (sym q)
      clash false q r = true≢false (sym r)

      go : (b : Bool) → is_txn t u ≡ b → b ≡ false
      go true same = absurd (clash (has_ended p u) (and_parts (has_begun p u) (not (has_ended p u)) follows).1 (subst (λ z. has_ended p z ≡ true) (sym (same_txn u t same)) over))
      go false q = refl
  no_more_commits p other t follows over = refl

  pub commit_once : (h : List Entry) → Placed w h → (t : Txn) (number : ℕ) (e : Entry) → HasAt (noted h) number e → is_commit_of t e ≡ true → number ≡ commit_number (noted h) t
  commit_once = by_last (λ h. Placed w h → (t : Txn) (number : ℕ) (e : Entry) → HasAt (noted h) number e → is_commit_of t e ≡ true → number ≡ commit_number (noted h) t) (λ l t number e at is. absurd at) more
    where
      more : (h : List Entry) (f : Entry) → (Placed w h → (t : Txn) (number : ℕ) (e : Entry) → HasAt (noted h) number e → is_commit_of t e ≡ true → number ≡ commit_number (noted h) t) →
          Placed w (h ++ f ∷ []) → (t : Txn) (number : ℕ) (e : Entry) → HasAt (noted (h ++ f ∷ [])) number e → is_commit_of t e ≡ true → number ≡ commit_number (noted (h ++ f ∷ [])) t
      more h f rest l t number e at is =
          subst (λ p. number ≡ commit_number p t) (sym (noted_push h f)) (go (last_at p (next p f) number e (subst (λ p. HasAt p number e) (noted_push h f) at)))
        where
          p : List Noted
          p = noted h

          both : Placed w h × (may_follow p f ≡ true)
          both = (let q = (placed_push w h f).0 l in (q.0, placeable_follows w p f q.1))

          now : (b : Bool) → is_commit_of t f ≡ b → commit_number (add p f) t ≡ (if b then length p + 1 else commit_number p t)
          now b q = number_of_push (is_commit_of t) p (next p f) ∙ ap (λ b. if b then length p + 1 else commit_number p t) q

          go : HasAt p number e ⊎ ((length p + 1 ≡ number) × (f ≡ e)) → number ≡ commit_number (add p f) t
          go (inl old) =
              let over = committed_ended p t (at_any (is_commit_of t) p number e old is) in
              rest both.0 t number e old is ∙ sym (now false (no_more_commits p f t both.1 over))
          go (inr (number_is, same)) = sym number_is ∙ sym (now true (ap (is_commit_of t) same ∙ is))

  -- who has committed is one of the workload's transactions
  commit_is_of : (t : Txn) (e : Entry) → is_commit_of t e ≡ true → is_of t e ≡ true
  commit_is_of t (Commit u r applied) h = h
  commit_is_of t other h = absurd (true≢false (sym h))

  pub committed_known : (h : List Entry) → Placed w h → (t : Txn) → has_committed (noted h) t ≡ true → knows_txn w t ≡ true
  committed_known h l t committed =
      let begun = placed_whole w h l t (any_weaken (λ n. is_commit_of t n.entry) (λ n. is_of t n.entry) (λ n q. commit_is_of t n.entry q) (noted h) committed) in
      let known = known_txn w t (placed_known w h l t begun) in
      and_from (nat_le 1 t.0) (nat_le t.0 (length w.programs * (w.restarts + 1))) (at_least 1 t.0 known.0) (at_least t.0 (length w.programs * (w.restarts + 1)) (let high = known.1 in omega (arith, high)))
    where
      at_least : (a b : ℕ) → a ≤ b → nat_le a b ≡ true
      at_least a b q = grind (arith, q)

-- a Commit that is applied at a site, by its number
pub record Applying (p : List Noted) (t : Txn) (number : ℕ) : Type 0 where
  pub request : Request
  pub applied : List Site
  pub at : HasAt p number (Commit t request applied)

pub applying : (p : List Noted) (t : Txn) (s : Site) (number : ℕ) → was_applied p t s number ≡ true → Applying p t number
applying p t s number h = (let found = some_at (is_applied t s) p number h in go found.0 found.1.0 found.1.1)
  where
    go : (e : Entry) → HasAt p number e → is_applied t s e ≡ true → Applying p t number
    go (Commit u r a) at is = record { request = r; applied = a; at = subst (λ z. HasAt p number (Commit z r a)) (same_txn u t (and_parts (is_txn t u) (has_site a s) is).0) at }
    go other at is = absurd (true≢false (sym is))

-- what it writes
pub writes_at : (p : List Noted) → AtOnce p → (t : Txn) (number : ℕ) (c : Applying p t number) (x : Item) → was_written p x number ≡ holds x c.request.writes
writes_at p o t number c x =
    same_tests (was_written p x number) (holds x c.request.writes) there (λ q. at_some (λ e. holds x (writes_of e)) p number (Commit t c.request c.applied) c.at q)
  where
    there : was_written p x number ≡ true → holds x c.request.writes ≡ true
    there q =
        let found = some_at (λ e. holds x (writes_of e)) p number q in
        subst (λ e. holds x (writes_of e) ≡ true) (o.once number found.0 (Commit t c.request c.applied) found.1.0 c.at) found.1.1

-- a write of the transaction's is by a Commit of it, with this number
pub writer_at : (p : List Noted) (t : Txn) (x : Item) (number : ℕ) → was_written_by p t x number ≡ true → (e : Entry) × (HasAt p number e × (is_commit_of t e ≡ true))
writer_at p t x number h = (let found = some_at (writes_item t x) p number h in (found.0, (found.1.0, commits found.0 found.1.1)))
  where
    commits : (e : Entry) → writes_item t x e ≡ true → is_commit_of t e ≡ true
    commits (Commit u r applied) q = (and_parts (is_txn t u) (holds x r.writes) q).0
    commits other q = absurd (true≢false (sym q))
