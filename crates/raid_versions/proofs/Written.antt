-- Which entry has a number, and the versions that a history has: each was written, and the last is the largest.
use Rattle.std.proofs.Common.{◌≡◌, ◌⊎◌, inl, inr, ℕ, ◌+◌, ◌≤◌, ◌==◌, Bool, true, false, ◌&&◌, ◌||◌, List, [], ◌∷◌, ◌++◌, length, length-append, if◌then◌else◌, arith, sym, subst, ◌∙◌, refl}
use Rattle.std.specs.List.{list_any}
use Rattle.std.proofs.lemmas.Bool.{and_parts, and_from, eqb-true, true≢false}
use Rattle.raid_base.specs.declared.names.Txn.{Txn}
use Rattle.raid_base.specs.declared.names.Item.{Item}
use Rattle.raid_base.specs.declared.entry.Entry.{Entry}
use Rattle.raid_base.specs.declared.entry.Entry.TheVariants.{Commit}
use Rattle.raid_base.specs.declared.entry.Noted.{Noted}
use Rattle.raid_base.specs.Names.{is_txn, holds}
use Rattle.raid_rules.specs.Entries.{writes_of, writes_item}
use Rattle.raid_rules.specs.History.{noted, add, next, number_of, version}
use Rattle.raid_rules.proofs.Places.{by_last}
use Rattle.raid_rules.proofs.Push.{noted_push, number_of_push}
use Rattle.raid_asks.proofs.Facts.{or_parts, any_weaken}
use Rattle.raid_sessions.proofs.Lists.{same_self}
use Rattle.raid_layers.proofs.Histories.{any_push, any_kept, any_last, any_same}
use Rattle.raid_versions.specs.Versions.{was_written, was_written_by, IsVersion}

-- the entry with this number passes the test
abbrev pub at_number : (Entry → Bool) → List Noted → ℕ → Bool
at_number test p number = list_any (λ n. (n.at == number) && test n.entry) p

-- with one more entry
pub at_push : (test : Entry → Bool) (p : List Noted) (e : Entry) (n : ℕ) → at_number test (add p e) n ≡ (at_number test p n || ((length p + 1 == n) && test e))
at_push test p e n = any_push (λ z. (z.at == n) && test z.entry) p (next p e)

pub at_parts : (test : Entry → Bool) (p : List Noted) (e : Entry) (n : ℕ) → at_number test (add p e) n ≡ true → (at_number test p n ≡ true) ⊎ ((n ≡ length p + 1) × (test e ≡ true))
at_parts test p e n h = elim (or_parts (at_number test p n) ((length p + 1 == n) && test e) (sym (at_push test p e n) ∙ h)) [
  | inl old ↦ inl old
  | inr now ↦ inr (let both = and_parts (length p + 1 == n) (test e) now in (sym (eqb-true (length p + 1) n both.0), both.1))
]

pub at_kept : (test : Entry → Bool) (p : List Noted) (e : Entry) (n : ℕ) → at_number test p n ≡ true → at_number test (add p e) n ≡ true
at_kept test p e n h = any_kept (λ z. (z.at == n) && test z.entry) p (next p e) h

pub at_last : (test : Entry → Bool) (p : List Noted) (e : Entry) → test e ≡ true → at_number test (add p e) (length p + 1) ≡ true
at_last test p e h = any_last (λ z. (z.at == length p + 1) && test z.entry) p (next p e) (and_from (length p + 1 == length p + 1) (test e) (same_self (length p + 1)) h)

-- an entry that doesn't pass changes nothing
pub at_same : (test : Entry → Bool) (p : List Noted) (e : Entry) (n : ℕ) → test e ≡ false → at_number test (add p e) n ≡ at_number test p n
at_same test p e n h = any_same (λ z. (z.at == n) && test z.entry) p (next p e) (none (length p + 1 == n) (test e) h)
  where
    none : (a b : Bool) → b ≡ false → (a && b) ≡ false
    none true b q = q
    none false b q = refl

pub at_weaken : (f g : Entry → Bool) → ((e : Entry) → f e ≡ true → g e ≡ true) → (p : List Noted) (n : ℕ) → at_number f p n ≡ true → at_number g p n ≡ true
at_weaken f g each p n h =
    any_weaken (λ z. (z.at == n) && f z.entry) (λ z. (z.at == n) && g z.entry)
    (λ z q. (let both = and_parts (z.at == n) (f z.entry) q in and_from (z.at == n) (g z.entry) both.0 (each z.entry both.1))) p h

pub long_push : (p : List Noted) (e : Entry) → length (add p e) ≡ length p + 1
long_push p e = length-append p (next p e ∷ [])

-- numbers are from 1 to how many entries there are
pub numbered : (h : List Entry) (test : Entry → Bool) (n : ℕ) → at_number test (noted h) n ≡ true → (1 ≤ n) × (n ≤ length (noted h))
numbered = by_last (λ h. (test : Entry → Bool) (n : ℕ) → at_number test (noted h) n ≡ true → (1 ≤ n) × (n ≤ length (noted h))) (λ test n q. absurd (true≢false (sym q))) more
  where
    more : (h : List Entry) (e : Entry) → ((test : Entry → Bool) (n : ℕ) → at_number test (noted h) n ≡ true → (1 ≤ n) × (n ≤ length (noted h))) →
        (test : Entry → Bool) (n : ℕ) → at_number test (noted (h ++ e ∷ [])) n ≡ true → (1 ≤ n) × (n ≤ length (noted (h ++ e ∷ [])))
    more h e rest test n q = subst (λ p. at_number test p n ≡ true → (1 ≤ n) × (n ≤ length p)) (sym (noted_push h e)) go q
      where
        go : at_number test (add (noted h) e) n ≡ true → (1 ≤ n) × (n ≤ length (add (noted h) e))
        go r = split (at_parts test (noted h) e n r) (long_push (noted h) e)
          where
            split : (at_number test (noted h) n ≡ true) ⊎ ((n ≡ length (noted h) + 1) × (test e ≡ true)) → length (add (noted h) e) ≡ length (noted h) + 1 → (1 ≤ n) × (n ≤ length (add (noted h) e))
            split (inl old) l = (let b = rest test n old in let c = b.1 in (b.0, omega (arith, l, c)))
            split (inr now) l = (let c = now.0 in (omega (arith, c), omega (arith, c, l)))

-- two tests that the entry with one number passes
pub at_both : (h : List Entry) (f g : Entry → Bool) (n : ℕ) → at_number f (noted h) n ≡ true → at_number g (noted h) n ≡ true → at_number (λ e. f e && g e) (noted h) n ≡ true
at_both = by_last (λ h. (f g : Entry → Bool) (n : ℕ) → at_number f (noted h) n ≡ true → at_number g (noted h) n ≡ true → at_number (λ e. f e && g e) (noted h) n ≡ true) (λ f g n q r. absurd (true≢false (sym q))) more
  where
    more : (h : List Entry) (e : Entry) → ((f g : Entry → Bool) (n : ℕ) → at_number f (noted h) n ≡ true → at_number g (noted h) n ≡ true → at_number (λ e. f e && g e) (noted h) n ≡ true) →
        (f g : Entry → Bool) (n : ℕ) → at_number f (noted (h ++ e ∷ [])) n ≡ true → at_number g (noted (h ++ e ∷ [])) n ≡ true → at_number (λ e. f e && g e) (noted (h ++ e ∷ [])) n ≡ true
    more h e rest f g n q r =
        subst (λ p. at_number f p n ≡ true → at_number g p n ≡ true → at_number (λ e. f e && g e) p n ≡ true) (sym (noted_push h e)) (λ a b. go (at_parts f (noted h) e n a) (at_parts g (noted h) e n b)) q r
      where
        late : (test : Entry → Bool) → at_number test (noted h) n ≡ true → n ≡ length (noted h) + 1 → ⊥
        late test old is = (let b = (numbered h test n old).1 in omega (arith, b, is))

        go : (at_number f (noted h) n ≡ true) ⊎ ((n ≡ length (noted h) + 1) × (f e ≡ true)) → (at_number g (noted h) n ≡ true) ⊎ ((n ≡ length (noted h) + 1) × (g e ≡ true)) →
            at_number (λ e. f e && g e) (add (noted h) e) n ≡ true
        go (inl a) (inl b) = at_kept (λ e. f e && g e) (noted h) e n (rest f g n a b)
        go (inl a) (inr b) = absurd (late f a b.0)
        go (inr a) (inl b) = absurd (late g b a.0)
        go (inr a) (inr b) = subst (λ z. at_number (λ e. f e && g e) (add (noted h) e) z ≡ true) (sym a.0) (at_last (λ e. f e && g e) (noted h) e (and_from (f e) (g e) a.1 b.1))

-- the number of the last entry that passes is the largest
pub number_is : (h : List Entry) (test : Entry → Bool) → (number_of test (noted h) ≡ 0) ⊎ (at_number test (noted h) (number_of test (noted h)) ≡ true)
number_is = by_last (λ h. (test : Entry → Bool) → (number_of test (noted h) ≡ 0) ⊎ (at_number test (noted h) (number_of test (noted h)) ≡ true)) (λ test. inl refl) more
  where
    more : (h : List Entry) (e : Entry) → ((test : Entry → Bool) → (number_of test (noted h) ≡ 0) ⊎ (at_number test (noted h) (number_of test (noted h)) ≡ true)) →
        (test : Entry → Bool) → (number_of test (noted (h ++ e ∷ [])) ≡ 0) ⊎ (at_number test (noted (h ++ e ∷ [])) (number_of test (noted (h ++ e ∷ []))) ≡ true)
    more h e rest test =
        subst (λ p. (number_of test p ≡ 0) ⊎ (at_number test p (number_of test p) ≡ true)) (sym (noted_push h e))
        (subst (λ k. (k ≡ 0) ⊎ (at_number test (add (noted h) e) k ≡ true)) (sym (number_of_push test (noted h) (next (noted h) e))) (go (test e) refl))
      where
        go : (b : Bool) → test e ≡ b → ((let k : ℕ = (if b then length (noted h) + 1 else number_of test (noted h)) in k) ≡ 0) ⊎ (at_number test (add (noted h) e) (if b then length (noted h) + 1 else number_of test (noted h)) ≡ true)
        go true q = inr (at_last test (noted h) e q)
        go false q = elim (rest test) [ inl none ↦ inl none | inr old ↦ inr (at_kept test (noted h) e (number_of test (noted h)) old) ]

pub number_most : (h : List Entry) (test : Entry → Bool) (n : ℕ) → at_number test (noted h) n ≡ true → n ≤ number_of test (noted h)
number_most = by_last (λ h. (test : Entry → Bool) (n : ℕ) → at_number test (noted h) n ≡ true → n ≤ number_of test (noted h)) (λ test n q. absurd (true≢false (sym q))) more
  where
    more : (h : List Entry) (e : Entry) → ((test : Entry → Bool) (n : ℕ) → at_number test (noted h) n ≡ true → n ≤ number_of test (noted h)) →
        (test : Entry → Bool) (n : ℕ) → at_number test (noted (h ++ e ∷ [])) n ≡ true → n ≤ number_of test (noted (h ++ e ∷ []))
    more h e rest test n q =
        subst (λ p. at_number test p n ≡ true → n ≤ number_of test p) (sym (noted_push h e))
        (λ r. subst (λ k. n ≤ k) (sym (number_of_push test (noted h) (next (noted h) e))) (go (test e) refl (at_parts test (noted h) e n r))) q
      where
        go : (b : Bool) → test e ≡ b → (at_number test (noted h) n ≡ true) ⊎ ((n ≡ length (noted h) + 1) × (test e ≡ true)) → n ≤ (if b then length (noted h) + 1 else number_of test (noted h))
        go true q (inl old) = (let b = (numbered h test n old).1 in omega (arith, b))
        go true q (inr now) = (let b = now.0 in omega (arith, b))
        go false q (inl old) = rest test n old
        go false q (inr now) = absurd (true≢false (sym now.1 ∙ q))

-- the same of what is written
pub version_is : (h : List Entry) (x : Item) → IsVersion (noted h) x (version (noted h) x)
version_is h x = number_is h (λ e. holds x (writes_of e))

pub version_most : (h : List Entry) (x : Item) (n : ℕ) → was_written (noted h) x n ≡ true → n ≤ version (noted h) x
version_most h x n q = number_most h (λ e. holds x (writes_of e)) n q

pub version_within : (h : List Entry) (x : Item) (v : ℕ) → IsVersion (noted h) x v → v ≤ version (noted h) x
version_within h x v (inl zero) = omega (arith, zero)
version_within h x v (inr written) = version_most h x v written

pub version_long : (h : List Entry) (x : Item) (v : ℕ) → IsVersion (noted h) x v → v ≤ length (noted h)
version_long h x v (inl zero) = omega (arith, zero)
version_long h x v (inr written) = (numbered h (λ e. holds x (writes_of e)) v written).1

-- a Commit of a transaction that writes the item is one that does
by_written : (t : Txn) (x : Item) (e : Entry) → writes_item t x e ≡ true → holds x (writes_of e) ≡ true
by_written t x (Commit u request applied) q = (and_parts (is_txn t u) (holds x request.writes) q).1
by_written t x other q = absurd (true≢false (sym q))

pub written_by : (p : List Noted) (t : Txn) (x : Item) (n : ℕ) → was_written_by p t x n ≡ true → was_written p x n ≡ true
written_by p t x n q = at_weaken (writes_item t x) (λ e. holds x (writes_of e)) (by_written t x) p n q
