-- What a word can be behind a command with long options alone.
use Rattle.std.proofs.Common.{◌≡◌, ◌∙◌, ◌∷◌, ◌++◌, ◌&&◌, ◌==◌, inl, inr, ℕ, Bool, List, [], true, false, true≢false, refl, sym, ap, cond, codes, subst}
use Rattle.std.specs.List.{after_first, before_first, list_any}
use Rattle.std.specs.Str.{bytes_eq}
use Rattle.clap.specs.Simple.{Shape}
use Rattle.raid_command.specs.Asked.{Word, begins_with_hyphens, is_equals_sign, spread}
use Rattle.raid_command.proofs.Split.{before_more, is_eq, no_sign, same_word, split_at_sign}
use Rattle.raid_command.proofs.Walks.{HasLongsAlone, IsPlain, IsRefused}
use Rattle.raid_command.proofs.Longs.{plain_empty, plain_hyphen, plain_other, short_form}

-- `--` with more behind it; or a word that doesn't begin so, which is refused, as only words with a hyphen are, or plain
pub data Form (s : Shape) (w : Word) : Type 0 where
  long : (x : ℕ) (xs : Word) → w ≡ 45 ∷ 45 ∷ x ∷ xs → Form s w
  refused : (u : Word) → w ≡ 45 ∷ u → IsRefused s w → begins_with_hyphens w ≡ false → Form s w
  plain : IsPlain s w → begins_with_hyphens w ≡ false → Form s w

-- a word that doesn't begin with `--` stays as it is, and is no option's name
pub stays : (w : Word) → begins_with_hyphens w ≡ false → spread w ≡ w ∷ []
stays w none = rw none refl

pub no_name : (w name : Word) → begins_with_hyphens w ≡ false → bytes_eq w (45 ∷ 45 ∷ name) ≡ false
no_name [] name none = refl
no_name (a ∷ []) name none = go (a == 45)
  where
    go : (d : Bool) → (d && false) ≡ false
    go true = refl
    go false = refl
no_name (a ∷ b ∷ u) name none = go (a == 45) (b == 45) none
  where
    go : (d e : Bool) → (d && e) ≡ false → (d && (e && bytes_eq u name)) ≡ false
    go true true wrong = absurd (true≢false wrong)
    go true false _ = refl
    go false e _ = refl

module _ (s : Shape) (longs : HasLongsAlone s) where
  other : (a : ℕ) (t : Word) → (a == 45) ≡ false → Form s (a ∷ t)
  other a [] isnt = plain (plain_other s a [] isnt) refl
  other a (b ∷ u) isnt = plain (plain_other s a (b ∷ u) isnt) (rw isnt refl)

  short : (b : ℕ) (u : Word) → (b == 45) ≡ false → Form s (45 ∷ b ∷ u)
  short b u isnt = elim (short_form s b u isnt longs) [
    | inl r ↦ refused (b ∷ u) refl r (rw isnt refl)
    | inr p ↦ plain p (rw isnt refl)
  ]

  hyphened : (t : Word) → bytes_eq (45 ∷ t) (codes "--") ≡ false → Form s (45 ∷ t)
  hyphened [] e = plain (plain_hyphen s) refl
  hyphened (b ∷ u) e = go (b == 45) refl u e
    where
      go : (d : Bool) → (b == 45) ≡ d → (u : Word) → bytes_eq (45 ∷ b ∷ u) (codes "--") ≡ false → Form s (45 ∷ b ∷ u)
      go false isnt u e = short b u isnt
      go true is [] e = let ends : bytes_eq (45 ∷ 45 ∷ []) (codes "--") ≡ false = subst (λ y. bytes_eq (45 ∷ y ∷ []) (codes "--") ≡ false) (is_eq b 45 is) e in absurd (true≢false ends)
      go true is (x ∷ xs) e = long x xs (ap (λ y. 45 ∷ y ∷ x ∷ xs) (is_eq b 45 is))

  pub form_of : (w : Word) → bytes_eq w (codes "--") ≡ false → Form s w
  form_of [] e = plain (plain_empty s) refl
  form_of (a ∷ t) e = go (a == 45) refl
    where
      go : (d : Bool) → (a == 45) ≡ d → Form s (a ∷ t)
      go false isnt = other a t isnt
      go true is = subst (λ y. Form s (y ∷ t)) (sym (is_eq a 45 is)) (hyphened t (subst (λ y. bytes_eq (y ∷ t) (codes "--") ≡ false) (is_eq a 45 is) e))

-- ---- the names of options

-- what `--` with more behind it spreads to begins with its name
pub name_first : (t : Word) → (more : List Word) × (spread (45 ∷ 45 ∷ t) ≡ (45 ∷ 45 ∷ before_first is_equals_sign t) ∷ more)
name_first t = go (list_any is_equals_sign t) refl
  where
    cut : before_first is_equals_sign (45 ∷ 45 ∷ t) ≡ 45 ∷ 45 ∷ before_first is_equals_sign t
    cut = before_more 45 (45 ∷ t) refl ∙ ap (λ (z : Word). 45 ∷ z) (before_more 45 t refl)

    value : Word
    value = after_first is_equals_sign (45 ∷ 45 ∷ t)

    spreads : (has : Bool) → list_any is_equals_sign t ≡ has → spread (45 ∷ 45 ∷ t) ≡ cond has (before_first is_equals_sign (45 ∷ 45 ∷ t) ∷ value ∷ []) ((45 ∷ 45 ∷ t) ∷ [])
    spreads has e = ap (λ c. cond c (before_first is_equals_sign (45 ∷ 45 ∷ t) ∷ value ∷ []) ((45 ∷ 45 ∷ t) ∷ [])) e

    go : (has : Bool) → list_any is_equals_sign t ≡ has → (more : List Word) × (spread (45 ∷ 45 ∷ t) ≡ (45 ∷ 45 ∷ before_first is_equals_sign t) ∷ more)
    go true e = (value ∷ [], spreads true e ∙ ap (λ (f : Word). f ∷ value ∷ []) cut)
    go false e = ([], spreads false e ∙ ap (λ (n : Word). (45 ∷ 45 ∷ n) ∷ []) (sym (no_sign t e)))

-- behind its hyphens a word has this name, with `=` and a value behind it or without; or another
pub data Naming (id t : Word) : Type 0 where
  joined : (v : Word) → t ≡ id ++ (61 ∷ v) → Naming id t
  named : t ≡ id → Naming id t
  unknown : bytes_eq id (before_first is_equals_sign t) ≡ false → Naming id t

pub naming : (id t : Word) → Naming id t
naming id t = go (bytes_eq id (before_first is_equals_sign t)) refl (list_any is_equals_sign t) refl
  where
    go : (same : Bool) → bytes_eq id (before_first is_equals_sign t) ≡ same → (has : Bool) → list_any is_equals_sign t ≡ has → Naming id t
    go false other has e = unknown other
    go true same true e = joined (after_first is_equals_sign t) (split_at_sign t e ∙ ap (λ n. n ++ (61 ∷ after_first is_equals_sign t)) (sym (same_word id (before_first is_equals_sign t) same)))
    go true same false e = named (sym (no_sign t e) ∙ sym (same_word id (before_first is_equals_sign t) same))
