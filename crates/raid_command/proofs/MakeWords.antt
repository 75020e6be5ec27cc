-- What the options of `make` ask for, where some of them are wrong.
use Rattle.std.proofs.Common.{◌≡◌, ◌∷◌, ◌++◌, ◌&&◌, Bool, List, [], true, false, refl, Some, None, cond, codes, not, length, nat_le}
use Rattle.std.specs.List.{after_first, before_first, list_any}
use Rattle.std.specs.Str.{bytes_eq}
use Rattle.raid_command.specs.Asked.{Word, begins_with_hyphens, is_equals_sign, is_number, made, options_of, spread}
use Rattle.raid_command.specs.declared.asked.Command.TheVariants.{Make}
use Rattle.std.specs.Str.Parse.{digits_value}

-- the option of the seed, or of the count
abbrev pub name_of : Bool → Word
name_of true = codes "--seed"
name_of false = codes "--count"

abbrev pub joined_of : Bool → Word → Word
joined_of true v = codes "--seed=" ++ v
joined_of false v = codes "--count=" ++ v

pub record IsForeign (w : Word) : Type 0 where
  pub seed : bytes_eq w (codes "--seed") ≡ false
  pub count : bytes_eq w (codes "--count") ≡ false

-- what the word spreads to begins with no option's name and no number
pub record IsOut (w : Word) : Type 0 where
  pub first : Word
  pub more : List Word
  pub pieces : spread w ≡ first ∷ more
  pub foreign : IsForeign first
  pub number : is_number first ≡ false

and_false : (a b : Bool) → (a && (b && false)) ≡ false
and_false true true = refl
and_false true false = refl
and_false false b = refl

pub hyphen_no_number : (u : Word) → is_number (45 ∷ u) ≡ false
hyphen_no_number u = and_false (nat_le 1 (length (45 ∷ u))) (nat_le (length (45 ∷ u)) 9)

name_no_number : (b : Bool) → is_number (name_of b) ≡ false
name_no_number true = refl
name_no_number false = refl

pub made_left : (y c : Word) → is_number y ≡ false → made y c ≡ None
made_left y c bad = rw bad refl

pub made_right : (c y : Word) → is_number y ≡ false → made c y ≡ None
made_right c y bad = rw bad (go (is_number c))
  where
    go : (a : Bool) → cond (a && false) (Some (Make (digits_value 10 c) (digits_value 10 y))) None ≡ None
    go true = refl
    go false = refl

pub first_foreign : (y : Word) (rest : List Word) → IsForeign y → options_of (y ∷ rest) ≡ None
first_foreign y [] f = refl
first_foreign y (a ∷ []) f = refl
first_foreign y (a ∷ b ∷ []) f = refl
first_foreign y (a ∷ b ∷ c ∷ []) f = rw (f.seed, f.count) refl
first_foreign y (a ∷ b ∷ c ∷ d ∷ rest) f = refl

pub third_foreign : (b : Bool) (v y : Word) (rest : List Word) → IsForeign y → options_of (name_of b ∷ v ∷ y ∷ rest) ≡ None
third_foreign true v y [] f = refl
third_foreign true v y (c ∷ []) f = rw f.count refl
third_foreign true v y (c ∷ d ∷ rest) f = refl
third_foreign false v y [] f = refl
third_foreign false v y (c ∷ []) f = rw f.seed refl
third_foreign false v y (c ∷ d ∷ rest) f = refl

pub third_same : (b : Bool) (v : Word) (rest : List Word) → options_of (name_of b ∷ v ∷ name_of b ∷ rest) ≡ None
third_same true v [] = refl
third_same true v (c ∷ []) = refl
third_same true v (c ∷ d ∷ rest) = refl
third_same false v [] = refl
third_same false v (c ∷ []) = refl
third_same false v (c ∷ d ∷ rest) = refl

where_made : (t : Bool) (x y : Word) → made x y ≡ None → cond t (made x y) None ≡ None
where_made true x y e = e
where_made false x y e = refl

pub second_no_number : (b : Bool) (y : Word) (rest : List Word) → is_number y ≡ false → options_of (name_of b ∷ y ∷ rest) ≡ None
second_no_number true y [] bad = refl
second_no_number true y (a ∷ []) bad = refl
second_no_number true y (a ∷ c ∷ []) bad = where_made (bytes_eq a (codes "--count")) y c (made_left y c bad)
second_no_number true y (a ∷ c ∷ d ∷ rest) bad = refl
second_no_number false y [] bad = refl
second_no_number false y (a ∷ []) bad = refl
second_no_number false y (a ∷ c ∷ []) bad = where_made (bytes_eq a (codes "--seed")) c y (made_right c y bad)
second_no_number false y (a ∷ c ∷ d ∷ rest) bad = refl

pub second_name : (b d : Bool) (rest : List Word) → options_of (name_of b ∷ name_of d ∷ rest) ≡ None
second_name b d rest = second_no_number b (name_of d) rest (name_no_number d)

pub fourth_no_number : (b : Bool) (v y : Word) (rest : List Word) → is_number y ≡ false → options_of (name_of b ∷ v ∷ name_of (not b) ∷ y ∷ rest) ≡ None
fourth_no_number true v y [] bad = made_right v y bad
fourth_no_number true v y (d ∷ rest) bad = refl
fourth_no_number false v y [] bad = made_left y v bad
fourth_no_number false v y (d ∷ rest) bad = refl

pub fourth_name : (b d : Bool) (v : Word) (rest : List Word) → options_of (name_of b ∷ v ∷ name_of (not b) ∷ name_of d ∷ rest) ≡ None
fourth_name b d v rest = fourth_no_number b v (name_of d) rest (name_no_number d)

pub too_many : (a b c d y : Word) (rest : List Word) → options_of (a ∷ b ∷ c ∷ d ∷ (spread y ++ rest)) ≡ None
too_many a b c d y rest = go (begins_with_hyphens y && list_any is_equals_sign y)
  where
    go : (t : Bool) → options_of (a ∷ b ∷ c ∷ d ∷ (cond t (before_first is_equals_sign y ∷ after_first is_equals_sign y ∷ []) (y ∷ []) ++ rest)) ≡ None
    go true = refl
    go false = refl
