-- What the option of `advise` asks for, where it is wrong.
use Rattle.std.proofs.Common.{◌≡◌, ◌∷◌, ◌++◌, ◌&&◌, Bool, List, [], true, false, refl, None, cond, codes}
use Rattle.std.specs.List.{after_first, before_first, list_any}
use Rattle.std.specs.Str.{bytes_eq}
use Rattle.raid_command.specs.Asked.{Word, advised, begins_with_hyphens, is_equals_sign, is_number, last_of, spread}

abbrev pub name : Word
name = codes "--last"

pub value_no_number : (y : Word) → is_number y ≡ false → advised y ≡ None
value_no_number y bad = rw bad refl

pub no_value : (y : Word) (rest : List Word) → is_number y ≡ false → last_of (name ∷ y ∷ rest) ≡ None
no_value y [] bad = value_no_number y bad
no_value y (a ∷ rest) bad = refl

pub foreign_first : (y : Word) (rest : List Word) → bytes_eq y name ≡ false → last_of (y ∷ rest) ≡ None
foreign_first y [] f = refl
foreign_first y (a ∷ []) f = rw f refl
foreign_first y (a ∷ b ∷ rest) f = refl

pub too_many : (a b y : Word) (rest : List Word) → last_of (a ∷ b ∷ (spread y ++ rest)) ≡ None
too_many a b y rest = go (begins_with_hyphens y && list_any is_equals_sign y)
  where
    go : (t : Bool) → last_of (a ∷ b ∷ (cond t (before_first is_equals_sign y ∷ after_first is_equals_sign y ∷ []) (y ∷ []) ++ rest)) ≡ None
    go true = refl
    go false = refl
