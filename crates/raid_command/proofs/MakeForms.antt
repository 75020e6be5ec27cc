-- What a word behind `make` can be.
use Rattle.std.proofs.Common.{◌≡◌, ◌∙◌, ◌∷◌, ℕ, Bool, [], true, false, refl, sym, ap, None, codes, subst}
use Rattle.std.specs.List.{before_first}
use Rattle.std.specs.Str.{bytes_eq}
use Rattle.clap.specs.Walk.{arg_by_long}
use Rattle.clap.specs.Simple.{Shape, built}
use Rattle.raid_command.specs.Asked.{Word, begins_with_hyphens, is_equals_sign, is_number, spread}
use Rattle.raid_command.specs.Options.{make_app}
use Rattle.raid_command.proofs.Split.{bytes_eq_sym}
use Rattle.raid_command.proofs.Walks.{HasLongsAlone, IsPlain, IsRefused}
use Rattle.raid_command.proofs.Longs.{refuses_long}
use Rattle.raid_command.proofs.Forms as forms
use Rattle.raid_command.proofs.MakeWords.{IsForeign, IsOut, hyphen_no_number, joined_of, name_of}

abbrev pub make_top : Shape
make_top = (built make_app).top

pub longs : HasLongsAlone make_top
longs = record { shorts = λ c. refl; positions = refl; leaf = refl }

pub data Form (w : Word) : Type 0 where
  joined : (b : Bool) (v : Word) → w ≡ joined_of b v → Form w
  named : (b : Bool) → w ≡ name_of b → Form w
  out : IsRefused make_top w → IsOut w → Form w
  plain : IsPlain make_top w → spread w ≡ w ∷ [] → IsForeign w → Form w

-- ---- words that begin with `--`

module _ (x : ℕ) (xs : Word) where
  abbrev t : Word
  t = x ∷ xs

  abbrev name : Word
  name = before_first is_equals_sign t

  foreign_name : bytes_eq (codes "seed") name ≡ false → bytes_eq (codes "count") name ≡ false → IsForeign (45 ∷ 45 ∷ name)
  foreign_name es ec = record { seed = bytes_eq_sym name (codes "seed") ∙ es; count = bytes_eq_sym name (codes "count") ∙ ec }

  unknown_out : bytes_eq (codes "seed") name ≡ false → bytes_eq (codes "count") name ≡ false → IsOut (45 ∷ 45 ∷ t)
  unknown_out es ec =
      let begins = forms.name_first t in
      record { first = 45 ∷ 45 ∷ name; more = begins.0; pieces = begins.1; foreign = foreign_name es ec; number = hyphen_no_number (45 ∷ name) }

  unknown : bytes_eq (codes "seed") name ≡ false → bytes_eq (codes "count") name ≡ false → arg_by_long make_top.rules name ≡ None
  unknown es ec = rw (es, ec) refl

  long_form : Form (45 ∷ 45 ∷ t)
  long_form = seeds (forms.naming (codes "seed") t)
    where
      counts : bytes_eq (codes "seed") name ≡ false → forms.Naming (codes "count") t → Form (45 ∷ 45 ∷ t)
      counts es (forms.joined v is) = joined false v (ap (λ (z : Word). 45 ∷ 45 ∷ z) is)
      counts es (forms.named is) = named false (ap (λ (z : Word). 45 ∷ 45 ∷ z) is)
      counts es (forms.unknown ec) = out (refuses_long make_top x xs (unknown es ec)) (unknown_out es ec)

      seeds : forms.Naming (codes "seed") t → Form (45 ∷ 45 ∷ t)
      seeds (forms.joined v is) = joined true v (ap (λ (z : Word). 45 ∷ 45 ∷ z) is)
      seeds (forms.named is) = named true (ap (λ (z : Word). 45 ∷ 45 ∷ z) is)
      seeds (forms.unknown es) = counts es (forms.naming (codes "count") t)

-- ---- all words

foreign : (w : Word) → begins_with_hyphens w ≡ false → IsForeign w
foreign w none = record { seed = forms.no_name w (codes "seed") none; count = forms.no_name w (codes "count") none }

pub form_of : (w : Word) → bytes_eq w (codes "--") ≡ false → Form w
form_of w e = go (forms.form_of make_top longs w e)
  where
    go : forms.Form make_top w → Form w
    go (forms.long x xs is) = subst Form (sym is) (long_form x xs)
    go (forms.refused u is r none) = out r (record { first = w; more = []; pieces = forms.stays w none; foreign = foreign w none; number = subst (λ y. is_number y ≡ false) (sym is) (hyphen_no_number u) })
    go (forms.plain p none) = plain p (forms.stays w none) (foreign w none)
