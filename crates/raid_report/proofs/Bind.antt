-- Reading step by step.
use Rattle.std.proofs.Common.{◌≡◌, Bool, true, false, cond, List, [], ◌∷◌, Option, Some, None, refl}
use Rattle.std.specs.Prelude.{bytes_eq}
use Rattle.raid_pieces.specs.Reading.{◌>>=◌}
use Rattle.raid_pieces.proofs.Written.{same_bytes, bytes_same}
use Rattle.raid_report.specs.Spelling.{Word}
use Rattle.raid_report.specs.Next.{word_at, keyword_at, end_at}

-- the value of a step that gave one
pub bind_some : {A B : Type 0} (r : Option A) (f : A → Option B) (y : B) → (r >>= f) ≡ Some y → (x : A) × (r ≡ Some x) × (f x ≡ Some y)
bind_some (Some x) f y e = (x, refl, e)
bind_some None f y e = absurd cc

-- a test that was passed
pub test_some : {A : Type 0} (b : Bool) (r : Option A) (y : A) → cond b r None ≡ Some y → (b ≡ true) × (r ≡ Some y)
test_some true r y e = (refl, e)
test_some false r y e = absurd cc

abbrev fine : {A : Type 0} → A → Option A
fine x = Some x

pub some_is : {A : Type 0} (x y : A) → fine x ≡ fine y → x ≡ y
some_is x y e = cc

pub word_at_exact : (words : List Word) (x : Word × List Word) → word_at words ≡ Some x → words ≡ x.0 ∷ x.1
unfolding word_at
word_at_exact [] x e = absurd cc
word_at_exact (word ∷ words) x e = let s = some_is (word, words) x e in rw (← s) refl

pub keyword_exact : (expected : Word) (words rest : List Word) → keyword_at expected words ≡ Some rest → words ≡ expected ∷ rest
unfolding keyword_at
keyword_exact expected words rest e =
    let a = bind_some (word_at words) _ rest e in
    let b = test_some (bytes_eq a.0.0 expected) (Some a.0.1) rest a.2 in
    rw (word_at_exact words a.0 a.1, same_bytes a.0.0 expected b.0, some_is a.0.1 rest b.1) refl

pub end_exact : (words : List Word) (x : Unit {0}) → end_at words ≡ Some x → words ≡ []
unfolding end_at
end_exact [] x e = refl
end_exact (word ∷ words) x e = absurd cc

pub keyword_again : (word : Word) (words : List Word) → keyword_at word (word ∷ words) ≡ Some words
unfolding keyword_at word_at
keyword_again word words = rw (bytes_same word) refl
