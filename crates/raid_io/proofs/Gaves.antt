-- One write after another.
use Rattle.std.proofs.Common.{◌≡◌, ℕ, ◌+◌, ◌-◌, List, ◌++◌, length, take, drop, Option, Some, None, append_assoc, ap, sym, subst, ◌∙◌, refl}
use Rattle.std.proofs.Math.Seq.{take-add}
use Rattle.std.proofs.lemmas.List.{take_rest}
use Rattle.std.specs.Option.{option_map}
use Rattle.raid_io.specs.Ends.{Gave}

twice : (xs ys zs : List ℕ) → zs ≡ xs ++ ys → (held : Option (List ℕ)) →
    option_map (λ h. h ++ ys) (option_map (λ h. h ++ xs) held) ≡ option_map (λ h. h ++ zs) held
twice xs ys zs e None = refl
twice xs ys zs e (Some h) = ap Some (append_assoc h xs ys ∙ ap (λ z. h ++ z) (sym e))

-- what was written so far, and then more of it
pub gave_more : (bytes : List ℕ) (n m : ℕ) (first second third : Option (List ℕ)) →
    Gave (take n bytes) first second → Gave (take m (drop n bytes)) second third → Gave (take (n + m) bytes) first third
gave_more bytes n m first second third e f =
    f ∙ ap (option_map (λ h. h ++ take m (drop n bytes))) e ∙ twice (take n bytes) (take m (drop n bytes)) (take (n + m) bytes) (take-add n m bytes) first

-- the same where the rest is a slice up to the end
pub gave_rest : (bytes : List ℕ) (n m : ℕ) (first second third : Option (List ℕ)) →
    Gave (take n bytes) first second → Gave (take m (take (length bytes - n) (drop n bytes))) second third → Gave (take (n + m) bytes) first third
gave_rest bytes n m first second third e f =
    gave_more bytes n m first second third e (subst (λ rest. Gave (take m rest) second third) (take_rest bytes n) f)
