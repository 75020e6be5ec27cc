-- The first that passes a test stands at a place before which none does.
use Rattle.std.proofs.Common.{Bool, ◌≡◌, ◌<◌, ℕ, zero, suc, true, List, [], ◌∷◌, find, drop, length, slice_get, get_or, ◌∙◌, ap, sym, arith}
use Rattle.std.proofs.lemmas.Grind.{common_steps}
use Rattle.raid_base.specs.declared.verdict.Kind.{Kind}
use Rattle.raid_base.specs.declared.verdict.Structure.{Structure}
use Rattle.raid_control.specs.Racked.{is_whole}

-- the one at the place is the first of what is left there
found_there : {S : Type 0} (test : S → Bool) (xs : List S) (k : ℕ) (s : S) → k < length xs → s ≡ get_or xs k s → test s ≡ true → find test (drop k xs) ≡ slice_get xs k
found_there test [] k s inside at passes = grind (arith, common_steps, inside)
found_there test (x ∷ xs) zero s inside at passes = let here : test x ≡ true = ap test (sym at) ∙ passes in grind (arith, common_steps, here)
found_there test (x ∷ xs) (suc k) s inside at passes = found_there test xs k s (omega (arith, inside)) at passes

pub found_at : {S : Type 0} (test : S → Bool) (xs : List S) (k : ℕ) (s : S) → find test xs ≡ find test (drop k xs) → k < length xs → s ≡ get_or xs k s → test s ≡ true →
    find test xs ≡ slice_get xs k
found_at test xs k s before inside at passes = before ∙ found_there test xs k s inside at passes

-- lists that are one are whole alike
pub same_whole : {S : Type 0} (once : S → Bool) (kind_of : S → Kind) (structure_of : S → Structure) (xs ys : List S) (r : Bool) →
    xs ≡ ys → r ≡ is_whole once kind_of structure_of xs → r ≡ is_whole once kind_of structure_of ys
same_whole once kind_of structure_of xs ys r same here = here ∙ ap (λ slots. is_whole once kind_of structure_of slots) same
