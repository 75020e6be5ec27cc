-- Lists whose elements all pass a test.
use Rattle.std.proofs.Common.{◌≡◌, ℕ, Bool, true, List, Some, slice_get, arith}
use Rattle.std.specs.List.{list_all}
use Rattle.std.proofs.lemmas.Grind.{common_steps}
use Rattle.std.proofs.lemmas.Option.{slice_get_within, get_or_from_slice_get}
use Rattle.std.proofs.lemmas.List.Folds.{list_all_at}

-- so each one does
pub all_at : {X : Type 0} (test : X → Bool) (xs : List X) (k : ℕ) (x : X) → list_all test xs ≡ true → slice_get xs k ≡ Some x → test x ≡ true
all_at test xs k x all here =
    grind (arith, common_steps, list_all_at test xs k x (slice_get_within xs k x here), get_or_from_slice_get xs k x x here)
