-- Reading that may find nothing.
use Rattle.std.specs.Prelude.{◌≡◌, Option, Some, None, Result, Ok, Err}
use Rattle.raid_pieces.specs.declared.unfit.Unfit.{Unfit}

infixl 10 ◌>>=◌
abbrev pub ◌>>=◌ : {A B : Type 0} → Option A → (A → Option B) → Option B
(Some x) >>= f = f x
None >>= f = None

-- what a function gave, seen by view, is what reading gives
abbrev pub Tells : {X Y : Type 0} → (X → Y) → Result X Unfit → Option Y → Type 0
Tells view (Ok x) read = read ≡ Some (view x)
Tells view (Err unfit) read = read ≡ None
