-- Rows of values by number.
use Rattle.std.specs.Prelude.{ℕ, ◌<◌, List, [], length, slice_get, IfSome, Vec, vec_len, vec_capacity}
use Rattle.std.specs.Option.{option_map_or}
use Rattle.std.specs.declared.alloc.Global.{Global}

-- the values of a row; a row past the end is empty
abbrev pub row_of : {T : Type 0} → List (Vec T Global) → ℕ → List T
row_of rows k = option_map_or (λ r. r.items) (slice_get rows k) []

-- the row is there, and has room for one more value
pub record HasRoom {T : Type 0} (rows : List (Vec T Global)) (k : ℕ) : Type 0 where
  pub there : k < length rows
  pub room : IfSome (slice_get rows k) (λ r. vec_len r < vec_capacity r)
