-- What rounds rest on, of the turns and settlings of nodes.
use Rattle.std.specs.Prelude.{◌≡◌, ℕ, ◌+◌, ◌<◌, ◌⊎◌, List, [], ◌∷◌, ◌++◌, map, All, Bool, true, false}

-- the fact holds of some member
abbrev pub SomeOf : {S : Type 0} → (S → Type 0) → List S → Type 0
SomeOf K [] = ⊥
SomeOf K (x ∷ xs) = K x ⊎ SomeOf K xs

-- what holds of the meanings of any `Node`, at one plan
pub record NodeLaws {S : Type 0} (T : S → ℕ → S → Type 0) (settles : List S → Bool → List S → Type 0) (whole : List S → Type 0) (own : S → Type 0) (some_left : List S → Type 0) (has_known : S → Type 0) (taken : S → ℕ) : Type 0 where
  -- a turn raises the count by what it took, and takes nothing only where no letter was known
  pub turn_counts : (x : S) (n : ℕ) (y : S) → T x n y → taken y ≡ taken x + n
  pub turn_takes : (x : S) (n : ℕ) (y : S) → T x n y → has_known x → 0 < n
  -- a turn keeps the plan the node's own, and the members one world
  pub turn_own : (x : S) (n : ℕ) (y : S) → T x n y → own x → own y
  pub turn_whole : (xs : List S) (x : S) (zs : List S) (n : ℕ) (y : S) → T x n y → whole (xs ++ x ∷ zs) → whole (xs ++ y ∷ zs)
  -- a settling takes no letter, and keeps the plan each member's own, and the members one world
  pub settle_taken : (xs : List S) (b : Bool) (ys : List S) → settles xs b ys → map taken ys ≡ map taken xs
  pub settle_own : (xs : List S) (b : Bool) (ys : List S) → settles xs b ys → All own xs → All own ys
  pub settle_whole : (xs : List S) (b : Bool) (ys : List S) → settles xs b ys → whole xs → whole ys
  -- its answer says whether a link holds a letter; where one does, some member has a known one
  pub settle_some : (xs : List S) (ys : List S) → settles xs true ys → whole xs → some_left ys × SomeOf has_known ys
  pub settle_none : (xs : List S) (ys : List S) → settles xs false ys → whole xs → some_left ys → ⊥
