-- What rounds do to a list of members. T says what a turn does (before, letters taken, after), and settles what a settling does (before, whether a letter is left, after).
use Rattle.std.specs.Prelude.{◌≡◌, ℕ, zero, suc, ◌+◌, ◌<◌, ◌≤◌, List, [], ◌∷◌, Bool, true}

-- each member took one turn, and in all n letters were taken
abbrev pub Turned : {S : Type 0} → (S → ℕ → S → Type 0) → List S → ℕ → List S → Type 0
Turned T [] n [] = n ≡ 0
Turned T [] n (y ∷ ys) = ⊥
Turned T (x ∷ xs) n [] = ⊥
Turned T (x ∷ xs) n (y ∷ ys) = (k : ℕ) × (m : ℕ) × T x k y × Turned T xs m ys × (n ≡ k + m)

-- a turn that takes at most so many letters
abbrev pub Within : {S : Type 0} → (S → ℕ → S → Type 0) → ℕ → S → ℕ → S → Type 0
Within T letters x n y = T x n y × (n ≤ letters)

-- one round: each member takes one turn, some letter is taken, and then the links settle
pub record Round {S : Type 0} (T : S → ℕ → S → Type 0) (settles : List S → Bool → List S → Type 0) (before : List S) (more : Bool) (after : List S) : Type 0 where
  pub mid : List S
  pub count : ℕ
  pub turned : Turned T before count mid
  pub some : 0 < count
  pub settled : settles mid more after

-- the links are settled once, and then n rounds are made, each of them after a settling that left a letter
abbrev pub Reached : {S : Type 0} → (S → ℕ → S → Type 0) → (List S → Bool → List S → Type 0) → ℕ → List S → Bool → List S → Type 0
Reached {S} T settles zero before more after = settles before more after
Reached {S} T settles (suc n) before more after = (last : List S) × Reached T settles n before true last × Round T settles last more after
