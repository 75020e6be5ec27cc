-- What a call takes from a source and puts into a sink. What is left of a source, and what a sink holds, is told or not (None).
use Rattle.std.specs.Prelude.{◌≡◌, ℕ, ◌≤◌, ◌<◌, ◌++◌, List, [], length, take, Option, option_map, Result, IfOk}

-- these bytes were taken from the front of what was left
abbrev pub Took : List ℕ → Option (List ℕ) → Option (List ℕ) → Type 0
Took bytes before after = before ≡ option_map (λ rest. bytes ++ rest) after

-- these bytes were put behind what was held
abbrev pub Gave : List ℕ → Option (List ℕ) → Option (List ℕ) → Type 0
Gave bytes before after = after ≡ option_map (λ held. held ++ bytes) before

-- nothing is left, where it is told
abbrev pub IsAtEnd : Option (List ℕ) → Type 0
IsAtEnd left = left ≡ option_map (λ rest. []) left

-- a front part of these bytes was put behind what was held
pub record GavePart (bytes : List ℕ) (before after : Option (List ℕ)) : Type 0 where
  pub count : ℕ
  pub gave : Gave (take count bytes) before after
