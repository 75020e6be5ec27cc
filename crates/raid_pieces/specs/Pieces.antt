-- How a text falls into lines, a line into words, and a word into parts.
use Rattle.std.specs.Prelude.{ℕ, ◌==◌, List, [], ◌∷◌}
use Rattle.std.specs.List.{slice_split}

-- the pieces between the bytes that are the mark, one more than there are marks
unfoldable pub pieces : ℕ → List ℕ → List (List ℕ)
pieces mark bytes = slice_split (λ b. b == mark) bytes

-- all but the first
abbrev pub without_first : List (List ℕ) → List (List ℕ)
without_first [] = []
without_first (piece ∷ others) = others

-- all but the last
abbrev pub without_last : List (List ℕ) → List (List ℕ)
without_last [] = []
without_last (piece ∷ []) = []
without_last (piece ∷ next ∷ others) = piece ∷ without_last (next ∷ others)

-- the pieces behind the first mark
unfoldable pub pieces_behind : ℕ → List ℕ → List (List ℕ)
pieces_behind mark rest = without_first (pieces mark rest)

-- the lines of a text that end with a line feed
unfoldable pub full_lines : List ℕ → List (List ℕ)
full_lines text = without_last (pieces 10 text)

abbrev pub last_of : List (List ℕ) → List ℕ
last_of [] = []
last_of (piece ∷ []) = piece
last_of (piece ∷ next ∷ others) = last_of (next ∷ others)

-- what stands behind the last line feed
unfoldable pub unfinished : List ℕ → List ℕ
unfinished text = last_of (pieces 10 text)
