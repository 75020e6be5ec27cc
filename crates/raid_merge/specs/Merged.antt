-- One list of the steps of all journals.
use Rattle.std.specs.Prelude.{◌≡◌, ◌⊎◌, ℕ, ◌<◌, ◌==◌, if◌then◌else◌, List, [], ◌∷◌, map, AllPairs, slice_index_or}
use Rattle.raid_message.specs.declared.letter.Pick.{Pick}
use Rattle.raid_message.specs.declared.letter.Step.{Step}

-- each step's clock is larger than those of the steps before it
abbrev pub IsRising : List Step → Type 0
IsRising journal = AllPairs (λ a b. a.clock < b.clock) journal

-- what stands under one server's number, in order
abbrev pub of : {X : Type 0} → ℕ → List (ℕ × X) → List X
of server [] = []
of server (x ∷ xs) = if x.0 == server then x.1 ∷ of server xs else of server xs

-- of two steps, each with its server's number, the one comes before the other: its clock is smaller, or their clocks are the same and its
-- server's number is smaller
abbrev pub ComesBefore : ℕ × Step → ℕ × Step → Type 0
ComesBefore a b = (a.1.clock < b.1.clock) ⊎ ((a.1.clock ≡ b.1.clock) × (a.0 < b.0))

-- the pick that lets a server take this step
abbrev pub pick_of : ℕ × Step → Pick
pick_of a = record { server = a.0; from = a.1.from }

-- the picks are all steps of the journals in one list, each journal's in their order, by clock and then by server number
pub record IsMerge (journals : List (List Step)) (picks : List Pick) : Type 0 where
  pub steps : List (ℕ × Step)
  pub each : (server : ℕ) → of server steps ≡ slice_index_or journals server []
  pub ordered : AllPairs ComesBefore steps
  pub picks_are : picks ≡ map pick_of steps
