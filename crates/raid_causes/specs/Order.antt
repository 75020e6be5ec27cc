-- Orders of the steps of all servers that agree with their clocks.
use Rattle.std.specs.Prelude.{◌≡◌, ℕ, ◌≤◌, List, [], map, AllPairs, slice_index_or}
use Rattle.raid_message.specs.declared.letter.Pick.{Pick}
use Rattle.raid_message.specs.declared.letter.Step.{Step}
use Rattle.raid_merge.specs.Merged.{of, pick_of}

-- the picks are all steps of the journals in one list, each journal's in their order, and clocks do not fall
pub record IsOrder (journals : List (List Step)) (picks : List Pick) : Type 0 where
  pub steps : List (ℕ × Step)
  pub each : (server : ℕ) → of server steps ≡ slice_index_or journals server []
  pub rising : AllPairs (λ a b. a.1.clock ≤ b.1.clock) steps
  pub picks_are : picks ≡ map pick_of steps
