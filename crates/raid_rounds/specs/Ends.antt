-- How rounds end.
use Rattle.std.specs.Prelude.{ℕ, ◌≤◌, List, Bool, true, false}
use Rattle.raid_rounds.specs.Rounds.{Reached}
use Rattle.raid_rounds.specs.declared.run.Rounds.{Rounds}
use Rattle.raid_rounds.specs.declared.run.Rounds.TheVariants.{Idle, Spent}

-- Idle after some number of rounds, `most` at most, the last settling having left no letter. Spent after `most` rounds, each settling having left one
abbrev pub Ended : {S : Type 0} → (S → ℕ → S → Type 0) → (List S → Bool → List S → Type 0) → ℕ → List S → Rounds → List S → Type 0
Ended T settles most before Idle after = (n : ℕ) × (n ≤ most) × Reached T settles n before false after
Ended T settles most before Spent after = Reached T settles most before true after
