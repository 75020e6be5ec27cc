-- Clocks that stay at a greatest value, as those of the program do.
use Rattle.std.specs.Prelude.{ℕ, ◌+◌, max, min}
use Rattle.raid_workload.specs.declared.workload.Workload.{Workload}
use Rattle.raid_message.specs.declared.letter.Letter.{Letter}
use Rattle.raid_causes.specs.Histories.{Alone, hearing_at}

-- a server by itself after one more letter, where no clock goes beyond the limit
abbrev pub hearing_within : Workload → ℕ → ℕ → Alone → ℕ × Letter → Alone
hearing_within w limit server a taken = hearing_at w server (min (1 + max a.clock taken.1.clock) limit) a taken
