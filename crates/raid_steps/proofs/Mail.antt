-- Short words for worked examples of steps and runs: letters, and picks.
use Rattle.std.specs.Prelude.{ℕ}
use Rattle.raid_message.specs.declared.letter.Message.{Message}
use Rattle.raid_message.specs.declared.letter.Letter.{Letter}
use Rattle.raid_message.specs.declared.letter.Pick.{Pick}
use Rattle.raid_message.specs.declared.letter.Step.{Step}

-- a letter between two sessions; no step looks at its clock
abbrev pub letter : ℕ → ℕ → Message → Letter
letter from to message = record { clock = 0; from = from; to = to; message = message }

-- a server takes the front letter from another
abbrev pub takes : ℕ → ℕ → Pick
takes server from = record { server = server; from = from }

-- a step in a journal: its clock, and whose letter it took
abbrev pub step : ℕ → ℕ → Step
step clock from = record { clock = clock; from = from }
