-- What sites ask the sequencer, and that the workload has what is named.
use Rattle.std.specs.Prelude.{◌≡◌, ℕ, ◌+◌, true, ⊤}
use Rattle.std.specs.List.{AllByRecursion}
use Rattle.raid_workload.specs.declared.workload.Workload.{Workload}
use Rattle.raid_message.specs.declared.letter.Message.{Message}
use Rattle.raid_message.specs.declared.letter.Message.TheVariants as letters
use Rattle.raid_message.specs.declared.letter.Letter.{Letter}
use Rattle.raid_steps.specs.Fits.{is_to_sequencer}
use Rattle.raid_steps.specs.World.{World, link}

-- the message, if it asks for what a transaction does next, fits the workload
abbrev pub AskFits : Workload → Message → Type 0
AskFits w (letters.Begin t) = is_to_sequencer w (letters.Begin t) ≡ true
AskFits w (letters.ReadAsk t ask x) = is_to_sequencer w (letters.ReadAsk t ask x) ≡ true
AskFits w (letters.CommitAsk t request) = is_to_sequencer w (letters.CommitAsk t request) ≡ true
AskFits w (letters.EndAsk t cause reads) = is_to_sequencer w (letters.EndAsk t cause reads) ≡ true
AskFits w other = ⊤

-- so do all that are on their way from the site at a place, counted from 0
abbrev pub AsksFit : Workload → World → Type 0
AsksFit w state = (k : ℕ) → AllByRecursion (λ (l : Letter). AskFits w l.message) (link state.links 1 (k + 2))
