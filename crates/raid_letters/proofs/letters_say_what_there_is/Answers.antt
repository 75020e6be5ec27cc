use Rattle.raid_letters.proofs.letters_say_what_there_is.Goals as goal
use Rattle.raid_letters.proofs.Runs.{runs_say}

-- src/lib.rt:14:1
pub returns : goal.returns
returns c = runs_say
