-- What the program is to say, by its words.
use Rattle.std.specs.Prelude.{◌≡◌, ℕ, Bool, List, Some, None}
use Rattle.raid_workload.specs.declared.workload.Workload.{Workload}
use Rattle.raid_text.specs.Spelling.{print_of}
use Rattle.raid_generator.specs.Made.{IsMade}
use Rattle.raid_command.specs.declared.asked.Command.TheVariants.{Run, Make, Check, Advise}
use Rattle.raid_command.specs.Asked.{command_of}
use Rattle.raid_app.specs.declared.answer.Answer.{Answer}
use Rattle.raid_app.specs.Answer.{limit, saying, silent, OfText, Says}
use Rattle.raid_app.specs.Change.{Change}
use Rattle.raid_app.specs.Advise.{Advises}
use Rattle.raid_app.specs.Check.{Judges}
use Rattle.raid_app.specs.Judged.{most}
use Rattle.raid_app.specs.Lines.{usage_line}

-- what is to be said to these words: how the program is called, the workload that they make, what the command `run` says of a workload, or
-- the commands `check` and `advise` of a workload and a report; or nothing, as memory was refused. Words that are no command, and `make`, leave
-- the source as it was
pub data Asked (words : List (List ℕ)) (source : Change) : Answer → Type 0 where
  usage : command_of words ≡ None → source.after ≡ source.before → Asked words source (saying 2 usage_line)
  made : (seed count : ℕ) (w : Workload) → command_of words ≡ Some (Make seed count) → source.after ≡ source.before → IsMade seed count w → Asked words source (saying 0 (print_of w))
  ran : (brief : Bool) (answer : Answer) → command_of words ≡ Some (Run brief) → OfText limit (Says brief) source answer → Asked words source answer
  judged : (answer : Answer) → command_of words ≡ Some Check → OfText most Judges source answer → Asked words source answer
  advised : (last : ℕ) (answer : Answer) → command_of words ≡ Some (Advise last) → OfText most (Advises last) source answer → Asked words source answer
  no_memory : source.after ≡ source.before → Asked words source (silent 6)
