-- How a call of the program ends.
use Rattle.std.specs.Prelude.{◌≡◌, ℕ, List, Option, Some, None}
use Rattle.raid_message.specs.declared.letter.Pick.{Pick}
use Rattle.raid_io.specs.Ends.{Gave, GavePart}
use Rattle.raid_io.specs.Faults.{Rose}
use Rattle.raid_app.specs.declared.answer.Answer.{Answer}
use Rattle.raid_app.specs.Asked.{Asked}
use Rattle.raid_app.specs.Change.{Change}

-- a text was written whole, with the status that goes with it; or the sink failed, and a front part was written
pub data IsWritten (status : ℕ) (text : List ℕ) (sink : Change) : ℕ → Type 0 where
  whole : Gave text sink.before sink.after → IsWritten status text sink status
  part : GavePart text sink.before sink.after → Rose sink.faults sink.faults_after → IsWritten status text sink 5

-- the text, if there is one, was written; where there is none, nothing was
abbrev pub IsSaid : ℕ → Option (List ℕ) → Change → ℕ → Type 0
IsSaid wanted (Some text) sink status = IsWritten wanted text sink status
IsSaid wanted None sink status = (sink.after ≡ sink.before) × (status ≡ wanted)

-- the answer was said
abbrev pub Said : Answer → Change → ℕ → Type 0
Said answer sink status = IsSaid answer.status answer.text sink status

-- a call with these words ends so: there is an answer to be said, it was said, and the schedule is that of its run
pub record Ends (words : List (List ℕ)) (source sink : Change) (schedule : List Pick) (status : ℕ) : Type 0 where
  pub answer : Answer
  pub asked : Asked words source answer
  pub said : Said answer sink status
  pub picked : schedule ≡ answer.schedule
