-- What the command `run` is to say, by the bytes that it reads.
use Rattle.std.specs.Prelude.{◌≡◌, ℕ, ◌+◌, ◌<◌, ◌≤◌, Bool, true, false, List, [], length, Option, Some, None}
use Rattle.raid_base.specs.declared.report.Report.{Report}
use Rattle.raid_tokens.specs.declared.fault.Fault.{Fault}
use Rattle.raid_message.specs.declared.letter.Pick.{Pick}
use Rattle.raid_workload.specs.declared.workload.Workload.{Workload}
use Rattle.raid_text.specs.Outcome.{Reads, IsFirstFault}
use Rattle.raid_steps.specs.World.{run, report, is_schedule, is_idle}
use Rattle.raid_legal.specs.Sound.{Sound}
use Rattle.raid_report.specs.Spelling.{print_of}
use Rattle.raid_report.specs.Brief.{brief_of}
use Rattle.raid_io.specs.Ends.{Took, IsAtEnd}
use Rattle.raid_io.specs.Faults.{Rose}
use Rattle.raid_app.specs.declared.answer.Answer.{Answer}
use Rattle.raid_app.specs.Change.{Change}
use Rattle.raid_app.specs.Lines.{too_long_line, fault_line}

-- the most bytes that a text may have
abbrev pub limit : ℕ
limit = 4194304

-- a text is to be written with this status, and there was no run; nothing is to be written, and there was no run
abbrev pub saying : ℕ → List ℕ → Answer
saying status text = record { status = status; text = Some text; schedule = [] }

abbrev pub silent : ℕ → Answer
silent status = record { status = status; text = None; schedule = [] }

-- what is written of a report: its summary, or its whole text
abbrev pub told : Bool → Workload → Report → List ℕ
told true w r = brief_of w r
told false w r = print_of w r

-- what is to be said of a workload whose servers were run by a schedule until no letter was left: what is written of its report, and that is
-- sound
pub data Runs (brief : Bool) (w : Workload) : Answer → Type 0 where
  idle : (schedule : List Pick) → is_schedule w schedule ≡ true → is_idle (run w schedule) ≡ true → Sound w (report w (run w schedule).servers) → Runs brief w (record { status = 0; text = Some (told brief w (report w (run w schedule).servers)); schedule = schedule })

-- what is to be said of a text: that it is too long; what its first fault is; or what is to be said of the workload that it says
pub data Says (brief : Bool) (text : List ℕ) : Answer → Type 0 where
  long : limit < length text → Says brief text (saying 3 too_long_line)
  faulty : (line : ℕ) (fault : Fault) → length text ≤ limit → IsFirstFault text line fault → Says brief text (saying 3 (fault_line line fault))
  reads : (w : Workload) (answer : Answer) → length text ≤ limit → Reads text w → Runs brief w answer → Says brief text answer

-- the text was read from the source: to its end, or one byte past the most that it may have
pub record HasRead (most : ℕ) (before after : Option (List ℕ)) (text : List ℕ) : Type 0 where
  pub took : Took text before after
  pub bound : length text ≤ most + 1
  pub whole : length text ≤ most → IsAtEnd after

-- what is to be said of the text that was read from the source; or nothing, as the source failed or memory was refused
pub data OfText (most : ℕ) (Of : List ℕ → Answer → Type 0) (source : Change) : Answer → Type 0 where
  read : (text : List ℕ) (answer : Answer) → HasRead most source.before source.after text → Of text answer → OfText most Of source answer
  unread : Rose source.faults source.faults_after → OfText most Of source (silent 4)
  no_memory : OfText most Of source (silent 6)
