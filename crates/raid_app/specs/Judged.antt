-- What is to be said of an input, a workload's text with a report's behind it, where something is told of a sound report.
use Rattle.std.specs.Prelude.{◌≡◌, ℕ, ◌<◌, ◌≤◌, Bool, true, false, List, length}
use Rattle.raid_base.specs.declared.report.Report.{Report}
use Rattle.raid_tokens.specs.declared.fault.Fault.{Fault}
use Rattle.raid_workload.specs.declared.workload.Workload.{Workload}
use Rattle.raid_text.specs.Outcome.{Reads, IsFirstFault}
use Rattle.raid_report.specs.Beginnings.{IsTextOf, IsFirstUnfit}
use Rattle.raid_check.specs.declared.finding.Finding.{Finding}
use Rattle.raid_check.specs.declared.finding.Finding.TheVariants.{Sound, Legal, Serial, Copies, Finished}
use Rattle.raid_check.specs.Finding.{Finds}
use Rattle.raid_app.specs.declared.answer.Answer.{Answer}
use Rattle.raid_app.specs.Answer.{saying}
use Rattle.raid_app.specs.Input.{workload_text, report_text}
use Rattle.raid_app.specs.Lines.{too_long_line, fault_line, unfit_line, finding_line}

-- the most bytes that a workload and a report may have together
abbrev pub most : ℕ
most = 16777216

-- what is told of a workload and a sound report of it
abbrev pub Telling : Type 0
Telling = Workload → Report → List ℕ

-- the finding is that all is right
abbrev pub is_sound : Finding → Bool
is_sound Sound = true
is_sound (Legal n) = false
is_sound Serial = false
is_sound Copies = false
is_sound Finished = false

-- what is to be said of a report's text: which line is the first that doesn't fit; what fails first of a report that isn't sound; or what is
-- told of one that is
pub data JudgesReport (told : Telling) (w : Workload) (text : List ℕ) : Answer → Type 0 where
  unfit : (line : ℕ) → IsFirstUnfit w text line → JudgesReport told w text (saying 3 (unfit_line line))
  unsound : (r : Report) (finding : Finding) → IsTextOf w text r → Finds w r finding → is_sound finding ≡ false → JudgesReport told w text (saying 8 (finding_line finding))
  sound : (r : Report) → IsTextOf w text r → Finds w r Sound → JudgesReport told w text (saying 0 (told w r))

-- what is to be said of a workload's text and a report's: what the first fault of the former is; or what is to be said of the latter
pub data JudgesTexts (told : Telling) (text report : List ℕ) : Answer → Type 0 where
  faulty : (line : ℕ) (fault : Fault) → IsFirstFault text line fault → JudgesTexts told text report (saying 3 (fault_line line fault))
  reads : (w : Workload) (answer : Answer) → Reads text w → JudgesReport told w report answer → JudgesTexts told text report answer

-- what is to be said of an input: that it is too long; or what is to be said of its two texts
pub data JudgesInput (told : Telling) (input : List ℕ) : Answer → Type 0 where
  long : most < length input → JudgesInput told input (saying 3 too_long_line)
  short : (answer : Answer) → length input ≤ most → JudgesTexts told (workload_text input) (report_text input) answer → JudgesInput told input answer
