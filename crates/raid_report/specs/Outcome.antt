-- What a text comes to, and what functions gave.
use Rattle.std.specs.Prelude.{◌≡◌, ℕ, ◌+◌, ◌==◌, Bool, true, false, ◌&&◌, if◌then◌else◌, List, [], ◌∷◌, length, Option, Some, None, Result, Ok, Err, ⊤}
use Rattle.raid_base.specs.declared.report.Report.{Report}
use Rattle.raid_workload.specs.declared.workload.Workload.{Workload}
use Rattle.raid_pieces.specs.Pieces.{pieces, full_lines, unfinished}
use Rattle.raid_report.specs.declared.error.LineError.{LineError}
use Rattle.raid_report.specs.declared.error.LineError.TheVariants.{Memory, Unfit}
use Rattle.raid_report.specs.declared.draft.Draft.{Draft}
use Rattle.raid_report.specs.declared.draft.Place.{Place}
use Rattle.raid_report.specs.declared.draft.Place.TheVariants.{Start, Entries, Tail, Over}
use Rattle.raid_report.specs.declared.reading.ReportRefused.{ReportRefused}
use Rattle.raid_report.specs.declared.reading.ReportRefused.TheVariants as refusals
use Rattle.raid_report.specs.Drafts.{opening, line_after, report_of}

-- what a function gave, seen by view, is what reading gives; or memory was refused
abbrev pub Gives : {X Y : Type 0} → (X → Y) → Result X LineError → Option Y → Type 0
Gives view (Ok x) read = read ≡ Some (view x)
Gives view (Err Memory) read = ⊤
Gives view (Err Unfit) read = read ≡ None

abbrev pub is_over : Place → Bool
is_over Start = false
is_over Entries = false
is_over Tail = false
is_over Over = true

-- at the end of the lines: the report, where all of it was there and nothing stands behind the last line feed
unfoldable pub ended : ℕ → Draft → Bool → Result Report ℕ
ended number d whole = if whole && is_over d.place then Ok (report_of d) else Err number

abbrev pub after_line : (Draft → Result Report ℕ) → ℕ → Option Draft → Result Report ℕ
after_line go number None = Err number
after_line go number (Some d) = go d

-- the report, or the number of the line at which reading stops
unfoldable pub outcome_from : Workload → ℕ → Draft → Bool → List (List ℕ) → Result Report ℕ
outcome_from w number d whole [] = ended number d whole
outcome_from w number d whole (line ∷ lines) = after_line (λ next. outcome_from w (number + 1) next whole lines) number (line_after w d (pieces 32 line))

unfoldable pub outcome_of : Workload → List ℕ → Result Report ℕ
outcome_of w text = outcome_from w 1 opening (length (unfinished text) == 0) (full_lines text)

-- what was answered is the outcome; or memory was refused
abbrev pub Answers : Result Report ReportRefused → Result Report ℕ → Type 0
Answers (Ok r) outcome = outcome ≡ Ok r
Answers (Err refusals.NoMemory) outcome = ⊤
Answers (Err (refusals.Line n)) outcome = outcome ≡ Err n

abbrev pub refusal_of : ℕ → LineError → ReportRefused
refusal_of number Memory = refusals.NoMemory
refusal_of number Unfit = refusals.Line number
