-- Which texts begin as the text of a report does, and which line is the first that doesn't fit.
use Rattle.std.specs.Prelude.{◌≡◌, ℕ, ◌<◌, ◌≤◌, List, [], ◌∷◌, ◌++◌, take, length, Result, Ok, Err, ⊤}
use Rattle.std.specs.List.{flat_map}
use Rattle.raid_base.specs.declared.report.Report.{Report}
use Rattle.raid_workload.specs.declared.workload.Workload.{Workload}
use Rattle.raid_pieces.specs.Pieces.{full_lines}
use Rattle.raid_report.specs.declared.reading.ReportRefused.{ReportRefused}
use Rattle.raid_report.specs.declared.reading.ReportRefused.TheVariants as refusals
use Rattle.raid_report.specs.Spelling.{print_of}
use Rattle.raid_report.specs.Known.{IsReportOf}
use Rattle.raid_report.specs.Typed.{IsHeld}

-- a line with its line feed
abbrev pub fed : List ℕ → List ℕ
fed line = line ++ 10 ∷ []

-- the first k lines of the text that end with line feeds
abbrev pub first_lines : ℕ → List ℕ → List ℕ
first_lines k text = flat_map fed (take k (full_lines text))

-- the text is the report's: it is of the workload, a program can hold it, and it is printed so
pub record IsTextOf (w : Workload) (text : List ℕ) (r : Report) : Type 0 where
  pub report : IsReportOf w r
  pub held : IsHeld r
  pub printed : text ≡ print_of w r

-- k lines of the text end with line feeds, and the first k begin the text of a report
pub record Begins (w : Workload) (text : List ℕ) (k : ℕ) : Type 0 where
  pub full : k ≤ length (full_lines text)
  pub report : Report
  pub rest : List ℕ
  pub begun : IsTextOf w (first_lines k text ++ rest) report

-- the text is no report's; n is the first line that doesn't fit, or one past the last where all fit
pub record IsFirstUnfit (w : Workload) (text : List ℕ) (n : ℕ) : Type 0 where
  pub no_text : (r : Report) → IsTextOf w text r → ⊥
  pub some : 1 ≤ n
  pub before : (k : ℕ) → k < n → Begins w text k
  pub here : Begins w text n → ⊥

-- the report was given, or memory was refused
abbrev pub IsGiven : Report → Result Report ReportRefused → Type 0
IsGiven r (Ok v) = v ≡ r
IsGiven r (Err refusals.NoMemory) = ⊤
IsGiven r (Err (refusals.Line n)) = ⊥

-- a refusal of the text names its first line that doesn't fit
abbrev pub IsRefusal : Workload → List ℕ → ReportRefused → Type 0
IsRefusal w text refusals.NoMemory = ⊤
IsRefusal w text (refusals.Line n) = IsFirstUnfit w text n
