-- A workload's text and a report's, in one input.
use Rattle.std.specs.Prelude.{ℕ, ◌-◌, ◌==◌, Bool, true, false, ◌&&◌, ◌||◌, if◌then◌else◌, List, [], ◌∷◌, length, take, codes}
use Rattle.std.specs.Str.{bytes_eq}
use Rattle.raid_pieces.specs.Pieces.{pieces}

-- a report begins with this line
abbrev pub is_head : List ℕ → Bool
is_head line = bytes_eq line (codes "report 1") || bytes_eq line (codes "report 2")

-- a report begins with the first of these lines
abbrev pub begins_report : List (List ℕ) → Bool
begins_report [] = false
begins_report (line ∷ lines) = is_head line

-- what stands from the first line on that a report begins with, if there is one; whether a line begins with the first byte is told
abbrev pub report_from : Bool → List ℕ → List ℕ
report_from at_line [] = []
report_from at_line (b ∷ bytes) = if at_line && begins_report (pieces 10 (b ∷ bytes)) then b ∷ bytes else report_from (b == 10) bytes

-- the report's text in an input; and the workload's, which is what stands before it
abbrev pub report_text : List ℕ → List ℕ
report_text input = report_from true input

abbrev pub workload_text : List ℕ → List ℕ
workload_text input = take (length input - length (report_text input)) input
