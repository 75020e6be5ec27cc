use Rattle.std.proofs.Common.{◌≡◌, drop}
use Rattle.raid_app.specs.Input.{report_from, report_text}
use Rattle.raid_app.proofs.input.report_start.Given as goal

-- the report stands in what is left
abbrev pub invariant-loop-place : goal.invariant-loop-place
invariant-loop-place l = report_from l.is_at_line (drop l.place l.input) ≡ report_text l.input
