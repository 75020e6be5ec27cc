use Rattle.std.proofs.Common.{◌≡◌, ◌+◌, ◌≤◌, drop, count_by}
use Rattle.raid_report.specs.Brief.{is_end, ends}
use Rattle.raid_report.proofs.summary.ends.Given as goal

abbrev pub invariant-loop-entry : goal.invariant-loop-entry
invariant-loop-entry l = record { few : l.ended ≤ l.entry-index; counted : l.ended + count_by is_end (drop l.entry-index l.entries) ≡ ends l.entries }
