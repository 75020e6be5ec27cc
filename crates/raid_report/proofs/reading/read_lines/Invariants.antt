use Rattle.std.proofs.Common.{◌≡◌, ◌==◌, ◌+◌, ◌≤◌, length}
use Rattle.raid_pieces.specs.Pieces.{full_lines, unfinished}
use Rattle.raid_report.specs.Outcome.{outcome_from, outcome_of}
use Rattle.raid_report.proofs.reading.read_lines.Given as goal

abbrev pub invariant-loop-line : goal.invariant-loop-line
invariant-loop-line l = record {
  so_far : outcome_from l.workload l.number l.draft (length (unfinished l.rest) == 0) (full_lines l.rest) ≡ outcome_of l.workload l.text;
  numbers : l.number + length l.rest ≤ length l.text + 1;
}

abbrev pub decreases-loop-line : goal.decreases-loop-line
decreases-loop-line l = length l.rest
