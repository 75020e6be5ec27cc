use Rattle.std.proofs.Common.{◌≡◌, ◌+◌, ◌≤◌, length}
use Rattle.raid_scan.specs.Words.{words_by_line}
use Rattle.raid_text.specs.Names.{names_of}
use Rattle.raid_text.specs.Outcome.{outcome_from, outcome_of}
use Rattle.raid_text.proofs.Leads.{IsState}
use Rattle.raid_text.proofs.reading.read_lines.Given as goal

abbrev pub invariant-loop-line : goal.invariant-loop-line
invariant-loop-line l = record { so_far : outcome_from l.number l.state (words_by_line l.rest) ≡ outcome_of l.text; numbers : l.number + length l.rest ≤ length l.text + 1; kept : IsState l.state; names : l.names ≡ names_of l.state.items }

abbrev pub decreases-loop-line : goal.decreases-loop-line
decreases-loop-line l = length l.rest
