use Rattle.std.proofs.Common.{◌≡◌, map, take}
use Rattle.raid_report.proofs.Items.{named}
use Rattle.raid_report.proofs.known.Known.new.Given as goal

abbrev pub invariant-loop-line : goal.invariant-loop-line
invariant-loop-line l = l.names ≡ map named (take l.line-index l.workload.items)
