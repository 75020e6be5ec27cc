use Rattle.std.proofs.Common.{◌≡◌, ◌++◌}
use Rattle.raid_report.specs.Known.{places}
use Rattle.raid_report.proofs.Slots.{places_from}
use Rattle.raid_report.proofs.reading.places.Given as goal

abbrev pub invariant-loop-before : goal.invariant-loop-before
invariant-loop-before l = l.slots ++ places_from l.workload l.before ≡ places l.workload
