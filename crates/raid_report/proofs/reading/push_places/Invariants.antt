use Rattle.std.proofs.Common.{◌≡◌, ◌++◌, map}
use Rattle.raid_report.specs.Known.{held_at}
use Rattle.raid_report.proofs.Slots.{held_from}
use Rattle.raid_report.proofs.reading.push_places.Given as goal

abbrev pub invariant-loop-line : goal.invariant-loop-line
invariant-loop-line l = record {
  place : l.place ≡ l.line-index;
  pushed : l.slots ++ held_from l.workload l.site l.line-index ≡ l.initial.slots ++ map (λ x. (l.site, x)) (held_at l.workload l.site);
}
