use Rattle.std.proofs.Common.{◌≡◌, map, take}
use Rattle.raid_workload.specs.declared.workload.ItemLine.{ItemLine}
use Rattle.raid_workload.proofs.placing.placement.Given as goal

abbrev pub invariant-loop-line : goal.invariant-loop-line
invariant-loop-line l = l.placed ≡ map (λ (line : ItemLine). line.holders) (take l.line-index l.workload.items)
