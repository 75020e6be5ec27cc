use Rattle.std.proofs.Common.{◌≡◌, map, take}
use Rattle.raid_workload.specs.declared.workload.ItemLine.{ItemLine}
use Rattle.raid_world.proofs.telling.first_values.Given as goal

-- the values so far are those of the lines
abbrev pub invariant-loop-line : goal.invariant-loop-line
invariant-loop-line l = l.values.items ≡ map (λ (line : ItemLine). line.value) (take l.line-index l.line-items)
