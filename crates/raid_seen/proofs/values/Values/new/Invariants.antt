use Rattle.std.proofs.Common.{◌≡◌, map, take}
use Rattle.raid_workload.specs.declared.workload.ItemLine.{ItemLine}
use Rattle.raid_seen.proofs.values.Values.new.Given as goal

-- the values so far
abbrev pub invariant-loop-line : goal.invariant-loop-line
invariant-loop-line l = l.held.items ≡ map (λ (line : ItemLine). line.value) (take l.line-index l.line-items)
