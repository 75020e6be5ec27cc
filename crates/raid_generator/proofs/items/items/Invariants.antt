use Rattle.std.proofs.Common.{◌≡◌, ◌++◌, ◌-◌, map}
use Rattle.raid_workload.specs.Parts.{count_from}
use Rattle.raid_generator.specs.Made.{item_line, item_lines}
use Rattle.raid_generator.proofs.items.items.Given as goal

abbrev pub invariant-loop-k : goal.invariant-loop-k
invariant-loop-k l = l.lines ++ map item_line (count_from l.k (1024 - l.k)) ≡ item_lines
