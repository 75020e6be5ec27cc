use Rattle.std.proofs.Common.{◌≡◌, ◌++◌, drop, map}
use Rattle.std.specs.List.{AllByRecursion}
use Rattle.raid_report.specs.Known.{KnowsPair}
use Rattle.raid_report.specs.Spelling.{pair_part, behind_commas}
use Rattle.raid_report.proofs.put.put_more_pairs.Given as goal

abbrev pub invariant-loop-item : goal.invariant-loop-item
invariant-loop-item l = record { written : l.out ++ behind_commas (map (pair_part l.workload) (drop l.item-index l.pairs)) ≡ l.initial.out ++ behind_commas (map (pair_part l.workload) l.pairs); known : AllByRecursion (KnowsPair l.workload) (drop l.item-index l.pairs) }
