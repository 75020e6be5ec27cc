use Rattle.std.proofs.Common.{◌≡◌, ◌++◌, drop, map}
use Rattle.std.specs.List.{AllByRecursion}
use Rattle.raid_report.specs.Known.{KnowsPair}
use Rattle.raid_report.specs.Spelling.{final_words, text_of}
use Rattle.raid_report.proofs.writing.put_finals.Given as goal

abbrev pub invariant-loop-item : goal.invariant-loop-item
invariant-loop-item l = record {
  written : l.out ++ text_of (map (final_words l.workload) (drop l.item-index l.finals)) ≡ l.initial.out ++ text_of (map (final_words l.workload) l.finals);
  known : AllByRecursion (KnowsPair l.workload) (drop l.item-index l.finals);
}
