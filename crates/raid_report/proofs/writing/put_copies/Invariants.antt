use Rattle.std.proofs.Common.{◌≡◌, ◌++◌, drop, map}
use Rattle.std.specs.List.{AllByRecursion}
use Rattle.raid_report.specs.Known.{KnowsCopy}
use Rattle.raid_report.specs.Spelling.{copy_words, text_of}
use Rattle.raid_report.proofs.writing.put_copies.Given as goal

abbrev pub invariant-loop-copy : goal.invariant-loop-copy
invariant-loop-copy l = record {
  written : l.out ++ text_of (map (copy_words l.workload) (drop l.copy-index l.copies)) ≡ l.initial.out ++ text_of (map (copy_words l.workload) l.copies);
  known : AllByRecursion (KnowsCopy l.workload) (drop l.copy-index l.copies);
}
