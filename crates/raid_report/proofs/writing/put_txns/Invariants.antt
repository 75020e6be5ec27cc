use Rattle.std.proofs.Common.{◌≡◌, ◌++◌, drop, map}
use Rattle.std.specs.List.{AllByRecursion}
use Rattle.raid_report.specs.Known.{KnowsTxn}
use Rattle.raid_report.specs.Spelling.{txn_word, spaced}
use Rattle.raid_report.proofs.writing.put_txns.Given as goal

abbrev pub invariant-loop-txn : goal.invariant-loop-txn
invariant-loop-txn l = record {
  written : l.out ++ spaced (map (txn_word l.workload) (drop l.txn-index l.txns)) ≡ l.initial.out ++ spaced (map (txn_word l.workload) l.txns);
  known : AllByRecursion (KnowsTxn l.workload) (drop l.txn-index l.txns);
}
