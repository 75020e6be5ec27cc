use Rattle.std.proofs.Common.{◌≡◌, ◌++◌, ◌+◌, drop}
use Rattle.std.specs.List.{AllByRecursion}
use Rattle.raid_report.specs.Known.{IsEntryOf}
use Rattle.raid_report.specs.Spelling.{entry_lines, text_of}
use Rattle.raid_report.proofs.writing.put_entries.Given as goal

abbrev pub invariant-loop-entry : goal.invariant-loop-entry
invariant-loop-entry l = record {
  number : l.number ≡ l.entry-index + 1;
  written : l.out ++ text_of (entry_lines l.workload l.number (drop l.entry-index l.entries)) ≡ l.initial.out ++ text_of (entry_lines l.workload 1 l.entries);
  known : AllByRecursion (IsEntryOf l.workload) (drop l.entry-index l.entries);
}
