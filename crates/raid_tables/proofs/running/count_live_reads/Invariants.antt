use Rattle.std.proofs.Common.{◌≡◌, not, count_by, take}
use Rattle.raid_rules.specs.Entries.{is_read}
use Rattle.raid_tables.specs.Running.{marked, entry_of}
use Rattle.raid_tables.proofs.running.count_live_reads.Given as goal

-- those so far are counted
abbrev pub invariant-loop-start : goal.invariant-loop-start
invariant-loop-start l = l.count ≡ count_by (λ s. is_read (λ t x site. not (marked l.ended t)) (entry_of s.txn s.what)) (take l.start-index l.log)
