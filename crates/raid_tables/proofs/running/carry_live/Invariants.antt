use Rattle.std.proofs.Common.{◌≡◌, not, map, filter, take}
use Rattle.raid_tables.specs.Running.{marked, noted_of}
use Rattle.raid_tables.proofs.running.carry_live.Given as goal

-- those so far are carried
abbrev pub invariant-loop-start : goal.invariant-loop-start
invariant-loop-start l = l.carry ≡ map noted_of (filter (λ s. not (marked l.ended s.txn)) (take l.start-index l.log))
