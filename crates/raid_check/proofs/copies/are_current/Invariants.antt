use Rattle.std.proofs.Common.{◌≡◌, drop}
use Rattle.std.specs.List.{list_all}
use Rattle.raid_rules.specs.History.{noted}
use Rattle.raid_check.specs.Replay.{is_current}
use Rattle.raid_check.proofs.copies.are_current.Given as goal

-- the copies so far are current
abbrev pub invariant-loop-copy : goal.invariant-loop-copy
invariant-loop-copy l = list_all (is_current l.workload (noted l.tables.history) l.finals) (drop l.copy-index l.copies) ≡ list_all (is_current l.workload (noted l.tables.history) l.finals) l.copies
