use Rattle.std.proofs.Common.{◌≡◌, map, take}
use Rattle.raid_base.specs.declared.report.CopyLine.{CopyLine}
use Rattle.raid_check.proofs.copies.told.Given as goal

-- the copies so far have been told
abbrev pub invariant-loop-copy : goal.invariant-loop-copy
invariant-loop-copy l = l.told.items ≡ map (λ (c : CopyLine). (c.site, c.item)) (take l.copy-index l.copies)
