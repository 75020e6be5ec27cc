use Rattle.std.proofs.Common.{◌≡◌, take}
use Rattle.raid_control.proofs.carry.CarryDuplicate.copy.Given as goal

-- what was copied is the front of the carry
abbrev pub invariant-loop-noted : goal.invariant-loop-noted
invariant-loop-noted l = l.copied ≡ take l.noted-index l.noted-items
