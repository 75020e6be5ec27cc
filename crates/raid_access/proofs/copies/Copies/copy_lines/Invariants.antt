use Rattle.std.proofs.Common.{◌≡◌, map, take}
use Rattle.raid_access.specs.Stock.{copies_from}
use Rattle.raid_access.proofs.Stored.{line}
use Rattle.raid_access.proofs.copies.Copies.copy_lines.Given as goal

-- the copies so far have been listed
abbrev pub invariant-loop-k : goal.invariant-loop-k
invariant-loop-k l = l.lines ≡ map (line l.self-inside.site) (copies_from 0 (take l.k l.self-inside.slots.items))
