use Rattle.std.proofs.Common.{◌≡◌, take}
use Rattle.raid_world.specs.Stands.{most_steps}
use Rattle.raid_world.proofs.times.most.Given as goal

-- of the journals so far none is longer
abbrev pub invariant-loop-journal : goal.invariant-loop-journal
invariant-loop-journal l = l.most ≡ most_steps (take l.journal-index l.journals)
