use Rattle.std.proofs.Common.{◌≡◌, ◌-◌, length, None}
use Rattle.raid_program.specs.Course.{IsOf}
use Rattle.raid_program.proofs.run.Run.next.Given as goal

-- the run is one of the program, and was given and asks for nothing
abbrev pub invariant-loop-self : goal.invariant-loop-self
invariant-loop-self l = record { of : IsOf l.self l.program; reads : l.self.reads ≡ l.fn.self.reads; asked : l.self.asked ≡ None }

-- the statements that are left
abbrev pub decreases-loop-self : goal.decreases-loop-self
decreases-loop-self l = length l.program - l.self.place
