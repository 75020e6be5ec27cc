use Rattle.std.proofs.Common.{◌-◌, length}
use Rattle.raid_base.specs.Names.{holds}
use Rattle.raid_program.specs.Run.{given, Agree}
use Rattle.raid_program.specs.Course.{IsOf}
use Rattle.raid_seen.proofs.answers.finish.Given as goal

-- the run was given the table's values
abbrev pub invariant-loop-item : goal.invariant-loop-item
invariant-loop-item l = record { of : IsOf l.run l.program; agree : Agree (λ x. holds x l.run.reads) (given l.answers) (given l.run.reads) }

-- the values that may still be given
abbrev pub decreases-loop-item : goal.decreases-loop-item
decreases-loop-item l = 32 - length l.run.reads
