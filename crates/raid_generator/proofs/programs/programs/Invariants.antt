use Rattle.std.proofs.Common.{◌≡◌, ◌++◌, ◌-◌}
use Rattle.raid_generator.specs.Made.{programs_from}
use Rattle.raid_generator.proofs.programs.programs.Given as goal

abbrev pub invariant-loop-k : goal.invariant-loop-k
invariant-loop-k l = l.programs ++ programs_from l.draws.state l.k (l.count - l.k) ≡ programs_from l.seed 0 l.count
