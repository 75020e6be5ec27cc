-- A world that picks have led to.
use Rattle.std.specs.Prelude.{List}
use Rattle.raid_message.specs.declared.letter.Pick.{Pick}
use Rattle.raid_workload.specs.declared.workload.Workload.{Workload}
use Rattle.raid_boxed.specs.Boxed.{Says}
use Rattle.raid_steps.specs.World as steps
use Rattle.raid_world.specs.declared.world.World.{World}
use Rattle.raid_world.specs.Stands.{Stands, Runs}

-- some picks have made the world, and it may be picked from again
pub record Reached {V : Type 0} {D : V → Type 0} (say : Says V D) (w : Workload) (world : World V D) : Type 0 where
  pub runs : Runs say w world
  pub schedule : List Pick
  pub stands : Stands world (steps.run w schedule)
