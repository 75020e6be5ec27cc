use Rattle.raid_idle.proofs.Finished.{sound}
use Rattle.raid_idle.proofs.idle_runs_are_sound.Goals as goal

-- src/lib.rt
pub returns : goal.returns
returns c = sound
