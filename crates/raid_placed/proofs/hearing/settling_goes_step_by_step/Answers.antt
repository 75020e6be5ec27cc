use Rattle.raid_placed.proofs.Settled.{settle_done, settle_step, settled_is}
use Rattle.raid_placed.proofs.hearing.settling_goes_step_by_step.Goals as goal

pub returns-clause-done : goal.returns-clause-done
returns-clause-done c = settle_done

pub returns-clause-step : goal.returns-clause-step
returns-clause-step c = settle_step

pub returns-clause-one : goal.returns-clause-one
returns-clause-one c = settled_is
