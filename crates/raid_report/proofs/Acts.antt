-- The act that a cause has names only what the workload has.
use Rattle.raid_base.specs.declared.entry.Act.{Act}
use Rattle.raid_base.specs.declared.entry.Act.TheVariants as acts
use Rattle.raid_base.specs.declared.entry.Cause.{Cause}
use Rattle.raid_base.specs.declared.entry.Cause.TheVariants as causes
use Rattle.raid_workload.specs.declared.workload.Workload.{Workload}
use Rattle.raid_report.specs.Known.{KnowsAct, IsRefused, IsEnded, IsNothing, IsActOf}

refused_known : (w : Workload) (act : Act) → IsRefused w act → KnowsAct w act
refused_known w acts.Nothing h = absurd h
refused_known w (acts.Ended reads) h = absurd h
refused_known w (acts.Read x) h = h
refused_known w (acts.Commit r) h = h

ended_known : (w : Workload) (act : Act) → IsEnded w act → KnowsAct w act
ended_known w acts.Nothing h = absurd h
ended_known w (acts.Ended reads) h = h
ended_known w (acts.Read x) h = absurd h
ended_known w (acts.Commit r) h = absurd h

nothing_known : (w : Workload) (act : Act) → IsNothing act → KnowsAct w act
nothing_known w acts.Nothing h = h
nothing_known w (acts.Ended reads) h = absurd h
nothing_known w (acts.Read x) h = absurd h
nothing_known w (acts.Commit r) h = absurd h

pub act_known : (w : Workload) (cause : Cause) (act : Act) → IsActOf w cause act → KnowsAct w act
act_known w causes.Own act h = ended_known w act h
act_known w causes.Overflow act h = ended_known w act h
act_known w causes.Late act h = refused_known w act h
act_known w causes.Invalid act h = refused_known w act h
act_known w causes.Cycle act h = refused_known w act h
act_known w causes.Deadlock act h = refused_known w act h
act_known w (causes.SwitchOff k) act h = nothing_known w act h
act_known w causes.HomeDown act h = nothing_known w act h
act_known w (causes.Stale v) act h = refused_known w act h.1
act_known w causes.NoCopy act h = refused_known w act h
