use Rattle.std.proofs.Common.{List, subst, sym}
use Rattle.raid_base.specs.declared.entry.Entry.{Entry}
use Rattle.raid_rules.specs.History.{noted}
use Rattle.raid_force.specs.Force.{Holds}
use Rattle.raid_check.proofs.replay.Replay.new.Goals as goal

pub returns-clause-stands : goal.returns-clause-stands
returns-clause-stands g c = record {
  tables = c.in_ok-tables.ensures.of;
  force = subst (λ (h : List Entry). Holds (λ v. (g.dyn-1.0.entry v).1) c.args.workload.now c.new-2.result (noted h)) (sym c.in_ok-tables.ensures.start) c.new-2.ensures.holds;
  goes_on = c.new-2.ensures.goes_on;
}
