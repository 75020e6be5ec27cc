use Rattle.std.proofs.Common.{refl, ◌∙◌}
use Rattle.raid_switch.proofs.Together.{on_ok}
use Rattle.raid_force.proofs.Told.{quiet, other_done, on_alone, on_fits, on_serves, on_done, end_joint, end_done}
use Rattle.raid_force.proofs.force.Force.place.Goals as goal

pub returns-in_err-tell-in-SwitchOn-clause-racked : goal.returns-in_err-tell-in-SwitchOn-clause-racked
returns-in_err-tell-in-SwitchOn-clause-racked g c = c.tell.ensures.racked _ c.requires.racked

pub turn-requires-clause-alone : goal.turn-requires-clause-alone
turn-requires-clause-alone g c = on_alone (λ v. (g.dyn-1.0.entry v).1) c.args.workload.now c.args.history.now c.args.entry.now c.args.at c.args.stamp c.args.self.now c.tell.new.self c.requires.placed c.requires.placeable c.requires.number c.requires.stamp c.requires.in_step c.in_ok-tell-in-SwitchOn.ensures.ok c.in-SwitchOn.switch c.in-SwitchOn.kind c.in-SwitchOn.method c.in-SwitchOn.is

pub turn-requires-clause-some : goal.turn-requires-clause-some
turn-requires-clause-some g c = on_serves (λ v. (g.dyn-1.0.entry v).1) c.args.workload.now c.args.history.now c.args.entry.now c.args.at c.args.stamp c.args.self.now c.tell.new.self c.requires.placed c.requires.placeable c.requires.number c.requires.stamp c.requires.in_step c.in_ok-tell-in-SwitchOn.ensures.ok c.in-SwitchOn.switch c.in-SwitchOn.kind c.in-SwitchOn.method c.in-SwitchOn.is (c.tell.ensures.racked _ c.requires.racked)

pub turn-requires-clause-fits : goal.turn-requires-clause-fits
turn-requires-clause-fits g c = on_fits (λ v. (g.dyn-1.0.entry v).1) c.args.workload.now c.args.history.now c.args.entry.now c.args.at c.args.stamp c.args.self.now c.tell.new.self c.requires.placed c.requires.placeable c.requires.number c.requires.stamp c.requires.in_step c.in_ok-tell-in-SwitchOn.ensures.ok c.in-SwitchOn.switch c.in-SwitchOn.kind c.in-SwitchOn.method c.in-SwitchOn.is

pub turn-requires-clause-racked : goal.turn-requires-clause-racked
turn-requires-clause-racked g c = c.tell.ensures.racked _ c.requires.racked

pub returns-in_err-tell-in-SwitchEnd-clause-racked : goal.returns-in_err-tell-in-SwitchEnd-clause-racked
returns-in_err-tell-in-SwitchEnd-clause-racked g c = c.tell-in-SwitchEnd.ensures.racked _ c.requires.racked

pub part-requires-clause-joint : goal.part-requires-clause-joint
part-requires-clause-joint g c = end_joint (λ v. (g.dyn-1.0.entry v).1) c.args.workload.now c.args.history.now c.args.entry.now c.args.at c.args.stamp c.args.self.now c.tell-in-SwitchEnd.new.self c.requires.placed c.requires.placeable c.requires.number c.requires.stamp c.requires.in_step c.in_ok-tell-in-SwitchEnd.ensures.ok c.in-SwitchEnd.switch c.in-SwitchEnd.is

pub part-requires-clause-racked : goal.part-requires-clause-racked
part-requires-clause-racked g c = (c.args.workload.now.structure, c.tell-in-SwitchEnd.ensures.racked _ c.requires.racked)

pub returns-in_ok-turn-in-SwitchOn-clause-ok : goal.returns-in_ok-turn-in-SwitchOn-clause-ok
returns-in_ok-turn-in-SwitchOn-clause-ok g c =
    on_done (λ v. (g.dyn-1.0.entry v).1) c.args.workload.now c.args.history.now c.args.entry.now c.args.at c.args.stamp c.args.self.now c.tell.new.self c.requires.placed c.requires.placeable c.requires.number c.requires.stamp c.requires.in_step c.in_ok-tell-in-SwitchOn.ensures.ok c.in-SwitchOn.switch c.in-SwitchOn.kind c.in-SwitchOn.method c.in-SwitchOn.is _ c.in_ok-off-in-SwitchOn.off c.in_ok-turn-in-SwitchOn.ensures.ok refl c.in_ok-off-in-SwitchOn.ensures refl c.in_ok-turn-in-SwitchOn.ensures.since

pub returns-in_ok-tell-in-SwitchEnd-clause-ok : goal.returns-in_ok-tell-in-SwitchEnd-clause-ok
returns-in_ok-tell-in-SwitchEnd-clause-ok g c =
    end_done (λ v. (g.dyn-1.0.entry v).1) c.args.workload.now c.args.history.now c.args.entry.now c.args.at c.args.stamp c.args.self.now c.tell-in-SwitchEnd.new.self c.requires.placed c.requires.placeable c.requires.number c.requires.stamp c.requires.in_step c.in_ok-tell-in-SwitchEnd.ensures.ok c.in-SwitchEnd.switch c.in-SwitchEnd.is c.part.new.self c.part.ensures.turned (c.part.ensures.rest.0 ∙ c.tell-in-SwitchEnd.ensures.rest.0) (c.part.ensures.rest.1 ∙ c.tell-in-SwitchEnd.ensures.rest.1)

pub returns-in_ok-tell-in-SwitchEnd-clause-racked : goal.returns-in_ok-tell-in-SwitchEnd-clause-racked
returns-in_ok-tell-in-SwitchEnd-clause-racked g c = c.part.ensures.racked _ (c.tell-in-SwitchEnd.ensures.racked _ c.requires.racked)

pub returns-in_default : goal.returns-in_default
returns-in_default g c = record {
  ok = on_ok c.tell-in_default.result (λ tells. other_done (λ v. (g.dyn-1.0.entry v).1) c.args.workload.now c.args.history.now c.args.entry.now c.args.at c.args.stamp c.args.self.now c.tell-in_default.new.self c.requires.placed c.requires.placeable c.requires.number c.requires.stamp c.requires.in_step tells (quiet c.args.entry.now c.in_default.not-SwitchOn c.in_default.not-SwitchEnd) c.tell-in_default.ensures.rest.0 c.tell-in_default.ensures.rest.1 c.tell-in_default.ensures.since) c.tell-in_default.ensures.ok;
  racked = c.tell-in_default.ensures.racked _ c.requires.racked;
  lasting = c.tell-in_default.ensures.lasting;
  finished = c.tell-in_default.ensures.rest.2;
}
