use Rattle.std.proofs.Common.{[], refl, sym, ap, subst, ◌∙◌, arith}
use Rattle.raid_boxed.specs.Boxed.{kind_by, StandsBy}
use Rattle.raid_force.proofs.Racked.{placed_first}
use Rattle.raid_force.proofs.Whole.{whole_serves, whole_enough, opened}
use Rattle.raid_force.proofs.force.Force.new.Goals as goal

pub serve-once-requires-clause-some : goal.serve-once-requires-clause-some
serve-once-requires-clause-some g c = whole_serves (λ v. (g.dyn-1.0.entry v).1) c.args.rack.slots.items c.requires.whole c.args.workload.now.kind c.args.workload.now.structure

pub returns-clause-holds : goal.returns-clause-holds
returns-clause-holds g c = record {
  racked = placed_first (λ v. (g.dyn-1.0.entry v).1) _ c.args.workload.now.structure c.args.rack.slots.items c.serve-once.result.1 c.new.ensures.alone c.new.ensures.first c.serve-once.ensures.structure c.serve-once.ensures.clear
      (whole_enough (λ v. (g.dyn-1.0.entry v).1) c.args.rack.slots.items c.requires.whole) c.serve-once.ensures.lasting (omega (arith, c.serve-once.ensures.room, c.serve-once.ensures.capacity, c.args.rack.slots.ok.0, c.args.rack.slots.ok.1));
  in_step = λ q. opened (λ v. (g.dyn-1.0.entry v).1) c.args.workload.now _ c.new.ensures.alone (ap (kind_by (λ v. (g.dyn-1.0.entry v).1)) c.new.ensures.first ∙ c.serve-once.ensures.kind)
      (subst (λ b. StandsBy (λ v. (g.dyn-1.0.entry v).1) b []) (sym c.new.ensures.first) c.serve-once.ensures.empty) c.new-2.ensures refl;
}
