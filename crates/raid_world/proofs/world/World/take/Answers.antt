use Rattle.std.proofs.Common.{sym, ◌∙◌}
use Rattle.raid_world.proofs.Stepping.{live_popped, sent_before, none_stands, some_stands}
use Rattle.raid_world.proofs.world.World.take.Goals as goal

pub step-requires-clause-live : goal.step-requires-clause-live
step-requires-clause-live g c =
    live_popped c.args.workload.now c.args.self.now c.pop.new.self c.args.pick.server c.args.pick.from c.pop.ensures.rest _ c.requires.live

pub step-requires-clause-clock : goal.step-requires-clause-clock
step-requires-clause-clock g c =
    sent_before c.args.workload.now c.args.self.now c.pop.new.self c.args.pick.server c.args.pick.from c.pop.ensures.rest c.in-Some.letter
    (sym c.pop.ensures.front ∙ c.in-Some.is) _ c.requires.live

pub returns-in-None-clause-stands : goal.returns-in-None-clause-stands
returns-in-None-clause-stands g c =
    none_stands c.args.workload.now c.args.self.now c.pop.new.self c.args.pick.server c.args.pick.from c.pop.ensures.rest (sym c.pop.ensures.front ∙ c.in-None.is)

pub returns-in_ok-step-in-Some-clause-stands : goal.returns-in_ok-step-in-Some-clause-stands
returns-in_ok-step-in-Some-clause-stands g c =
    some_stands c.args.workload.now c.args.self.now c.pop.new.self c.args.pick.server c.args.pick.from c.pop.ensures.rest c.in-Some.letter
    (sym c.pop.ensures.front ∙ c.in-Some.is) c.step.new.self c.in_ok-step-in-Some.ensures.stands
