use Rattle.raid_legal.specs.InForce.{in_force, controllers}
use Rattle.std.proofs.Common.{sym, ◌∙◌}
use Rattle.raid_force.proofs.force.Force.judge.Goals as goal

pub returns-clause-answers : goal.returns-clause-answers
returns-clause-answers g c = λ w p s fits. c.ask.ensures.answers (controllers (in_force w p) p) s.views fits

pub returns-clause-holds : goal.returns-clause-holds
returns-clause-holds g c = λ w p r. record {
  racked = c.ask.ensures.racked w.structure r.racked;
  in_step = λ q. (let s = r.in_step (sym c.ask.ensures.rest.2 ∙ q) in record { views = c.ask.ensures.keeps (controllers (in_force w p) p) s.views; off = c.ask.ensures.rest.0 ∙ s.off; switches = c.ask.ensures.rest.1 ∙ s.switches; since = λ d e. c.ask.ensures.since ∙ s.since d e });
}
