use Rattle.std.proofs.Common.{sym, ◌∙◌}
use Rattle.raid_rules.specs.Verdicts.{asked}
use Rattle.raid_switch.proofs.Together.{both_say, one_says}
use Rattle.raid_switch.proofs.eras.Eras.judge.Goals as goal

pub returns-in-Some-clause-answers : goal.returns-in-Some-clause-answers
returns-in-Some-clause-answers g c = λ cs e fits.
    c.meet.ensures ∙ both_say _ c.args.self.now.first c.args.self.now.second (λ b. (goal.Controller-dyn g (b.vtable, b.value)).kind_of b.value) (λ b. (goal.Controller-dyn g (b.vtable, b.value)).stands b.value) (asked c.args.ask.now) c.in-Some.next c.judge_one-first.result c.judge_one-second.result (sym c.take.ensures.value ∙ c.in-Some.is) c.judge_one-first.ensures.answers c.judge_one-second.ensures.answers cs e fits

pub returns-in-None-clause-answers : goal.returns-in-None-clause-answers
returns-in-None-clause-answers g c = one_says _ c.args.self.now.first c.args.self.now.second (λ b. (goal.Controller-dyn g (b.vtable, b.value)).kind_of b.value) (λ b. (goal.Controller-dyn g (b.vtable, b.value)).stands b.value) (asked c.args.ask.now) c.judge_one-first.result (sym c.take.ensures.value ∙ c.in-None.is) c.judge_one-first.ensures.answers
