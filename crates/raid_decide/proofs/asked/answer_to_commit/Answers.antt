use Rattle.std.proofs.Common.{refl}
use Rattle.raid_rules.specs.History.{noted}
use Rattle.raid_legal.specs.InForce.{in_force, controllers}
use Rattle.raid_decide.proofs.Answered.{if_ok}
use Rattle.raid_decide.proofs.asked.answer_to_commit.Goals as goal

pub returns-clause-answer : goal.returns-clause-answer
returns-clause-answer g c =
    let s = c.requires.stand in
    let p = noted c.args.history.now in
    let cs = controllers (in_force c.args.workload.now p) p in
    if_ok c.answer_commit.result
    (λ e h. h p s.locked s.waited (cs, c.verdict_on_commit-verdict.ensures.keeps.views cs s.asked.views, λ u t writes. refl) (c.verdict_on_commit-verdict.ensures.answers c.args.workload.now s.asked))
    c.answer_commit.ensures.answer
