use Rattle.std.proofs.Common.{ap, ◌∙◌}
use Rattle.raid_rules.specs.History.{noted}
use Rattle.raid_rules.specs.Verdicts.{reading}
use Rattle.raid_legal.specs.InForce.{in_force, controllers, verdict}
use Rattle.raid_decide.proofs.Told.{reads_fit}
use Rattle.raid_decide.proofs.asked.verdict_on_read.Goals as goal

pub returns-clause-answers : goal.returns-clause-answers
returns-clause-answers g c = λ w force.
    let h = c.args.history.now in
    c.judge.ensures.answers (controllers (in_force w (noted h)) (noted h)) force.views (reads_fit w h c.args.txn c.stamp-stamp.result c.args.item c.stamp-stamp.ensures.is force.placed c.requires.running)
    ∙ ap (λ k. verdict w (noted h) (reading c.args.txn k c.args.item)) c.stamp-stamp.ensures.is

pub returns-clause-keeps : goal.returns-clause-keeps
returns-clause-keeps g c = record { views = c.judge.ensures.keeps; kinds = c.judge.ensures.kinds; structures = c.judge.ensures.structures; since = c.judge.ensures.since; finished = c.judge.ensures.finished }
