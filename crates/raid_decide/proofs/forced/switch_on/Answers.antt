use Rattle.std.proofs.Common.{◌∙◌}
use Rattle.raid_rules.specs.History.{noted}
use Rattle.raid_decide.proofs.Coming.{comes_on}
use Rattle.raid_decide.proofs.forced.switch_on.Goals as goal

pub returns : goal.returns
returns c = λ f a b.
    c.come_on.ensures ∙ comes_on c.args.workload.now (noted c.args.history.now) f c.get-next.result.now c.args.switches c.args.joint a b c.get-next.ensures
