use Rattle.std.proofs.Common.{rules}
use Rattle.raid_rules.proofs.Acts as acts
use Rattle.raid_rules.specs.Verdicts as verdicts
use Rattle.raid_rules.proofs.conflict.actions_with.Goals as goal

pub returns : goal.returns
returns c = rw (acts.actions_with c.args.view.now (verdicts.asked c.args.ask.now)) (search rules)
