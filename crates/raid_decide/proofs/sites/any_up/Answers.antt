use Rattle.std.proofs.Common.{not, ap, ◌∙◌}
use Rattle.raid_decide.proofs.Up.{none_elsewhere}
use Rattle.raid_decide.proofs.sites.any_up.Goals as goal

pub returns : goal.returns
returns c = ap not c.agrees.ensures ∙ none_elsewhere c.args.vector c.args.sites
