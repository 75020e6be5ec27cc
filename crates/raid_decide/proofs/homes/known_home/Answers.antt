use Rattle.std.proofs.Common.{◌≤◌, sym, subst}
use Rattle.raid_base.specs.declared.names.Site.{Site}
use Rattle.raid_decide.proofs.Rules.{home_among}
use Rattle.raid_decide.proofs.homes.known_home.Goals as goal

pub returns-clause-least : goal.returns-clause-least
returns-clause-least c = subst (λ (s : Site). 1 ≤ s.0) (sym c.home.ensures) (home_among c.args.workload.now c.args.txn c.requires).least

pub returns-clause-most : goal.returns-clause-most
returns-clause-most c = subst (λ (s : Site). s.0 ≤ 8) (sym c.home.ensures) (home_among c.args.workload.now c.args.txn c.requires).most
