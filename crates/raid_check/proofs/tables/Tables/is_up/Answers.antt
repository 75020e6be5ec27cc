use Rattle.std.proofs.Common.{ap, ◌∙◌}
use Rattle.raid_workload.specs.Parts.{placement}
use Rattle.raid_rules.specs.History.{noted}
use Rattle.raid_rules.specs.Sessions.{is_site_up}
use Rattle.raid_check.proofs.tables.Tables.is_up.Goals as goal

pub returns : goal.returns
returns c = λ w o. c.is_up.ensures ∙ ap (λ v. is_site_up v c.args.site) (c.vector.ensures w.sites (placement w) (noted c.args.self.now.history) o.kept.locks)
