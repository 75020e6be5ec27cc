use Rattle.std.proofs.Common.{nat_lt, ap, ◌∙◌}
use Rattle.raid_base.specs.Sites.{session}
use Rattle.raid_workload.specs.Parts.{placement}
use Rattle.raid_rules.specs.History.{noted}
use Rattle.raid_record.proofs.records.Record.is_up.Goals as goal

pub returns : goal.returns
returns c = λ w k.
    ap (λ n. nat_lt 0 n)
    (c.session_of.ensures ∙ ap (λ v. session v c.args.site) (c.vector.ensures w.sites (placement w) (noted c.args.self.now.history) k.tables.locks))
