use Rattle.std.proofs.Common.{◌≡◌, nat_lt, ap, ◌∙◌}
use Rattle.raid_rules.specs.History.{noted}
use Rattle.raid_legal.specs.Legal as legal
use Rattle.raid_seen.specs.declared.outages.Outage.{Outage}
use Rattle.raid_check.proofs.tables.Tables.is_stop_due.Goals as goal

pub returns : goal.returns
returns c =
    let p = noted c.args.self.now.history in
    let count : c.get-outage.result.downs ≡ legal.downs p c.args.site = ap (λ (z : Outage). z.downs) c.get-outage.ensures ∙ c.requires.outages.downs c.args.site in
    ap (λ k. nat_lt k c.due-due.result) count ∙ ap (nat_lt (legal.downs p c.args.site)) (c.due-due.ensures p c.ends-ends.ensures)
