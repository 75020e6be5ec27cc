use Rattle.std.proofs.Common.{true≢false, sym, ◌∙◌}
use Rattle.raid_workload.specs.Parts.{placement}
use Rattle.raid_rules.specs.History.{noted}
use Rattle.raid_rules.proofs.Txns.{not_true}
use Rattle.raid_check.proofs.Known.{owes_known}
use Rattle.raid_check.proofs.tables.Tables.owes.Goals as goal

pub returns-then-not-has_site : goal.returns-then-not-has_site
returns-then-not-has_site c =
    sym (not_true _ (λ o. true≢false (sym (c.has_site.ensures ∙ owes_known c.args.workload.now c.args.site c.args.txn c.args.self.now.history c.requires.legal o) ∙ c.if-not-has_site.true)))

pub returns : goal.returns
returns c = c.owes.ensures c.args.workload.now.sites (placement c.args.workload.now) (noted c.args.self.now.history) c.requires.kept.locks
