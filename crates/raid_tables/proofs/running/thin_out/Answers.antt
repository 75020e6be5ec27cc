use Rattle.std.proofs.Common.{List, filter, ap, ◌∙◌}
use Rattle.raid_tables.specs.declared.running.Start.{Start}
use Rattle.raid_tables.specs.Running.{marked}
use Rattle.raid_tables.proofs.Starts.{thinner}
use Rattle.raid_tables.proofs.running.thin_out.Goals as goal

pub returns-clause-live : goal.returns-clause-live
returns-clause-live c = λ test more. ap (λ (xs : List Start). filter (λ s. test s.txn) xs) c.drop_stale.ensures ∙ thinner test (λ t. marked c.args.ended.now t) more c.args.log.now.items
