use Rattle.std.proofs.Common.{List, ap, sym, subst, ◌∙◌}
use Rattle.std.specs.Prelude.{◌↔◌, IsTrue}
use Rattle.raid_base.specs.declared.entry.Entry.{Entry}
use Rattle.raid_rules.specs.History.{noted}
use Rattle.raid_legal.specs.Forced.{forced}
use Rattle.raid_legal.specs.Switched.{Finished}
use Rattle.raid_check.proofs.rest.is_finished.Goals as goal

pub is_done-requires-clause-must : goal.is_done-requires-clause-must
is_done-requires-clause-must g c = c.in_ok-must.ensures.is ∙ ap (λ (h : List Entry). forced c.args.workload.now (noted h)) (sym c.in_ok-must.ensures.history)

pub returns : goal.returns
returns g c = subst (λ (h : List Entry). IsTrue c.is_done.result ↔ Finished c.args.workload.now h) c.in_ok-must.ensures.history c.is_done.ensures
