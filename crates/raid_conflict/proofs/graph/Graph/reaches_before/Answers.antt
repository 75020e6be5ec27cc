use Rattle.std.proofs.Common.{List, nat_lt, ap, sym, subst, ◌∙◌}
use Rattle.std.specs.List.{list_any}
use Rattle.raid_base.specs.declared.names.Txn.{Txn}
use Rattle.raid_conflict.specs.declared.state.State.{State}
use Rattle.raid_conflict.specs.Tables.{Tells, mark}
use Rattle.raid_conflict.proofs.Cycles.{before_is}
use Rattle.raid_conflict.proofs.graph.Graph.reaches_before.Goals as goal

pub returns-clause-answer : goal.returns-clause-answer
returns-clause-answer c view s going =
    c.any_before-answer.ensures
    ∙ ap (λ (l : List Txn). list_any (λ u. nat_lt (mark c.self.inside.state.tables u).stamp c.args.before) l) c.as_slice.ensures
    ∙ before_is view c.self.inside.state.tables (subst (λ (z : State). Tells z.tables view) (sym c.self.view_is) s.tells) s.ascends c.reach.new.found.0 c.args.txn c.args.before c.reach.ensures.reached
