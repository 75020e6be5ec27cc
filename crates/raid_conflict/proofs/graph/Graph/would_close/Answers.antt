use Rattle.std.proofs.Common.{◌≡◌, ◌↔◌, true, sym, subst, ◌∙◌}
use Rattle.raid_base.specs.declared.names.Txn.{Txn}
use Rattle.raid_base.specs.Names.{has_txn}
use Rattle.raid_rules.specs.Conflict.{Path}
use Rattle.raid_rules.specs.Verdicts.{asked}
use Rattle.raid_conflict.specs.Search.{Step}
use Rattle.raid_conflict.specs.declared.state.State.{State}
use Rattle.raid_conflict.specs.Tables.{Tells}
use Rattle.raid_conflict.proofs.Cycles.{closes_is}
use Rattle.raid_conflict.proofs.graph.Graph.would_close.Goals as goal

pub returns-clause-answer : goal.returns-clause-answer
returns-clause-answer c view s going =
    c.closes-answer.ensures
    ∙ closes_is view (asked c.args.ask.now) c.self.inside.state.tables (subst (λ (z : State). Tells z.tables view) (sym c.self.view_is) s.tells) s.ascends c.reach.new.found.0
    (λ v. subst (λ (z : Txn). (has_txn c.reach.new.found.0 v ≡ true) ↔ Path (Step c.self.inside.state.tables) z v) c.asker.ensures (c.reach.ensures.reached v)) going
