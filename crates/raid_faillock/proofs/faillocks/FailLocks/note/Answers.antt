use Rattle.std.proofs.Common.{sym, subst}
use Rattle.raid_base.specs.declared.entry.Entry.{Entry}
use Rattle.raid_faillock.specs.Stands.{Turns}
use Rattle.raid_faillock.proofs.Stand.{stands_turn, stands_alike, on_ok, on_err}
use Rattle.raid_faillock.proofs.faillocks.FailLocks.note.Goals as goal

pub returns-clause-ok : goal.returns-clause-ok
returns-clause-ok c =
    on_ok c.turn.result (λ d sites placement p n same o. stands_turn c.args.self.now c.turn.new.self sites placement p n o (subst (λ (e : Entry). Turns c.args.self.now c.turn.new.self e) (sym same) d)) c.turn.ensures.ok

pub returns-clause-err : goal.returns-clause-err
returns-clause-err c = on_err c.turn.result (λ a sites placement p o. stands_alike c.args.self.now c.turn.new.self sites placement p o a) c.turn.ensures.err
