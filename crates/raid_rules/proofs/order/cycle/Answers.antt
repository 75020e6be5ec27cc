use Rattle.std.proofs.Common.{◌∷◌, ◌<◌, sym, ap, subst, ◌∙◌, rules}
use Rattle.raid_rules.specs.Committed as sets
use Rattle.raid_rules.proofs.Reach.{many}
use Rattle.raid_rules.proofs.Txns.{out}
use Rattle.raid_rules.proofs.Cycle.{walk_back, walk_less}
use Rattle.raid_rules.proofs.order.cycle.Goals as goal

pub returns-then-is_listed : goal.returns-then-is_listed
returns-then-is_listed c =
    subst (sets.IsCycle (sets.Joins c.args.pairs.now c.args.all.now))
    (sym (c.in_ok-cycle.ensures ∙ ap (sets.up_to c.waited_for-next.result) c.as_slice-then-is_listed.ensures))
    (walk_back (sets.Joins c.args.pairs.now c.args.all.now) c.loop-walk.walk c.waited_for-next.result c.loop-walk.last c.loop-walk.invariant.walk (search rules)
    (c.waited_for-next.ensures.edge, c.waited_for-next.ensures.committed, c.loop-walk.invariant.committed))

pub loop-walk-smaller : goal.loop-walk-smaller
loop-walk-smaller c =
    subst (λ w. many (out w) c.args.all.now < many (out c.loop-walk.walk) c.args.all.now)
    (sym (c.in_ok-walk-2.ensures ∙ ap (λ l. c.waited_for-next.result ∷ l) c.as_slice-in-loop-walk.ensures))
    (walk_less c.loop-walk.walk c.args.all.now c.waited_for-next.result c.waited_for-next.ensures.committed (search rules))
