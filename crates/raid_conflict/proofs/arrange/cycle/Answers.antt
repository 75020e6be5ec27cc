use Rattle.std.proofs.Common.{◌∷◌, ◌<◌, sym, ap, subst, ◌∙◌, rules}
use Rattle.raid_rules.specs.Committed as sets
use Rattle.raid_rules.proofs.Reach.{many}
use Rattle.raid_rules.proofs.Txns.{out}
use Rattle.raid_rules.proofs.Cycle.{walk_back, walk_less}
use Rattle.raid_conflict.specs.Arrange.{Joined}
use Rattle.raid_conflict.proofs.arrange.cycle.Goals as goal

pub returns-then-is_listed : goal.returns-then-is_listed
returns-then-is_listed c = λ all.
    subst (sets.IsCycle (Joined c.args.tables.now c.args.left.now))
    (sym (c.in_ok-cycle.ensures ∙ ap (sets.up_to c.waited_for-next.result) c.as_slice-then-is_listed.ensures))
    (walk_back (Joined c.args.tables.now c.args.left.now) c.loop-alloc.walk c.waited_for-next.result c.loop-alloc.last c.loop-alloc.invariant.walk (search rules) c.waited_for-next.ensures.joined)

pub loop-alloc-smaller : goal.loop-alloc-smaller
loop-alloc-smaller c =
    subst (λ w. many (out w) c.args.all.now < many (out c.loop-alloc.walk) c.args.all.now)
    (sym (c.in_ok-walk-2.ensures ∙ ap (λ l. c.waited_for-next.result ∷ l) c.as_slice-in-loop-alloc.ensures))
    (walk_less c.loop-alloc.walk c.args.all.now c.waited_for-next.result (c.requires.within c.waited_for-next.result c.waited_for-next.ensures.joined.1) (search rules))
