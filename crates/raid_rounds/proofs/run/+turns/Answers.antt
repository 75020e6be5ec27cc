use Rattle.raid_rounds.specs.Rounds.{Within}
use Rattle.raid_rounds.proofs.Turns.{turned_both}
use Rattle.raid_rounds.proofs.run.+turns.Goals as goal

pub turn_each-returns : goal.turn_each-returns
turn_each-returns g t c =
    turned_both (Within (λ x k y. g.N.Node.turns x c.args.plan.now k y) c.args.letters) _ _ _ _ _ _ _ _ c.both.ensures.ok c.split_at_mut-left.ensures.value c.turn_both-first.ensures.left c.turn_both-first.ensures.right
