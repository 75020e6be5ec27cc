use Rattle.raid_rounds.proofs.Stands.{Stands}
use Rattle.raid_rounds.proofs.run.run_rounds.Given as goal

abbrev pub invariant-loop-made : goal.invariant-loop-made
invariant-loop-made g l =
    let n = g.N.Node in
    Stands (λ x k y. n.turns x l.plan k y) n.settles n.whole (λ m. n.own m l.plan) n.some_left n.has_known n.taken l.most l.fn.members l._made l.spare l.members
