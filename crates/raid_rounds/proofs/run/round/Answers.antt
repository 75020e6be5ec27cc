use Rattle.std.proofs.Common.{[]}
use Rattle.raid_rounds.specs.Rounds.{Within}
use Rattle.raid_rounds.proofs.Turns.{turned_keeps, turned_some}
use Rattle.raid_rounds.proofs.run.round.Goals as goal

pub settle_all-requires : goal.settle_all-requires
settle_all-requires g c =
    let laws = (g.met.N.Node g.world.𝓛 g.world.𝓜 g.world.𝓡 ((λ s x. x), (λ x. x), (λ x. x), λ x. x)).fits c.args.plan.now in
    let all = c.in_ok-turn_each.ensures in
    turned_keeps (Within (λ x k y. g.N.Node.turns x c.args.plan.now k y) c.args.letters) g.N.Node.whole (λ xs x zs n y t. laws.turn_whole xs x zs n y t.0) [] _ all.0 _ all.1 c.requires.whole

pub returns : goal.returns
returns g c =
    let laws = (g.met.N.Node g.world.𝓛 g.world.𝓜 g.world.𝓡 ((λ s x. x), (λ x. x), (λ x. x), λ x. x)).fits c.args.plan.now in
    let all = c.in_ok-turn_each.ensures in
    record {
      mid = c.turn_each.new.members;
      count = all.0;
      turned = all.1;
      some = turned_some (Within (λ x k y. g.N.Node.turns x c.args.plan.now k y) c.args.letters) g.N.Node.has_known (λ x n y t. laws.turn_takes x n y t.0) _ all.0 _ all.1 c.requires.known;
      settled = c.settle_all.ensures;
    }
