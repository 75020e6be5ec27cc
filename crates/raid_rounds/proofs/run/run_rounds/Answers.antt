use Rattle.std.proofs.Common.{◌+◌, true, false, subst, arith}
use Rattle.raid_rounds.specs.Rounds.{Round, Within}
use Rattle.raid_rounds.proofs.Stands.{stands_first, stands_more, stands_none, round_weaker}
use Rattle.raid_rounds.proofs.run.run_rounds.Goals as goal

-- no letter was there at first
pub returns-then-not-settle_all-clause-idle : goal.returns-then-not-settle_all-clause-idle
returns-then-not-settle_all-clause-idle g c =
    let n = g.N.Node in let plan = c.args.plan.now in
    let laws = (g.met.N.Node g.world.𝓛 g.world.𝓜 g.world.𝓡 ((λ s x. x), (λ x. x), (λ x. x), λ x. x)).fits c.args.plan.now in
    λ e left. laws.settle_none _ _ c.if-not-settle_all.ensures c.requires.whole left

pub returns-then-not-settle_all-clause-whole : goal.returns-then-not-settle_all-clause-whole
returns-then-not-settle_all-clause-whole g c =
    let n = g.N.Node in let plan = c.args.plan.now in
    let laws = (g.met.N.Node g.world.𝓛 g.world.𝓜 g.world.𝓡 ((λ s x. x), (λ x. x), (λ x. x), λ x. x)).fits c.args.plan.now in
    laws.settle_whole _ false _ c.if-not-settle_all.ensures c.requires.whole

pub returns-then-not-settle_all-clause-own : goal.returns-then-not-settle_all-clause-own
returns-then-not-settle_all-clause-own g c =
    let n = g.N.Node in let plan = c.args.plan.now in
    let laws = (g.met.N.Node g.world.𝓛 g.world.𝓜 g.world.𝓡 ((λ s x. x), (λ x. x), (λ x. x), λ x. x)).fits c.args.plan.now in
    laws.settle_own _ false _ c.if-not-settle_all.ensures c.requires.own

-- between two rounds
pub loop-made-init : goal.loop-made-init
loop-made-init g c =
    let n = g.N.Node in let plan = c.args.plan.now in
    let laws = (g.met.N.Node g.world.𝓛 g.world.𝓜 g.world.𝓡 ((λ s x. x), (λ x. x), (λ x. x), λ x. x)).fits c.args.plan.now in
    stands_first (λ x k y. n.turns x plan k y) n.settles n.whole (λ m. n.own m plan) n.some_left n.has_known n.taken laws c.args.most _ _ c.if-not-settle_all.ensures c.requires.whole c.requires.own c.requires.room

pub loop-made-preserved : goal.loop-made-preserved
loop-made-preserved g c =
    let n = g.N.Node in let plan = c.args.plan.now in
    let laws = (g.met.N.Node g.world.𝓛 g.world.𝓜 g.world.𝓡 ((λ s x. x), (λ x. x), (λ x. x), λ x. x)).fits c.args.plan.now in
    let r : Round (Within (λ x k y. n.turns x plan k y) (64 + c.min-more.result)) n.settles c.loop-made.members true c.round.new.members = subst (λ b. Round (Within (λ x k y. n.turns x plan k y) (64 + c.min-more.result)) n.settles c.loop-made.members b c.round.new.members) c.if-not-branch.false c.in_ok-round.ensures in
    stands_more (λ x k y. n.turns x plan k y) n.settles n.whole (λ m. n.own m plan) n.some_left n.has_known n.taken laws c.args.most _ _ c.loop-made.spare c.min-more.result _ _ (omega (arith, c.min-more.ensures)) r c.loop-made.invariant

-- a round left no letter
pub returns-then-not-branch-clause-reached : goal.returns-then-not-branch-clause-reached
returns-then-not-branch-clause-reached g c =
    let n = g.N.Node in let plan = c.args.plan.now in
    let laws = (g.met.N.Node g.world.𝓛 g.world.𝓜 g.world.𝓡 ((λ s x. x), (λ x. x), (λ x. x), λ x. x)).fits c.args.plan.now in
    let r : Round (Within (λ x k y. n.turns x plan k y) (64 + c.min-more.result)) n.settles c.loop-made.members false c.round.new.members = subst (λ b. Round (Within (λ x k y. n.turns x plan k y) (64 + c.min-more.result)) n.settles c.loop-made.members b c.round.new.members) c.if-not-branch.true c.in_ok-round.ensures in
    (c.loop-made._made + 1, omega arith, (stands_none (λ x k y. n.turns x plan k y) n.settles n.whole (λ m. n.own m plan) n.some_left n.has_known n.taken laws c.args.most _ _ _ _ _ (round_weaker (λ x k y. n.turns x plan k y) n.settles n.whole (λ m. n.own m plan) n.some_left n.has_known n.taken laws c.args.most _ _ _ _ r) c.loop-made.invariant).0)

pub returns-then-not-branch-clause-idle : goal.returns-then-not-branch-clause-idle
returns-then-not-branch-clause-idle g c =
    let n = g.N.Node in let plan = c.args.plan.now in
    let laws = (g.met.N.Node g.world.𝓛 g.world.𝓜 g.world.𝓡 ((λ s x. x), (λ x. x), (λ x. x), λ x. x)).fits c.args.plan.now in
    let r : Round (Within (λ x k y. n.turns x plan k y) (64 + c.min-more.result)) n.settles c.loop-made.members false c.round.new.members = subst (λ b. Round (Within (λ x k y. n.turns x plan k y) (64 + c.min-more.result)) n.settles c.loop-made.members b c.round.new.members) c.if-not-branch.true c.in_ok-round.ensures in
    λ e left. (stands_none (λ x k y. n.turns x plan k y) n.settles n.whole (λ m. n.own m plan) n.some_left n.has_known n.taken laws c.args.most _ _ _ _ _ (round_weaker (λ x k y. n.turns x plan k y) n.settles n.whole (λ m. n.own m plan) n.some_left n.has_known n.taken laws c.args.most _ _ _ _ r) c.loop-made.invariant).1 left

pub returns-then-not-branch-clause-whole : goal.returns-then-not-branch-clause-whole
returns-then-not-branch-clause-whole g c =
    let n = g.N.Node in let plan = c.args.plan.now in
    let laws = (g.met.N.Node g.world.𝓛 g.world.𝓜 g.world.𝓡 ((λ s x. x), (λ x. x), (λ x. x), λ x. x)).fits c.args.plan.now in
    let r : Round (Within (λ x k y. n.turns x plan k y) (64 + c.min-more.result)) n.settles c.loop-made.members false c.round.new.members = subst (λ b. Round (Within (λ x k y. n.turns x plan k y) (64 + c.min-more.result)) n.settles c.loop-made.members b c.round.new.members) c.if-not-branch.true c.in_ok-round.ensures in
    (stands_none (λ x k y. n.turns x plan k y) n.settles n.whole (λ m. n.own m plan) n.some_left n.has_known n.taken laws c.args.most _ _ _ _ _ (round_weaker (λ x k y. n.turns x plan k y) n.settles n.whole (λ m. n.own m plan) n.some_left n.has_known n.taken laws c.args.most _ _ _ _ r) c.loop-made.invariant).2

pub returns-then-not-branch-clause-own : goal.returns-then-not-branch-clause-own
returns-then-not-branch-clause-own g c =
    let n = g.N.Node in let plan = c.args.plan.now in
    let laws = (g.met.N.Node g.world.𝓛 g.world.𝓜 g.world.𝓡 ((λ s x. x), (λ x. x), (λ x. x), λ x. x)).fits c.args.plan.now in
    let r : Round (Within (λ x k y. n.turns x plan k y) (64 + c.min-more.result)) n.settles c.loop-made.members false c.round.new.members = subst (λ b. Round (Within (λ x k y. n.turns x plan k y) (64 + c.min-more.result)) n.settles c.loop-made.members b c.round.new.members) c.if-not-branch.true c.in_ok-round.ensures in
    (stands_none (λ x k y. n.turns x plan k y) n.settles n.whole (λ m. n.own m plan) n.some_left n.has_known n.taken laws c.args.most _ _ _ _ _ (round_weaker (λ x k y. n.turns x plan k y) n.settles n.whole (λ m. n.own m plan) n.some_left n.has_known n.taken laws c.args.most _ _ _ _ r) c.loop-made.invariant).3
