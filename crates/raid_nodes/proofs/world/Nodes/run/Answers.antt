use Rattle.std.proofs.Common.{arith}
use Rattle.std.proofs.lemmas.List.{with_items_is}
use Rattle.raid_nodes.proofs.Counted.{idle_kept, spent_kept, some_ran, go_kept}
use Rattle.raid_nodes.proofs.world.Nodes.run.Goals as goal

pub returns-clause-idle : goal.returns-clause-idle
returns-clause-idle g c =
    let written = with_items_is c.args.self.now.nodes c.run_nodes.new.nodes (omega (arith, c.run_nodes.auto.nodes, c.deref_mut.ensures.len)) in
    idle_kept c.args.workload.now _ _ _ c.in_ok-rounds.rounds written c.deref.ensures.value c.if-not-are_below_limit.ensures.below c.in_ok-rounds.ensures.idle

pub returns-clause-spent : goal.returns-clause-spent
returns-clause-spent g c =
    let written = with_items_is c.args.self.now.nodes c.run_nodes.new.nodes (omega (arith, c.run_nodes.auto.nodes, c.deref_mut.ensures.len)) in
    spent_kept c.args.workload.now c.args.most _ _ _ c.in_ok-rounds.rounds written c.deref.ensures.value c.if-not-are_below_limit.ensures.below c.in_ok-rounds.ensures.spent

pub returns-clause-go : goal.returns-clause-go
returns-clause-go g c =
    let written = with_items_is c.args.self.now.nodes c.run_nodes.new.nodes (omega (arith, c.run_nodes.auto.nodes, c.deref_mut.ensures.len)) in
    go_kept _ c.args.workload.now _ _ written c.in_ok-rounds.ensures.go

pub returns-clause-ran : goal.returns-clause-ran
returns-clause-ran g c =
    let written = with_items_is c.args.self.now.nodes c.run_nodes.new.nodes (omega (arith, c.run_nodes.auto.nodes, c.deref_mut.ensures.len)) in
    some_ran c.args.workload.now c.args.most _ _ _ c.in_ok-rounds.rounds written c.deref.ensures.value c.if-not-are_below_limit.ensures.below c.in_ok-rounds.ensures.idle c.in_ok-rounds.ensures.spent
