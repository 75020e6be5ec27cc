use Rattle.std.proofs.lemmas.Option.{IfSome_then}
use Rattle.raid_nodes.proofs.Fetches.{found_at, missed_at, if_none_then}
use Rattle.raid_nodes.proofs.node.ServerNode.take_from.Goals as goal

pub returns-clause-some : goal.returns-clause-some
returns-clause-some g c =
    IfSome_then _ c.take.ensures.some (λ letter h. found_at c.args.self.now c.args.from c.index_mut.result.now c.take.new.self c.requires c.index_mut.ensures.value c.take.ensures.same letter h.0)

pub returns-clause-none : goal.returns-clause-none
returns-clause-none g c =
    if_none_then _ c.take.ensures.none (λ h. missed_at c.args.self.now c.args.from c.index_mut.result.now c.take.new.self c.requires c.index_mut.ensures.value c.take.ensures.same h.0 h.1 h.2)
