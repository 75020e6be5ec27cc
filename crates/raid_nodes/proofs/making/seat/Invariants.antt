use Rattle.std.proofs.Common.{◌+◌, map}
use Rattle.raid_nodes.proofs.First.{AreLeft, AreSeated}
use Rattle.raid_nodes.proofs.making.seat.Given as goal

-- the servers so far have their ends of the links, and those of the others are where they were
abbrev pub invariant-loop-k : goal.invariant-loop-k
invariant-loop-k g l =
    record {
      seated : AreSeated (λ v. (g.dyn-1.0.entry v).1) l.workload (map (λ row. row.items) l.fn.ends.outs.items) (map (λ row. row.items) l.fn.ends.inputs.items) (l.k + 2) l.nodes.items;
      outs_left : AreLeft (l.k + 2) (map (λ row. row.items) l.fn.ends.outs.items) (map (λ row. row.items) l.ends.outs.items);
      inputs_left : AreLeft (l.k + 2) (map (λ row. row.items) l.fn.ends.inputs.items) (map (λ row. row.items) l.ends.inputs.items);
    }
