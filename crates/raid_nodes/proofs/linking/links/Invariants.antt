use Rattle.std.proofs.Common.{map}
use Rattle.raid_nodes.specs.Opening.{AllLinks}
use Rattle.raid_nodes.proofs.linking.links.Given as goal

-- the links from the servers so far were made
abbrev pub invariant-loop-from : goal.invariant-loop-from
invariant-loop-from l = AllLinks l._from l.count (map (λ row. row.items) l.outs.items) (map (λ row. row.items) l.inputs.items)
