use Rattle.std.proofs.Common.{map}
use Rattle.raid_nodes.specs.Opening.{AddedUpTo}
use Rattle.raid_nodes.proofs.linking.links_from.Given as goal

-- the links to the servers so far were made
abbrev pub invariant-loop-to : goal.invariant-loop-to
invariant-loop-to l = AddedUpTo l.to (map (λ row. row.items) l.initial.inputs) l.senders.items (map (λ row. row.items) l.inputs)
