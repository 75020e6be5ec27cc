use Rattle.std.proofs.Common.{◌≡◌, [], map, replicate}
use Rattle.raid_nodes.proofs.linking.rows.Given as goal

-- so many rows were made
abbrev pub invariant-loop-made : goal.invariant-loop-made
invariant-loop-made l = map (λ row. row.items) l.rows.items ≡ replicate l._made []
