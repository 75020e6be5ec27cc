use Rattle.std.proofs.Common.{◌≡◌, [], replicate}
use Rattle.raid_links.proofs.links.rows.Given as goal

-- so many rows of empty queues stand
abbrev pub invariant-loop : goal.invariant-loop
invariant-loop l = l.rows.items ≡ replicate l.counter (replicate l.servers [])
