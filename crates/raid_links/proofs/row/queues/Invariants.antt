use Rattle.std.proofs.Common.{◌≡◌, [], replicate}
use Rattle.raid_links.proofs.row.queues.Given as goal

-- so many empty queues stand
abbrev pub invariant-loop : goal.invariant-loop
invariant-loop l = l.queues.items ≡ replicate l.counter []
