use Rattle.std.proofs.Common.{◌≡◌, ◌++◌}
use Rattle.std.specs.Prelude.{flat_map}
use Rattle.raid_record.proofs.Sites.{sites_to}
use Rattle.raid_record.proofs.Sent.{commit_outs}
use Rattle.raid_record.proofs.sends.commit_sends.Given as goal

-- the sites so far were told
abbrev pub invariant-loop-k : goal.invariant-loop-k
invariant-loop-k l = l.outs ≡ l.fn.outs ++ flat_map (commit_outs l.vector l.home l.number l.txn l.applied) (sites_to l.k)
