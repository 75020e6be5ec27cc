use Rattle.std.proofs.Common.{◌≡◌, ◌≤◌, ◌++◌, ◌-◌, map, filter, drop}
use Rattle.raid_base.specs.Names.{has_site}
use Rattle.raid_base.specs.Sites.{all_sites}
use Rattle.raid_steps.specs.Programs as steps
use Rattle.raid_site.proofs.programs.ask_votes.Given as goal

-- what is left to be sent
abbrev pub invariant-loop-number : goal.invariant-loop-number
invariant-loop-number l = record {
  least : 1 ≤ l.number;
  rest : l.outs ++ map (steps.prepare_out l.workload l.vector l.txn l.writes) (filter (has_site l.sites) (drop (l.number - 1) all_sites)) ≡ l.fn.outs ++ map (steps.prepare_out l.workload l.vector l.txn l.writes) l.sites;
}
