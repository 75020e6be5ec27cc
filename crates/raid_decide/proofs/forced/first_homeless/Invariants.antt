use Rattle.std.proofs.Common.{◌≡◌, not, drop}
use Rattle.std.specs.Prelude.{find}
use Rattle.raid_workload.specs.Parts.{home}
use Rattle.raid_rules.specs.Sessions.{is_site_up}
use Rattle.raid_decide.proofs.forced.first_homeless.Given as goal

-- what is left has the answer
abbrev pub invariant-loop-txn : goal.invariant-loop-txn
invariant-loop-txn l = find (λ t. not (is_site_up l.vector (home l.workload t))) (drop l.txn-index l.running) ≡ find (λ t. not (is_site_up l.vector (home l.workload t))) l.running
