use Rattle.std.proofs.Common.{◌≡◌, ◌-◌, ◌≤◌, drop}
use Rattle.std.specs.Prelude.{find}
use Rattle.raid_base.specs.Sites.{all_sites}
use Rattle.raid_faillock.specs.Stands.{serves}
use Rattle.raid_faillock.proofs.faillocks.FailLocks.least_source.Given as goal

-- the sites so far are no sources
abbrev pub invariant-loop-number : goal.invariant-loop-number
invariant-loop-number l = record {
  least : 1 ≤ l.number;
  rest : find (serves l.self l.item) all_sites ≡ find (serves l.self l.item) (drop (l.number - 1) all_sites);
}
