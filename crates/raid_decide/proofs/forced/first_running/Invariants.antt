use Rattle.std.proofs.Common.{◌≡◌, drop}
use Rattle.std.specs.Prelude.{find}
use Rattle.raid_rules.specs.History.{noted, is_running}
use Rattle.raid_decide.proofs.forced.first_running.Given as goal

-- what is left has the answer
abbrev pub invariant-loop-txn : goal.invariant-loop-txn
invariant-loop-txn l = find (is_running (noted l.history)) (drop l.txn-index l.off) ≡ find (is_running (noted l.history)) l.off
