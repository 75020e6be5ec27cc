use Rattle.std.proofs.Common.{◌≡◌, ◌+◌, nat_le, drop, take_while, length}
use Rattle.raid_workload.specs.declared.workload.Event.{Event}
use Rattle.raid_monitor.proofs.count_due.Given as goal

-- those so far are due, and what is left has the others
abbrev pub invariant-loop-k : goal.invariant-loop-k
invariant-loop-k l = l.k + length (take_while (λ (e : Event). nat_le e.trigger l.count) (drop l.k l.events)) ≡ length (take_while (λ (e : Event). nat_le e.trigger l.count) l.events)
