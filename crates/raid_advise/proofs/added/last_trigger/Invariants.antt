use Rattle.std.proofs.Common.{◌≡◌, take, fold}
use Rattle.raid_workload.specs.declared.workload.Switch.{Switch}
use Rattle.raid_advise.proofs.added.last_trigger.Given as goal

-- the trigger of the last switch so far
abbrev pub invariant-loop-switch : goal.invariant-loop-switch
invariant-loop-switch l = l.trigger ≡ fold (λ trigger (s : Switch). s.trigger) 1 (take l.switch-index l.workload.switches)
