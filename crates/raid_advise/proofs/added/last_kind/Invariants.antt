use Rattle.std.proofs.Common.{◌≡◌, take, fold}
use Rattle.raid_workload.specs.declared.workload.Switch.{Switch}
use Rattle.raid_advise.proofs.added.last_kind.Given as goal

-- the kind of the last switch so far
abbrev pub invariant-loop-switch : goal.invariant-loop-switch
invariant-loop-switch l = l.kind ≡ fold (λ kind (s : Switch). s.kind) l.workload.kind (take l.switch-index l.workload.switches)
