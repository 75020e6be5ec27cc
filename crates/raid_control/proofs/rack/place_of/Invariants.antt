use Rattle.raid_control.specs.Racked.{serves, NoneBefore}
use Rattle.raid_control.proofs.rack.place_of.Given as goal

abbrev pub invariant-loop-k : goal.invariant-loop-k
invariant-loop-k g l =
    NoneBefore
    (λ s. serves l.kind l.structure ((goal.Controller-dyn g (s.control.vtable, s.control.value)).kind_of s.control.value) ((goal.Controller-dyn g (s.control.vtable, s.control.value)).structure_of s.control.value))
    l.slots l.k
