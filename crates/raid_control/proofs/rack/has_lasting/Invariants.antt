use Rattle.std.proofs.Common.{◌≡◌, drop}
use Rattle.std.specs.List.{list_any}
use Rattle.raid_control.specs.Racked.{lasts}
use Rattle.raid_control.proofs.rack.has_lasting.Given as goal

abbrev pub invariant-loop-slot : goal.invariant-loop-slot
invariant-loop-slot g l =
    list_any (lasts (λ s. s.once) (λ s. (goal.Controller-dyn g (s.control.vtable, s.control.value)).kind_of s.control.value) (λ s. (goal.Controller-dyn g (s.control.vtable, s.control.value)).structure_of s.control.value) l.kind) l.slots
    ≡ list_any (lasts (λ s. s.once) (λ s. (goal.Controller-dyn g (s.control.vtable, s.control.value)).kind_of s.control.value) (λ s. (goal.Controller-dyn g (s.control.vtable, s.control.value)).structure_of s.control.value) l.kind) (drop l.slot-index l.slots)
