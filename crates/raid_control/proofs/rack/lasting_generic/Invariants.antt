use Rattle.std.proofs.Common.{◌≡◌, ◌+◌, drop, count_by, not, ◌&&◌}
use Rattle.raid_control.specs.Carried.{is_generic}
use Rattle.raid_control.proofs.rack.lasting_generic.Given as goal

abbrev pub invariant-loop-slot : goal.invariant-loop-slot
invariant-loop-slot g l =
    count_by (λ s. not s.once && is_generic ((goal.Controller-dyn g (s.control.vtable, s.control.value)).structure_of s.control.value)) l.slots
    ≡ l.count + count_by (λ s. not s.once && is_generic ((goal.Controller-dyn g (s.control.vtable, s.control.value)).structure_of s.control.value)) (drop l.slot-index l.slots)
