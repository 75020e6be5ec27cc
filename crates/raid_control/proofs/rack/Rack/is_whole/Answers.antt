use Rattle.raid_control.proofs.Racked.{same_whole}
use Rattle.raid_control.proofs.rack.Rack.is_whole.Goals as goal

pub returns : goal.returns
returns g c =
    same_whole
    (λ s. s.once)
    (λ s. (goal.Controller-dyn g (s.control.vtable, s.control.value)).kind_of s.control.value)
    (λ s. (goal.Controller-dyn g (s.control.vtable, s.control.value)).structure_of s.control.value)
    _ _ _ c.deref.ensures.value c.are_enough.ensures
