use Rattle.std.proofs.Common.{ℤ, List, ap, refl, to_z, of_z, w64, slice_set}
use Rattle.raid_base.specs.declared.names.Item.{Item}
use Rattle.raid_program.specs.Run.{Progress}
use Rattle.raid_program.proofs.Courses.{of_give}
use Rattle.raid_program.proofs.run.Run.give.Goals as goal

pub returns-in-Some-clause-of : goal.returns-in-Some-clause-of
returns-in-Some-clause-of c =
    let r = c.self.inside in
    let v = to_z w64 (of_z w64 c.args.value) in
    let after : List (Item × ℤ) → Progress = λ reads. record { registers = slice_set r.registers r.register v; reads = reads; writes = r.writes.items } in
    rw (← c.self.view_is) (λ p. of_give _ _ p c.in-Some.item v c.in-Some.is refl (ap after c.push_reserved.ensures.items) refl)
