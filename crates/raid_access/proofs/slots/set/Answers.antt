use Rattle.std.proofs.Common.{◌≡◌, sym, arith, ◌∙◌, None}
use Rattle.std.specs.Prelude.{slice_index_or}
use Rattle.std.proofs.lemmas.Grind.{common_steps}
use Rattle.std.proofs.lemmas.Int.{to_z-of_z}
use Rattle.raid_access.proofs.Stored.{set_at, set_missing}
use Rattle.raid_access.proofs.slots.set.Goals as goal
use Rattle.raid_access.proofs.slots.set.Goals.{else-place-slots-via-then-place-slots+else-is_some, else-place-slots-via-else-place-slots}

pub returns-then-is_some-clause-is : goal.returns-then-is_some-clause-is
returns-then-is_some-clause-is c =
    let range = c.ranges.value in
    simp (to_z-of_z, range) (set_at c.args.slots.now 0 c.args.item.0 c.args.item (record { value = c.args.value; version = c.args.version }) (omega arith) (sym c.is_some.ensures ∙ c.if-is_some.true))

pub returns-else-place-slots-clause-is : goal.returns-else-place-slots-clause-is
returns-else-place-slots-clause-is c =
    let missing : slice_index_or c.args.slots.now c.args.item.0 None ≡ None = elim c.else-place-slots.branch [
      | else-place-slots-via-then-place-slots+else-is_some w ↦ grind (arith, common_steps)
      | else-place-slots-via-else-place-slots w ↦ grind (arith, common_steps)
    ] in
    sym (set_missing c.args.slots.now c.args.item c.args.value c.args.version missing)
