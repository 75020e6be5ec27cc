use Rattle.std.proofs.Common.{◌<◌, arith, ap, ◌∙◌, sym, subst, List, Option, Some, None, length, get_or, append-nil}
use Rattle.std.proofs.lemmas.Grind.{common_steps}
use Rattle.raid_access.specs.declared.copies.Held.{Held}
use Rattle.raid_access.proofs.Stored.{listed}
use Rattle.raid_access.proofs.copies.Copies.copy_lines.Goals as goal
use Rattle.raid_access.proofs.copies.Copies.copy_lines.Goals.{in-Some+in_ok-push, in_default}

pub loop-k-preserved : goal.loop-k-preserved
loop-k-preserved c =
    let slots = c.self.inside.slots.items in
    let s = c.self.inside.site in
    let k = c.loop-k.k in
    let same = c.deref-slot-items.ensures.value in
    let here = λ (xs : List (Option Held)). get_or xs k None in
    let below : k < length slots = subst (λ (xs : List (Option Held)). k < length xs) same c.loop-k-test.true in
    elim c.match-slot.branch [
      | in-Some+in_ok-push w ↦ grind (arith, common_steps, w.lines-is, w.in_ok-push.ensures.ok, listed s slots k (Some w.in-Some.held) c.loop-k.lines c.loop-k.invariant (ap here (sym same) ∙ w.in-Some.is) below)
      | in_default w ↦ w.lines-is ∙ sym (append-nil c.loop-k.lines) ∙ listed s slots k None c.loop-k.lines c.loop-k.invariant (ap here (sym same) ∙ w.in_default.is) below
    ]
