use Rattle.std.proofs.Common.{◌≡◌, ◌+◌, ◌-◌, ◌++◌, ◌∷◌, [], take, arith, ap, sym, ◌∙◌}
use Rattle.std.specs.Prelude.{slice_get}
use Rattle.raid_world.proofs.Told.{taken}
use Rattle.raid_world.proofs.telling.entries.Goals as goal

pub loop-k-preserved : goal.loop-k-preserved
loop-k-preserved c =
    let h = c.args.history.now in
    let back : c.loop-k.k + 1 - 1 ≡ c.loop-k.k = omega arith in
    let at = ap (λ n. slice_get h n) (sym back) ∙ c.entry.ensures in
    c.in_ok-push.ensures.ok ∙ ap (λ es. es ++ c.in_ok-copied.copied ∷ []) c.loop-k.invariant ∙ ap (λ e. take c.loop-k.k h ++ e ∷ []) c.in_ok-copied.ensures
    ∙ sym (taken h c.loop-k.k c.entry.result.now at)
