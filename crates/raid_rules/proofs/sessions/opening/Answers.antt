use Rattle.std.proofs.Common.{ℕ, ◌≡◌, ◌+◌, ◌-◌, set, arith, ap, ◌∙◌}
use Rattle.raid_rules.proofs.Opening.{one_more}
use Rattle.raid_rules.proofs.sessions.opening.Goals as goal

pub loop-number-preserved : goal.loop-number-preserved
loop-number-preserved c =
    let at : c.loop-number.number + 1 - 1 ≡ c.loop-number.number = omega arith in
    c.with_session-vector.ensures
    ∙ ap (λ j. set {A = ℕ} c.loop-number.vector j 1) at
    ∙ ap (λ l. set {A = ℕ} l c.loop-number.number 1) c.loop-number.invariant
    ∙ one_more c.loop-number.number c.args.sites c.loop-number-test.true
