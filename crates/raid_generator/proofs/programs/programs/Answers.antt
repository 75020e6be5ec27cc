use Rattle.std.proofs.Common.{◌≡◌, ◌+◌, ◌-◌, ◌∙◌, suc, arith}
use Rattle.raid_generator.proofs.Transfers.{programs_more}
use Rattle.raid_generator.proofs.programs.programs.Goals as goal

pub loop-k-preserved : goal.loop-k-preserved
loop-k-preserved c =
    let k = c.loop-k.k in
    let less = c.loop-k-test.true in
    let n : c.args.count - k ≡ suc (c.args.count - (k + 1)) = omega (arith, less) in
    rw (c.in_ok-push.ensures.ok, c.in_ok-program.ensures, c.draw-third.ensures.state, c.draw-third.ensures.drawn, c.draw-second.ensures.state, c.draw-second.ensures.drawn, c.draw-first.ensures.state, c.draw-first.ensures.drawn)
    (programs_more c.loop-k.draws.state k (c.args.count - k) (c.args.count - (k + 1)) c.loop-k.programs n ∙ c.loop-k.invariant)
