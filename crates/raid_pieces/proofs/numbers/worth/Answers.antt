use Rattle.std.proofs.Common.{◌∙◌, arith}
use Rattle.raid_pieces.proofs.Digits.{pow_below, worth_step, number_len, digit_at, worth_more, worth_starts}
use Rattle.raid_pieces.proofs.numbers.worth.Goals as goal

pub loop-b-init : goal.loop-b-init
loop-b-init c = record { value = worth_starts c.args.digits.now; bound = omega arith }

pub overflow_mul-n : goal.overflow_mul-n
overflow_mul-n c =
    let len = number_len 19 c.args.digits.now c.requires in
    omega (arith, pow_below c.loop-b.b-index (omega arith))

pub overflow_sub-b : goal.overflow_sub-b
overflow_sub-b c = let d = digit_at 19 c.args.digits.now c.loop-b.b-index c.requires (omega arith) in d.0

pub overflow_add-n : goal.overflow_add-n
overflow_add-n c =
    let len = number_len 19 c.args.digits.now c.requires in
    let d = digit_at 19 c.args.digits.now c.loop-b.b-index c.requires (omega arith) in
    omega (arith, pow_below c.loop-b.b-index (omega arith))

pub loop-b-preserved : goal.loop-b-preserved
loop-b-preserved c =
    let d = digit_at 19 c.args.digits.now c.loop-b.b-index c.requires (omega arith) in
    rw c.from.ensures (record { value = worth_more c.loop-b.n c.args.digits.now c.loop-b.b-index (omega arith) ∙ c.loop-b.invariant.value; bound = worth_step c.loop-b.n c.loop-b.b-index _ c.loop-b.invariant.bound d.1 })
