use Rattle.std.proofs.Common.{◌<◌, length, arith}
use Rattle.raid_rounds_tests.proofs.Places.{read_front, read_back, written, written_back}
use Rattle.raid_rounds_tests.proofs.settling.settle_pair.Goals as goal

pub returns-then-from-to : goal.returns-then-from-to
returns-then-from-to c =
    let s = c.split_at_mut-front in
    let xs = c.args.members.now in
    let low : c.args.from < length s.result.0.now = omega (arith, s.ensures.front_len) in
    let some : 0 < length s.result.1.now = omega (arith, s.ensures.back_len) in (
      c.settle_two.new.one,
      c.settle_two.new.other,
      written xs _ _ s.ensures.value _ _ _ _ low s.ensures.front_len,
      λ d.
          rw (
            read_front xs _ _ s.ensures.value _ c.index-front-from.result d low,
            read_back xs _ _ s.ensures.value _ c.index-back-0.result d s.ensures.front_len some,
          ) c.settle_two.ensures,
    )

pub returns-else-from-to : goal.returns-else-from-to
returns-else-from-to c =
    let s = c.split_at_mut-front-else-from-to in
    let xs = c.args.members.now in
    let low : c.args.to < length s.result.0.now = omega (arith, s.ensures.front_len) in
    let some : 0 < length s.result.1.now = omega (arith, s.ensures.back_len) in (
      c.settle_two-else-from-to.new.one,
      c.settle_two-else-from-to.new.other,
      written_back xs _ _ s.ensures.value _ _ _ _ low s.ensures.front_len,
      λ d.
          rw (
            read_front xs _ _ s.ensures.value _ c.index-front-to.result d low,
            read_back xs _ _ s.ensures.value _ c.index-back-0-else-from-to.result d s.ensures.front_len some,
          ) c.settle_two-else-from-to.ensures,
    )
