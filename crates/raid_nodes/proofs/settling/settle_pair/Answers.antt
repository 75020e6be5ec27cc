use Rattle.std.proofs.Common.{◌≡◌, ◌≢◌, ◌<◌, length, arith, subst, get_or}
use Rattle.std.proofs.lemmas.List.{get_or_default}
use Rattle.raid_link.specs.Link.{IsLink}
use Rattle.raid_nodes.specs.Settled.{sender_of, receiver_of}
use Rattle.raid_nodes.proofs.Places.{read_front, read_back, written, written_back}
use Rattle.raid_nodes.proofs.Settles.{pair_own, pair_two}
use Rattle.raid_nodes.proofs.settling.settle_pair.Goals as goal

pub settle_own-requires-clause-link : goal.settle_own-requires-clause-link
settle_own-requires-clause-link g c = λ e f. c.requires.whole.links c.args.from c.args.from c.index-members-from.result e f c.requires.from c.requires.from

pub returns-then-from-to : goal.returns-then-from-to
returns-then-from-to g c =
    let s = c.settle_own.ensures in
    let xs = c.args.members.now in
    let x = get_or xs c.args.from c.index-members-from.result in
    pair_own xs c.args.from c.args.to x c.settle_own.new.node c.settle_own.result s.0 s.1 c.if-from-to.true c.requires.from (get_or_default xs c.args.from c.index-members-from.result x c.requires.from) s.2 s.3

pub settle_two-requires-clause-link : goal.settle_two-requires-clause-link
settle_two-requires-clause-link g c =
    let s = c.split_at_mut-front in
    let xs = c.args.members.now in
    let low : c.args.from < length s.result.0.now = omega (arith, s.ensures.front_len) in
    let some : 0 < length s.result.1.now = omega (arith, s.ensures.back_len) in
    let d = c.index-front-from.result in
    λ e f.
    subst (λ x. IsLink (sender_of x c.args.to e) (receiver_of (get_or s.result.1.now 0 c.index-back-0.result) c.args.from f)) (read_front xs _ _ s.ensures.value c.args.from d d low)
    (subst (λ z. IsLink (sender_of (get_or xs c.args.from d) c.args.to e) (receiver_of z c.args.from f)) (read_back xs _ _ s.ensures.value c.args.to c.index-back-0.result d s.ensures.front_len some)
    (c.requires.whole.links c.args.from c.args.to d e f c.requires.from c.requires.to))

pub settle_two-requires-else-from-to-2-clause-link : goal.settle_two-requires-else-from-to-2-clause-link
settle_two-requires-else-from-to-2-clause-link g c =
    let s = c.split_at_mut-front-else-from-to-2 in
    let xs = c.args.members.now in
    let low : c.args.to < length s.result.0.now = omega (arith, s.ensures.front_len, c.if-from-to.false, c.if-from-to-2.false) in
    let some : 0 < length s.result.1.now = omega (arith, s.ensures.back_len) in
    let d = c.index-front-to.result in
    λ e f.
    subst (λ x. IsLink (sender_of x c.args.to e) (receiver_of (get_or s.result.0.now c.args.to d) c.args.from f)) (read_back xs _ _ s.ensures.value c.args.from c.index-back-0-else-from-to-2.result d s.ensures.front_len some)
    (subst (λ z. IsLink (sender_of (get_or xs c.args.from d) c.args.to e) (receiver_of z c.args.from f)) (read_front xs _ _ s.ensures.value c.args.to d d low)
    (c.requires.whole.links c.args.from c.args.to d e f c.requires.from c.requires.to))

pub returns-then-from-to-2 : goal.returns-then-from-to-2
returns-then-from-to-2 g c =
    let s = c.split_at_mut-front in
    let xs = c.args.members.now in
    let low : c.args.from < length s.result.0.now = omega (arith, s.ensures.front_len) in
    let some : 0 < length s.result.1.now = omega (arith, s.ensures.back_len) in
    let apart : c.args.from ≢ c.args.to = λ q. omega (arith, c.if-from-to-2.true, q) in
    let e = c.settle_two.ensures in
    pair_two xs _ c.args.from c.args.to _ _ c.settle_two.new.one c.settle_two.new.other c.settle_two.result e.0 e.1 apart c.requires.from c.requires.to
    (λ d. read_front xs _ _ s.ensures.value _ c.index-front-from.result d low) (λ d. read_back xs _ _ s.ensures.value _ c.index-back-0.result d s.ensures.front_len some)
    e.2 e.3 (written xs _ _ s.ensures.value _ _ _ _ low s.ensures.front_len) e.4

pub returns-else-from-to-2 : goal.returns-else-from-to-2
returns-else-from-to-2 g c =
    let s = c.split_at_mut-front-else-from-to-2 in
    let xs = c.args.members.now in
    let low : c.args.to < length s.result.0.now = omega (arith, s.ensures.front_len, c.if-from-to.false, c.if-from-to-2.false) in
    let some : 0 < length s.result.1.now = omega (arith, s.ensures.back_len) in
    let apart : c.args.from ≢ c.args.to = λ q. omega (arith, c.if-from-to.false, q) in
    let e = c.settle_two-else-from-to-2.ensures in
    pair_two xs _ c.args.from c.args.to _ _ c.settle_two-else-from-to-2.new.one c.settle_two-else-from-to-2.new.other c.settle_two-else-from-to-2.result e.0 e.1 apart c.requires.from c.requires.to
    (λ d. read_back xs _ _ s.ensures.value _ c.index-back-0-else-from-to-2.result d s.ensures.front_len some) (λ d. read_front xs _ _ s.ensures.value _ c.index-front-to.result d low)
    e.2 e.3 (written_back xs _ _ s.ensures.value _ _ _ _ low s.ensures.front_len) e.4
