use Rattle.std.proofs.Common.{◌<◌, ◌+◌, length, get_or, arith, refl}
use Rattle.std.proofs.lemmas.List.{get_or_default}
use Rattle.raid_nodes.proofs.Links.{welcomed_more}
use Rattle.raid_nodes.proofs.linking.welcome_all.Goals as goal

pub loop-k-preserved : goal.loop-k-preserved
loop-k-preserved c =
    let a = c.loop-k.invariant in
    let s = get_or c.loop-k.senders (c.loop-k.k + 2) c.index-senders-k.result in
    let here : c.loop-k.k + 2 < length c.loop-k.senders = let l = a.long in omega (arith, l, c.requires.count, c.loop-k-test.true) in
    welcomed_more c.args.workload.now c.loop-k.k c.args.senders.now c.loop-k.senders _ s c.send.new.self c.welcome.result c.loop-k-test.true c.requires.count a
    (get_or_default c.loop-k.senders (c.loop-k.k + 2) c.index-senders-k.result s here) c.welcome.ensures c.in_ok-send.ensures.ok c.in_ok-send.ensures.same refl
