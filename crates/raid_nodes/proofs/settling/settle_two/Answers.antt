use Rattle.std.proofs.Common.{refl}
use Rattle.raid_nodes.proofs.Settles.{ends_settled}
use Rattle.raid_nodes.proofs.settling.settle_two.Goals as goal

pub returns : goal.returns
returns g c =
    let s = c.settle.ensures in (
      c.settle.new.sender,
      c.settle.new.receiver,
      refl,
      refl,
      ends_settled c.args.one.now.outs.items c.args.to c.index_mut.result.now c.settle.new.sender c.args.other.now.inputs.items c.args.from c.index_mut-2.result.now c.settle.new.receiver c.settle.result
          c.requires.out c.index_mut.ensures.value c.requires.input c.index_mut-2.ensures.value s.same.0 s.same.1 s.sent s.given s.settled s.value,
    )
