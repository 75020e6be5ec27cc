use Rattle.std.proofs.Common.{arith}
use Rattle.raid_conflict.proofs.Marks.{list_below, read_mark}
use Rattle.raid_conflict.proofs.found.mark.Goals as goal

pub push_reserved-requires : goal.push_reserved-requires
push_reserved-requires c =
    omega (arith, c.requires.room, list_below c.args.marks.now.items c.args.list.now.items c.args.txn c.requires.agrees c.requires.place (read_mark c.args.marks.now.items c.args.txn.0 _ c.index.ensures c.if-not-index.true))
