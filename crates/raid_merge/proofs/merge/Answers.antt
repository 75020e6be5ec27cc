use Rattle.raid_merge.specs.Merged.{IsMerge}
use Rattle.std.proofs.Common.{IfOk}
use Rattle.raid_merge.proofs.Unique.{merged_ok}
use Rattle.raid_merge.proofs.Only.{only_ok}
use Rattle.raid_merge.proofs.merge.Goals as goal

pub returns-clause-merge : goal.returns-clause-merge
returns-clause-merge c =
    merged_ok c.picks_of.result c.args.journals.now c.in_ok-all.all.items c.put_in_order.new.all.items c.requires.few (rw c.as_slice.ensures at c.in_ok-all.ensures) c.put_in_order.ensures.same c.put_in_order.ensures.ordered
    c.requires.rising (rw c.as_slice-2.ensures.value at c.picks_of.ensures)

pub returns-clause-only : goal.returns-clause-only
returns-clause-only c =
    let merge : IfOk c.picks_of.result (IsMerge c.args.journals.now) =
    merged_ok c.picks_of.result c.args.journals.now c.in_ok-all.all.items c.put_in_order.new.all.items c.requires.few (rw c.as_slice.ensures at c.in_ok-all.ensures) c.put_in_order.ensures.same c.put_in_order.ensures.ordered
    c.requires.rising (rw c.as_slice-2.ensures.value at c.picks_of.ensures) in
    only_ok c.picks_of.result c.args.journals.now merge
