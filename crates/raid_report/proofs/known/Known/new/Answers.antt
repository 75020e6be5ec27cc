use Rattle.std.proofs.Common.{◌≡◌, ◌<◌, List, length, get_or, ap, ◌∙◌}
use Rattle.raid_workload.specs.declared.workload.ItemLine.{ItemLine}
use Rattle.raid_report.proofs.Items.{fresh}
use Rattle.raid_report.proofs.known.Known.new.Goals as goal

pub push-requires : goal.push-requires
push-requires c =
    let w = c.args.workload.now in
    let k = c.loop-line.line-index in
    let d = c.line-item.result in
    let less : k < length w.items = rw c.as_slice-line-items.ensures at c.loop-line-test.true in
    let name : c.as_slice.result.now ≡ (get_or w.items k d).name =
    c.as_slice.ensures.bytes ∙ ap (λ (line : ItemLine). line.name) (c.line-item.is ∙ ap (λ (lines : List ItemLine). get_or lines k d) c.as_slice-line-items.ensures) in
    rw (c.loop-line.invariant, name) (fresh w k d less)
