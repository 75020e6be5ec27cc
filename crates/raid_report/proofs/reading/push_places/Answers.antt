use Rattle.std.proofs.Common.{◌≡◌, ◌<◌, List, length, get_or, sym, ap, ◌∙◌, arith}
use Rattle.raid_base.specs.Names.{has_site}
use Rattle.raid_workload.specs.declared.workload.ItemLine.{ItemLine}
use Rattle.raid_report.proofs.Slots.{held_more, held_less}
use Rattle.raid_report.proofs.reading.push_places.Goals as goal
use Rattle.raid_report.proofs.reading.push_places.Goals.{then-is_held+in_ok-push, else-is_held}

pub loop-line-preserved : goal.loop-line-preserved
loop-line-preserved c =
    let w = c.args.workload.now in
    let k = c.loop-line.line-index in
    let d = c.line-item.result in
    let less : k < length w.items = rw c.as_slice-line-items.ensures at c.loop-line-test.true in
    let line : d ≡ get_or w.items k d = c.line-item.is ∙ ap (λ (lines : List ItemLine). get_or lines k d) c.as_slice-line-items.ensures in
    let held : c.is_held.result ≡ has_site (get_or w.items k d).holders c.args.site = c.is_held.ensures ∙ ap (λ (l : ItemLine). has_site l.holders c.args.site) line in
    record {
      place = omega (arith, c.loop-line.invariant.place);
      pushed = elim c.if-is_held.branch [
        | then-is_held+in_ok-push b ↦
            rw (b.slots-is, b.in_ok-push.ensures.ok, c.loop-line.invariant.place)
            (held_more w c.args.site k d c.loop-line.slots less (sym held ∙ b.if-is_held.true) ∙ c.loop-line.invariant.pushed)
        | else-is_held b ↦ rw (b.slots-is, held_less w c.args.site k d less (sym held ∙ b.if-is_held.false)) c.loop-line.invariant.pushed
      ];
    }
