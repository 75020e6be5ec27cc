use Rattle.std.proofs.Common.{◌≡◌, ◌++◌, length, arith, ap, sym}
use Rattle.std.specs.Prelude.{filter_map}
use Rattle.raid_record.specs.Turns.{copy_due}
use Rattle.raid_record.proofs.Renewed.{items_to, asked_none, asked_more, asked_for, chosen_more, next_item}
use Rattle.raid_record.proofs.copies.renew_site.Goals as goal

pub loop-place-init : goal.loop-place-init
loop-place-init c = λ p before out locks stands same. asked_none c.args.vector c.args.copiers.now c.args.outs.now out stands

pub loop-place-preserved : goal.loop-place-preserved
loop-place-preserved c = λ p before out locks stands same.
    let w = c.args.workload.now in
    let k = c.loop-place.place in
    let asked = c.loop-place.invariant p before out locks stands same in
    let due = filter_map (copy_due w p before c.args.site) (items_to k) in
    asked_for _ _ _ _ _ _ _ (sym (chosen_more (copy_due w p before c.args.site) k))
    (asked_more _ _ _ _ _ _ _ _ _ asked (c.in_ok-renew.ensures w p before (out ++ due) locks asked.copying (next_item w p before out c.args.site k (same _))))

pub returns : goal.returns
returns c = λ p before out locks stands same.
    let w = c.args.workload.now in
    let all : c.loop-place.place ≡ length w.items = omega (arith, c.loop-place-test.false, c.loop-place.auto.place-end, c.len-place-end.ensures) in
    asked_for _ _ _ _ _ _ _ (ap (λ k. filter_map (copy_due w p before c.args.site) (items_to k)) all) (c.loop-place.invariant p before out locks stands same)
