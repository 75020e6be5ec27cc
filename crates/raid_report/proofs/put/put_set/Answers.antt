use Rattle.std.proofs.Common.{◌∙◌, sym}
use Rattle.raid_report.proofs.Sets.{marked_more, marked_less}
use Rattle.raid_report.proofs.put.put_set.Goals as goal
use Rattle.raid_report.proofs.put.put_set.Goals.{then-contains+in_ok-push+in_ok-put_site_part, else-contains}

pub loop-before-preserved : goal.loop-before-preserved
loop-before-preserved c = elim c.if-contains.branch [
  | then-contains+in_ok-push+in_ok-put_site_part w ↦
      rw (w.mark-is, w.out-is, w.in_ok-put_site_part.ensures, w.in_ok-push.ensures.ok)
      (marked_more c.loop-before.out c.loop-before.mark c.args.sites c.loop-before.before c.loop-before-test.true (sym c.contains.ensures ∙ w.if-contains.true) ∙ c.loop-before.invariant)
  | else-contains w ↦
      rw (w.mark-is, w.out-is, marked_less c.loop-before.mark c.args.sites c.loop-before.before c.loop-before-test.true (sym c.contains.ensures ∙ w.if-contains.false)) c.loop-before.invariant
]
