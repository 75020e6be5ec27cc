use Rattle.std.proofs.Common.{subst, sym}
use Rattle.raid_legal.specs.Legal.{Legal}
use Rattle.raid_legal.specs.Switched.{Finished}
use Rattle.raid_check.proofs.Judged.{refuted, sound_of}
use Rattle.raid_check.proofs.finding.judge.Goals as goal

pub returns-then-not-is_serial : goal.returns-then-not-is_serial
returns-then-not-is_serial g c = (subst (Legal c.args.workload.now) c.requires.entries c.requires.stands.tables.legal, refuted _ c.in_ok-is_serial.ensures c.if-not-is_serial.true)

pub returns-then-not-are_right : goal.returns-then-not-are_right
returns-then-not-are_right g c = (subst (Legal c.args.workload.now) c.requires.entries c.requires.stands.tables.legal, c.in_ok-is_serial.ensures.0 c.if-not-is_serial.false, refuted _ c.in_ok-are_right.ensures c.if-not-are_right.true)

pub returns-then-not-is_finished : goal.returns-then-not-is_finished
returns-then-not-is_finished g c =
    let w = c.args.workload.now in
    let is = c.requires.entries in (
      subst (Legal w) is c.requires.stands.tables.legal,
      c.in_ok-is_serial.ensures.0 c.if-not-is_serial.false,
      c.in_ok-are_right.ensures.0 c.if-not-are_right.false,
      λ f. refuted _ c.in_ok-is_finished.ensures c.if-not-is_finished.true (subst (Finished w) (sym is) f),
    )

pub returns : goal.returns
returns g c =
    let w = c.args.workload.now in
    let is = c.requires.entries in
    sound_of w c.args.report.now (subst (Legal w) is c.requires.stands.tables.legal) (c.in_ok-is_serial.ensures.0 c.if-not-is_serial.false) (c.in_ok-are_right.ensures.0 c.if-not-are_right.false)
    (subst (Finished w) is (c.in_ok-is_finished.ensures.0 c.if-not-is_finished.false))
