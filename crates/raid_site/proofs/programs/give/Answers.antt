use Rattle.std.proofs.Math.Facts.{to_z-of_z}
use Rattle.std.proofs.Common.{ap, ◌∙◌, sym, not}
use Rattle.raid_driver.specs.Drive as drive
use Rattle.raid_driver.proofs.Places.{on_ok}
use Rattle.raid_site.specs.Whole.{settled}
use Rattle.raid_site.proofs.Rows.{given_by}
use Rattle.std.proofs.lemmas.Bool.{and_parts}
use Rattle.raid_site.proofs.Fitting.{value_whole, done_runs}
use Rattle.raid_site.proofs.programs.give.Goals as goal

pub returns-clause-ok : goal.returns-clause-ok
returns-clause-ok c =
    on_ok c.settle.result
    (λ is. is ∙ ap (settled c.args.workload.now (record (c.args.parts.now) { driver = c.value.new.self }) c.value.new.outs c.args.txn) c.both-wanted.ensures ∙ given_by c.args.workload.now c.args.parts.now c.value.new.self c.args.outs.now c.value.new.outs c.args.txn c.args.ask c.args.value c.is_over-was.result c.is_over-now.result
    (c.in_ok-value.ensures.ok ∙ ap (λ v. drive.give c.args.workload.now (drive.turn c.args.parts.now.driver c.args.outs.now) c.args.txn c.args.ask v) (to_z-of_z c.ranges.value)) c.is_over-was.ensures c.is_over-now.ensures (c.ascends.ensures c.requires.live.live))
    c.settle.ensures.ok

pub settle-requires-clause-whole : goal.settle-requires-clause-whole
settle-requires-clause-whole c =
    let p = c.args.parts.now in
    let w = c.args.workload.now in
    value_whole w p c.value.new.self c.args.outs.now c.value.new.outs c.args.txn c.args.ask c.args.value
    (c.in_ok-value.ensures.ok ∙ ap (λ v. drive.give w (drive.turn p.driver c.args.outs.now) c.args.txn c.args.ask v) (to_z-of_z c.ranges.value))
    (c.ascends.ensures c.requires.live.live) c.requires.whole

pub settle-requires-clause-runs : goal.settle-requires-clause-runs
settle-requires-clause-runs c wanted =
    let both = and_parts (not c.is_over-was.result) c.is_over-now.result (sym c.both-wanted.ensures ∙ wanted) in
    done_runs c.args.txn c.value.new.self.running (sym c.is_over-now.ensures ∙ both.1)
