use Rattle.std.proofs.Common.{ap, ◌∙◌, Err, sym}
use Rattle.raid_app.specs.Lines.{unfit_line}
use Rattle.raid_app.specs.Wanted.{told_of}
use Rattle.raid_app.proofs.Findings.{first_unfit, judges_sound, judges_unfit, judges_unsound}
use Rattle.raid_app.proofs.judging.answer_report.Goals as goal

pub returns-then-is_sound : goal.returns-then-is_sound
returns-then-is_sound g c =
    judges_sound (told_of c.args.wanted) c.args.workload.now c.args.text.now c.in-Ok.report c.in_ok-finding-in-Ok.finding c.saying.result c.in_ok-text-in-Ok.text c.in-Ok.ensures.reads
    c.in_ok-finding-in-Ok.ensures (sym c.is_sound.ensures ∙ c.if-is_sound.true) c.saying.ensures c.in_ok-text-in-Ok.ensures

pub returns-in-Ok : goal.returns-in-Ok
returns-in-Ok g c =
    judges_unsound (told_of c.args.wanted) c.args.workload.now c.args.text.now c.in-Ok.report c.in_ok-finding-in-Ok.finding c.saying-else-is_sound.result c.in_ok-text-in-Ok-2.text c.in-Ok.ensures.reads
    c.in_ok-finding-in-Ok.ensures (sym c.is_sound.ensures ∙ c.if-is_sound.false) c.saying-else-is_sound.ensures c.in_ok-text-in-Ok-2.ensures

pub returns : goal.returns
returns g c =
    judges_unfit (told_of c.args.wanted) c.args.workload.now c.args.text.now c.in-Err-Line.line c.saying-in-Err-Line.result c.in_ok-text-in-Err-Line.text
    (first_unfit c.args.workload.now c.args.text.now _ c.parse.result (c.in-Err-Line.is ∙ ap Err c.in-Err-Line.field-0-is) c.parse.ensures.refused) c.saying-in-Err-Line.ensures (c.in_ok-text-in-Err-Line.ensures ∙ ap unfit_line c.in-Err-Line.line-is)
