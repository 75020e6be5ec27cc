use Rattle.std.proofs.Common.{ap, ◌∙◌, Err}
use Rattle.raid_app.proofs.Sayings.{first_fault, says_faulty, says_reads}
use Rattle.raid_app.proofs.answer.answer_text.Goals as goal

pub returns-in-Ok : goal.returns-in-Ok
returns-in-Ok g c = says_reads c.args.brief c.args.text.now c.in-Ok.workload c.run_workload.result c.requires.short c.in-Ok.ensures.reads c.run_workload.ensures

pub returns : goal.returns
returns g c =
    says_faulty c.args.brief c.args.text.now c.in-Err-Text.line c.in-Err-Text.fault c.saying.result c.in_ok-text-in-Err-Text.text c.requires.short
    (first_fault c.args.text.now _ _ c.parse.result (c.in-Err-Text.is ∙ ap Err c.in-Err-Text.field-0-is) c.parse.ensures.first) c.saying.ensures c.in_ok-text-in-Err-Text.ensures
