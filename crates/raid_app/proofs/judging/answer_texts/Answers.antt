use Rattle.std.proofs.Common.{ap, ◌∙◌, Err}
use Rattle.raid_app.proofs.Sayings.{first_fault}
use Rattle.raid_app.proofs.Findings.{judges_faulty, judges_reads}
use Rattle.raid_app.specs.Lines.{fault_line}
use Rattle.raid_app.specs.Wanted.{told_of}
use Rattle.raid_app.proofs.judging.answer_texts.Goals as goal

pub returns-in-Ok : goal.returns-in-Ok
returns-in-Ok g c = judges_reads (told_of c.args.wanted) c.args.text.now c.args.report.now c.in-Ok.workload c.answer_report.result c.in-Ok.ensures.reads c.answer_report.ensures

pub returns : goal.returns
returns g c =
    judges_faulty (told_of c.args.wanted) c.args.text.now c.args.report.now c.in-Err-Text.line c.in-Err-Text.fault c.saying.result c.in_ok-text-in-Err-Text.text
    (first_fault c.args.text.now _ _ c.parse.result (c.in-Err-Text.is ∙ ap Err c.in-Err-Text.field-0-is) c.parse.ensures.first) c.saying.ensures (c.in_ok-text-in-Err-Text.ensures ∙ (λ i. fault_line (c.in-Err-Text.line-is i) (c.in-Err-Text.fault-is i)))
