use Rattle.raid_app.proofs.Findings.{judges_long, judges_short}
use Rattle.raid_app.specs.Wanted.{told_of}
use Rattle.raid_app.proofs.judging.answer_input.Goals as goal

pub returns-then-input-gt-MOST : goal.returns-then-input-gt-MOST
returns-then-input-gt-MOST g c = judges_long (told_of c.args.wanted) c.args.input.now c.too_long.result c.if-input-gt-MOST.true c.too_long.ensures

pub returns : goal.returns
returns g c =
    judges_short (told_of c.args.wanted) c.args.input.now c.split.result.0.now c.split.result.1.now c.answer_texts.result c.if-input-gt-MOST.false c.split.ensures.workload c.split.ensures.report c.answer_texts.ensures
