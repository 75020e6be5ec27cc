use Rattle.std.proofs.Common.{ap, ◌∙◌}
use Rattle.raid_app.specs.Answer.{saying}
use Rattle.raid_app.proofs.answer.answer_make.Goals as goal

pub returns : goal.returns
returns c = (c.in_ok-workload.workload, c.in_ok-workload.ensures, c.saying.ensures ∙ ap (saying 0) c.in_ok-text.ensures.text)
