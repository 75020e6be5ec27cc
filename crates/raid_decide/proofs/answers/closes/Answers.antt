use Rattle.std.proofs.Common.{List, ap, ◌∙◌}
use Rattle.raid_base.specs.declared.names.Txn.{Txn}
use Rattle.raid_base.specs.declared.request.Request.{Request}
use Rattle.raid_legal.specs.Answers.{blocks}
use Rattle.raid_waits.specs.Waiting.{closes_by}
use Rattle.raid_decide.proofs.answers.closes.Goals as goal

pub returns-clause-closes : goal.returns-clause-closes
returns-clause-closes g c = λ w p request s q r.
    c.closes_cycle.ensures.closes (λ u t ws. blocks w p u t ws) request s r ∙ ap (λ (rs : List (Txn × Request)). closes_by (λ u t ws. blocks w p u t ws) rs c.args.txn request) q
