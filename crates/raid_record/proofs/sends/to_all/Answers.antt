use Rattle.std.proofs.Common.{List, ◌++◌, ap, ◌∙◌}
use Rattle.raid_steps.specs.State.{Out}
use Rattle.raid_history.proofs.Stand.{on_ok}
use Rattle.raid_record.specs.Turns.{message_of}
use Rattle.raid_record.proofs.Sent.{to_all_of}
use Rattle.raid_record.proofs.sends.to_all.Goals as goal

pub returns : goal.returns
returns c =
    on_ok c.send_each.result
    (λ sent w p is size. sent ∙ ap (λ (os : List Out). c.args.outs.now ++ os) (to_all_of w p c.args.vector c.up_sites.result (message_of c.args.notice) is size c.up_sites.ensures))
    c.send_each.ensures
