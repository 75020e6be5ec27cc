use Rattle.std.proofs.Common.{List, ◌∷◌, [], ◌++◌, map, append_assoc, ap, ◌∙◌}
use Rattle.raid_steps.specs.State.{Out, to_site}
use Rattle.raid_message.specs.declared.letter.Message.TheVariants.{UpNote}
use Rattle.raid_history.proofs.Stand.{on_ok}
use Rattle.raid_record.proofs.Sent.{up_sends_of}
use Rattle.raid_record.proofs.sends.up_sends.Goals as goal

pub returns : goal.returns
returns c =
    let notes : List Out = map (λ r. to_site c.args.vector r (UpNote c.args.site c.args.session)) c.without-others.result in
    on_ok c.send_each.result
    (λ sent w p is size next.
    sent ∙ ap (λ (os : List Out). os ++ notes) c.in_ok-push.ensures.ok ∙ append_assoc c.args.outs.now (c.to_site.result ∷ []) notes
    ∙ ap (λ (os : List Out). c.args.outs.now ++ os)
    (ap (λ (o : Out). o ∷ notes) c.to_site.ensures
    ∙ up_sends_of w p c.args.vector c.args.site c.args.session c.args.next c.up_sites.result c.without-others.result is size next c.up_sites.ensures c.without-others.ensures))
    c.send_each.ensures
