use Rattle.std.proofs.Common.{◌≡◌, List, ◌++◌, ap, arith, ◌∙◌}
use Rattle.std.specs.Prelude.{flat_map}
use Rattle.raid_steps.specs.State.{Out}
use Rattle.raid_record.proofs.Sites.{sites_to}
use Rattle.raid_record.proofs.Sent.{commit_outs, commit_more, commit_of}
use Rattle.raid_record.proofs.sends.commit_sends.Goals as goal

pub loop-k-preserved : goal.loop-k-preserved
loop-k-preserved c =
    commit_more c.args.vector c.args.home c.args.number c.args.txn c.args.applied c.loop-k.k _ _ _ _ c.loop-k.invariant c.in_ok-apply_sends.ensures c.in_ok-done_sends.ensures

pub returns : goal.returns
returns c = λ w p is at number size.
    let all : c.loop-k.k ≡ c.args.sites = omega (arith, c.loop-k-test.false, c.loop-k.auto.k-end) in
    c.loop-k.invariant
    ∙ ap (λ (os : List Out). c.args.outs.now ++ os)
    (ap (λ k. flat_map (commit_outs c.args.vector c.args.home c.args.number c.args.txn c.args.applied) (sites_to k)) all
    ∙ commit_of w p c.args.vector c.args.home c.args.number c.args.sites c.args.txn c.args.applied is at number size)
