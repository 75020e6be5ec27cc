use Rattle.std.proofs.Common.{ap, ◌∙◌, set}
use Rattle.raid_vote.specs.Ballots as words
use Rattle.raid_vote.specs.declared.changes.Ballot.{Ballot}
use Rattle.raid_vote.proofs.Mapped.{changed_more}
use Rattle.raid_vote.proofs.changes.leave_in.Goals as goal

pub loop-ballot-preserved : goal.loop-ballot-preserved
loop-ballot-preserved c =
    let f = words.awaiting (words.without c.args.site) in
    ap (λ (b : Ballot). set c.loop-ballot.ballots c.loop-ballot.ballot-index b) c.left.ensures
    ∙ changed_more f c.args.ballots.now c.loop-ballot.ballots c.loop-ballot.ballot-index c.ballot-item.result c.loop-ballot.invariant c.loop-ballot-test.true
