use Rattle.std.proofs.Common.{ap, ◌∙◌}
use Rattle.raid_vote.specs.Ballots.{Held, is_open}
use Rattle.raid_site.proofs.Phases.{own_closed}
use Rattle.raid_site.proofs.Rows.{open_none}
use Rattle.raid_site.proofs.programs.open_ballot.Goals as goal

pub start-requires-clause-other : goal.start-requires-clause-other
start-requires-clause-other c =
    ap (λ (h : Held). is_open h c.args.txn) c.close.ensures ∙ open_none c.args.txn _ (own_closed c.args.txn c.args.ballots.now.ballots)
