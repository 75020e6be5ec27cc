use Rattle.std.proofs.Common.{subst, sym}
use Rattle.raid_driver.proofs.Places.{on_ok}
use Rattle.raid_vote.specs.Ballots.{Held}
use Rattle.raid_site.specs.Whole.{Same, IsWhole}
use Rattle.raid_site.proofs.Phases.{same_closed}
use Rattle.raid_site.proofs.Fitting.{closed_whole}
use Rattle.raid_site.proofs.programs.ask_commit.Goals as goal

pub returns-clause-others : goal.returns-clause-others
returns-clause-others c =
    let t = c.args.txn in
    let bs = c.args.parts.now.ballots.ballots in
    on_ok c.push.result (λ is. subst (λ (h : Held). Same t bs h.ballots) (sym c.close.ensures) (same_closed t bs)) c.push.ensures.ok

pub returns-clause-whole : goal.returns-clause-whole
returns-clause-whole c w whole =
    let p = c.args.parts.now in
    on_ok c.push.result (λ is. subst (λ (h : Held). IsWhole w (record p { ballots = h })) (sym c.close.ensures) (closed_whole w p c.args.txn whole)) c.push.ensures.ok
