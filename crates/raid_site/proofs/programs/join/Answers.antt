use Rattle.std.proofs.Common.{subst, sym}
use Rattle.raid_driver.proofs.Places.{on_ok}
use Rattle.raid_steps.specs.Programs.{with_vote}
use Rattle.raid_vote.specs.Ballots.{Held}
use Rattle.raid_site.specs.Whole.{Same, IsWhole}
use Rattle.raid_site.proofs.Phases.{same_changed}
use Rattle.raid_site.proofs.Fitting.{changed_whole}
use Rattle.raid_site.proofs.programs.join.Goals as goal

pub returns-clause-others : goal.returns-clause-others
returns-clause-others c =
    let t = c.args.txn in
    let bs = c.args.parts.now.ballots.ballots in
    on_ok c.ask_vote.result (λ is. subst (λ (h : Held). Same t bs h.ballots) (sym c.up.ensures) (same_changed t (with_vote c.args.site) bs)) c.ask_vote.ensures

pub returns-clause-whole : goal.returns-clause-whole
returns-clause-whole c w whole =
    let p = c.args.parts.now in
    on_ok c.ask_vote.result (λ is. subst (λ (h : Held). IsWhole w (record p { ballots = h })) (sym c.up.ensures) (changed_whole w p c.args.txn (with_vote c.args.site) whole)) c.ask_vote.ensures
