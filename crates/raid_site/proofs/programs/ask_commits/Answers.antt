use Rattle.std.proofs.Common.{◌≡◌, false, rules, arith, slice_get, ap, sym, ◌∙◌}
use Rattle.std.proofs.lemmas.Grind.{common_steps}
use Rattle.raid_driver.specs.Drive.{Drive, txns_of}
use Rattle.raid_site.specs.Whole.{turn}
use Rattle.raid_site.proofs.Each.{commit_step}
use Rattle.raid_site.proofs.Unready.{all_silent}
use Rattle.raid_site.proofs.programs.ask_commits.Goals as goal

-- no ballot is ready
pub returns-then-not-is_any_ready-clause-ok : goal.returns-then-not-is_any_ready-clause-ok
returns-then-not-is_any_ready-clause-ok c =
    let p = c.args.parts.now in
    let none : c.is_any_ready.result ≡ false = grind (arith, common_steps, c.if-not-is_any_ready.true) in
    sym (all_silent p.ballots.ballots p.driver.running (turn p c.args.outs.now) (sym c.is_any_ready.ensures ∙ none))

pub loop-place-preserved : goal.loop-place-preserved
loop-place-preserved c =
    let k = c.loop-place.place in
    let place = ap (λ (d : Drive). slice_get (txns_of d.running) k) (sym c.loop-place.invariant.so_far.driver) ∙ c.txn_at-txn.ensures in
    record {
      so_far = commit_step c.args.parts.now c.loop-place.parts c.ask_commit.new.parts c.args.outs.now c.loop-place.outs c.ask_commit.new.outs k c.txn_at-txn.result c.loop-place.invariant.so_far
          place (c.ascends.ensures c.requires.live.live) c.ask_commit.ensures.driver c.in_ok-ask_commit.ensures.others c.in_ok-ask_commit.ensures.ok;
      live = search rules;
      whole = c.in_ok-ask_commit.ensures.whole c.args.workload.now c.loop-place.invariant.whole;
    }
