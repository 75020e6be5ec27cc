use Rattle.std.proofs.Common.{◌++◌, ◌+◌, ◌-◌, map, filter, drop, ap, ◌∙◌, arith}
use Rattle.raid_base.specs.Names.{has_site}
use Rattle.raid_base.specs.Sites.{all_sites}
use Rattle.raid_steps.specs.Programs as steps
use Rattle.raid_site.proofs.Holders.{asked_more}
use Rattle.raid_site.proofs.programs.ask_votes.Goals as goal

pub loop-number-preserved : goal.loop-number-preserved
loop-number-preserved c =
    let f = steps.prepare_out c.args.workload.now c.args.vector c.args.txn c.args.writes.now in
    let n = c.loop-number.number in
    record {
      least = omega (arith, c.loop-number.invariant.least);
      rest =
          ap (λ os. os ++ map f (filter (has_site c.args.sites) (drop (n + 1 - 1) all_sites))) c.in_ok-ask_vote_of.ensures
          ∙ asked_more f (has_site c.args.sites) c.loop-number.outs n c.loop-number.invariant.least c.loop-number-test.true
          ∙ c.loop-number.invariant.rest;
    }
