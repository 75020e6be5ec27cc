use Rattle.std.proofs.Common.{◌≡◌, ◌+◌, ◌-◌, map, arith, sym, ap, ◌∙◌, rules}
use Rattle.std.specs.List.{list_all}
use Rattle.raid_base.specs.Sites.{site}
use Rattle.raid_workload.specs.Parts.{count_from}
use Rattle.raid_rules.specs.Sessions.{is_site_up}
use Rattle.raid_decide.proofs.Homeless.{one_passed}
use Rattle.raid_decide.proofs.homes.are_all_up.Goals as goal

pub loop-number-preserved : goal.loop-number-preserved
loop-number-preserved c = record {
  least = omega arith;
  most = let below = c.loop-number-test.true in omega (arith, below);
  rest =
      one_passed (is_site_up c.args.vector) c.loop-number.number c.args.workload.now.sites c.loop-number-test.true (search rules)
      ∙ c.loop-number.invariant.rest;
}

pub returns : goal.returns
returns c =
    sym (ap (λ k. list_all (is_site_up c.args.vector) (map site (count_from c.loop-number.number k)))
    (let e : c.args.workload.now.sites + 1 - c.loop-number.number ≡ 0 = let past = c.loop-number-test.false in omega (arith, past) in e))
    ∙ c.loop-number.invariant.rest
