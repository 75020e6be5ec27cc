use Rattle.std.proofs.Common.{map, arith}
use Rattle.std.specs.Prelude.{filter}
use Rattle.raid_base.specs.declared.names.Item.{Item}
use Rattle.raid_base.specs.declared.names.Site.{Site}
use Rattle.raid_base.specs.Names.{has_site}
use Rattle.raid_workload.specs.Parts.{placement, items}
use Rattle.raid_rules.specs.Sessions.{holders}
use Rattle.raid_check.proofs.Lists.{listed_more}
use Rattle.raid_check.proofs.copies.places.Goals as goal

pub loop-number-preserved : goal.loop-number-preserved
loop-number-preserved c =
    let test = c.loop-number-test.true in
    record {
      least = omega arith;
      most = omega (arith, test);
      listed = listed_more {X = Site × Item} (λ s. map (λ x. (s, x)) (filter (λ x. has_site (holders (placement c.args.workload.now) x) s) (items c.args.workload.now))) c.loop-number.number c.loop-number.places.items _ c.loop-number.invariant.least
          c.loop-number.invariant.listed c.in_ok-push_places.ensures;
    }
