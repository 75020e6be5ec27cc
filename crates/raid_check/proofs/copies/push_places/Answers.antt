use Rattle.raid_base.specs.Names.{has_site}
use Rattle.raid_workload.specs.Parts.{placement}
use Rattle.raid_rules.specs.Sessions.{holders}
use Rattle.raid_check.proofs.Lists.{place_more}
use Rattle.raid_check.proofs.copies.push_places.Goals as goal

pub loop-place-preserved : goal.loop-place-preserved
loop-place-preserved c = place_more (λ x. has_site (holders (placement c.args.workload.now) x) c.args.site) c.args.site c.loop-place.place c.args.places.now.items c.loop-place.places.items _ c.loop-place.invariant c.in_ok-push_place.ensures
