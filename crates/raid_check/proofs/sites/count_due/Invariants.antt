use Rattle.std.proofs.Common.{◌≡◌, ◌+◌, ◌≤◌, ◌&&◌, not, nat_le, drop, count_by, if◌then◌else◌}
use Rattle.raid_base.specs.Names.{is_site}
use Rattle.raid_workload.specs.declared.workload.Event.{Event}
use Rattle.raid_check.proofs.sites.count_due.Given as goal

-- those so far and those to come are all
abbrev pub invariant-loop-event : goal.invariant-loop-event
invariant-loop-event l = record {
  all :
      count_by (λ (e : Event). is_site l.site e.site && (if e.stop then l.stop else not l.stop) && nat_le e.trigger l.ends) l.events
      ≡ l.count + count_by (λ (e : Event). is_site l.site e.site && (if e.stop then l.stop else not l.stop) && nat_le e.trigger l.ends) (drop l.event-index l.events);
  few : l.count ≤ l.event-index;
}
