use Rattle.std.proofs.Common.{◌≡◌, drop, fold}
use Rattle.std.specs.Prelude.{if◌then◌else◌}
use Rattle.raid_base.specs.Names.{is_site}
use Rattle.raid_workload.specs.Rules.{is_stopped}
use Rattle.raid_workload.specs.declared.workload.Event.{Event}
use Rattle.raid_text.proofs.body.is_stopped.Given as goal

abbrev pub invariant-loop-event : goal.invariant-loop-event
invariant-loop-event l = fold (λ stopped (e : Event). if is_site l.site e.site then e.stop else stopped) l.stopped (drop l.event-index l.events) ≡ is_stopped l.events l.site
