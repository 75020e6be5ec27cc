use Rattle.std.proofs.Common.{◌<◌, List, length, map, ap, subst, sym, ◌∙◌}
use Rattle.raid_base.specs.declared.entry.Entry.{Entry}
use Rattle.std.specs.Prelude.{flat_map}
use Rattle.raid_steps.specs.World.{copy_lines}
use Rattle.raid_site.specs.Server.{state_of}
use Rattle.raid_world.proofs.Told.{report_is}
use Rattle.raid_world.proofs.servers.Servers.report.Goals as goal

pub returns-clause-is : goal.returns-clause-is
returns-clause-is g c = λ s are.
    report_is c.args.workload.now s c.history-history.result.now c.in_ok-entries.entries c.in_ok-order.order c.in_ok-finals.finals c.in_ok-copies.copies
    (c.history-history.ensures.is s.sequencer are.sequencer) c.in_ok-entries.ensures (c.in_ok-order.ensures s.sequencer are.sequencer) c.in_ok-finals.ensures
    (c.in_ok-copies.ensures ∙ ap (λ ss. flat_map copy_lines (map state_of ss)) c.deref.ensures.value ∙ ap (flat_map copy_lines) are.sites)

pub returns-clause-short : goal.returns-clause-short
returns-clause-short g c = λ few. subst (λ (h : List Entry). length h < 4294967295) (sym c.in_ok-entries.ensures) (c.history-history.ensures.short c.requires.go.sequencer c.requires.go.live few)
