use Rattle.std.proofs.Common.{◌≤◌, ◌+◌, List, subst, sym}
use Rattle.raid_base.specs.declared.entry.Entry.{Entry}
use Rattle.raid_placed.specs.Placed.{Placed}
use Rattle.raid_sequencer.specs.Extent.{extent}
use Rattle.raid_sequencer.proofs.Extent.{placed_extent}
use Rattle.raid_sequencer.proofs.parts.Parts.place.Goals as goal

pub returns-clause-extent : goal.returns-clause-extent
returns-clause-extent g c =
    let w = c.args.workload.now in
    let h = c.args.self.now.record.history in
    let is = c.in_ok-place.ensures.history in
    subst (λ (z : List Entry). extent w z ≤ extent w h + 1) (sym is)
    (placed_extent w h c.args.entry c.requires.kept.kept.placed (subst (Placed w) is c.in_ok-place.ensures.kept.placed) c.requires.placeable)
