use Rattle.std.proofs.Common.{◌≤◌, ◌<◌, List, subst, sym, ◌∙◌, ap}
use Rattle.raid_base.specs.declared.entry.Entry.{Entry}
use Rattle.raid_base.specs.declared.entry.Noted.{Noted}
use Rattle.raid_rules.specs.History.{noted}
use Rattle.raid_rules.proofs.Push.{noted_push}
use Rattle.raid_placed.specs.Placed.{Placed, to_force}
use Rattle.raid_placed.proofs.Settled.{placed_falls}
use Rattle.raid_sequencer.specs.Extent.{extent}
use Rattle.raid_sequencer.proofs.Extent.{forced_extent}
use Rattle.raid_sequencer.proofs.Stood.{forced_names}
use Rattle.raid_sequencer.proofs.parts.Parts.place_forced.Goals as goal

pub place-requires-clause-sites : goal.place-requires-clause-sites
place-requires-clause-sites g c = forced_names c.args.workload.now (noted c.args.self.now.record.history) c.args.entry c.requires.forced

pub returns-clause-falls : goal.returns-clause-falls
returns-clause-falls g c =
    let w = c.args.workload.now in
    let h = c.args.self.now.record.history in
    subst (λ (p : List Noted). to_force w p < to_force w (noted h)) (sym (ap noted c.in_ok-place.ensures.history ∙ noted_push h c.args.entry))
    (placed_falls w h c.args.entry c.requires.kept.kept.placed c.requires.forced)

pub returns-clause-extent : goal.returns-clause-extent
returns-clause-extent g c =
    let w = c.args.workload.now in
    let h = c.args.self.now.record.history in
    let is = c.in_ok-place.ensures.history in
    subst (λ (z : List Entry). extent w z ≤ extent w h) (sym is)
    (forced_extent w h c.args.entry c.requires.kept.kept.placed (subst (Placed w) is c.in_ok-place.ensures.kept.kept.placed) c.requires.forced)
