use Rattle.std.proofs.Common.{◌≡◌, ◌≤◌, List}
use Rattle.raid_base.specs.declared.names.Site.{Site}
use Rattle.raid_rules.specs.History.{noted}
use Rattle.raid_legal.specs.Seen.{is_up}
use Rattle.raid_record.specs.declared.records.Record.{Record}
use Rattle.raid_record.specs.Tells.{Turns}
use Rattle.raid_steps.specs.State.{Out}
use Rattle.raid_steps.specs.Sequencer.{settle}
use Rattle.raid_placed.specs.Placed.{to_force}
use Rattle.raid_sequencer.specs.Kept.{IsKept}
use Rattle.raid_sequencer.specs.Extent.{extent}
use Rattle.raid_sequencer.proofs.parts.Parts.settle.Given as goal

-- the parts are kept, and what settles them settles what they were
abbrev pub invariant-loop-entry : goal.invariant-loop-entry
invariant-loop-entry g l = record {
  kept : IsKept (λ v. (g.dyn-1.0.entry v).1) l.workload l.self;
  extent : extent l.workload l.self.record.history ≤ extent l.workload l.fn.self.record.history;
  still : (s : Site) → is_up l.workload (noted l.self.record.history) s ≡ is_up l.workload (noted l.fn.self.record.history) s;
  settles : (after : Record) (more : List Out) → Turns l.workload l.self.record l.outs after more (settle l.workload) → Turns l.workload l.fn.self.record l.fn.outs after more (settle l.workload);
}

-- the entries that can still be forced
abbrev pub decreases-loop-entry : goal.decreases-loop-entry
decreases-loop-entry g l = to_force l.workload (noted l.self.record.history)
