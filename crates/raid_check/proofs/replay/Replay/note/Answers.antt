use Rattle.std.proofs.Common.{List, subst, sym}
use Rattle.raid_base.specs.declared.entry.Entry.{Entry}
use Rattle.raid_rules.specs.History.{noted}
use Rattle.raid_placed.proofs.Sent.{legal_placed}
use Rattle.raid_force.specs.Force.{Holds}
use Rattle.raid_check.proofs.Kept.{allowed_placeable}
use Rattle.raid_check.proofs.replay.Replay.note.Goals as goal

pub note-requires-clause-placed : goal.note-requires-clause-placed
note-requires-clause-placed g c = legal_placed c.args.workload.now c.args.self.now.tables.history c.requires.stands.tables.legal

pub note-requires-clause-placeable : goal.note-requires-clause-placeable
note-requires-clause-placeable g c = allowed_placeable c.args.workload.now c.args.self.now.tables.history c.args.entry.now c.requires.stands.tables.legal c.requires.allowed

pub returns-clause-stands : goal.returns-clause-stands
returns-clause-stands g c = record {
  tables = c.in_ok-note-2.ensures.of;
  force = subst (λ (h : List Entry). Holds (λ v. (g.dyn-1.0.entry v).1) c.args.workload.now c.note.new.self (noted h)) (sym c.in_ok-note-2.ensures.history) c.note.ensures.holds;
  goes_on = c.in_ok-note.ensures.goes_on;
}
