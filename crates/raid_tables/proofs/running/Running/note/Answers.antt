use Rattle.raid_tables.proofs.Known.{note_commit, note_abort}
use Rattle.raid_tables.proofs.running.Running.note.Goals as goal

pub returns-in-Commit : goal.returns-in-Commit
returns-in-Commit c =
    note_commit c.args.self.now c.note_end.new.self c.args.number c.args.stamp c.args.entry.now c.in-Commit.txn c.in-Commit.request c.in-Commit.applied c.in-Commit.is c.note_end.ensures

pub returns-in-Abort : goal.returns-in-Abort
returns-in-Abort c =
    note_abort c.args.self.now c.note_end-in-Abort.new.self c.args.number c.args.stamp c.args.entry.now c.in-Abort.txn c.in-Abort.cause c.in-Abort.act c.in-Abort.is c.note_end-in-Abort.ensures
