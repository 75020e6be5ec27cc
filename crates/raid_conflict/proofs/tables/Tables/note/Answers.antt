use Rattle.raid_conflict.proofs.Stand.{is_idle, note_idle, note_begin, note_read, note_commit, note_abort, on_ok, both_ok}
use Rattle.raid_conflict.proofs.tables.Tables.note.Goals as goal

pub returns-in-Begin-clause-ok : goal.returns-in-Begin-clause-ok
returns-in-Begin-clause-ok c =
    on_ok c.begin.result (λ m. note_begin c.args.self.now c.begin.new.self c.args.entry.now c.args.at c.in-Begin.txn c.in-Begin.home c.in-Begin.is m) c.begin.ensures.ok

pub returns-in-Read-clause-ok : goal.returns-in-Read-clause-ok
returns-in-Read-clause-ok c =
    on_ok c.read.result (λ a. note_read c.args.self.now c.read.new.self c.args.entry.now c.args.at c.in-Read.txn c.in-Read.item c.in-Read.site c.in-Read.is a c.read.ensures.committed) c.read.ensures.ok

pub returns-in-Commit-clause-ok : goal.returns-in-Commit-clause-ok
returns-in-Commit-clause-ok c =
    both_ok c.commit.result (λ a more. note_commit c.args.self.now c.commit.new.self c.args.entry.now c.args.at c.in-Commit.txn c.in-Commit.request c.in-Commit.applied c.in-Commit.is a more) c.commit.ensures.ok c.commit.ensures.committed

pub returns-in-Abort-clause-ok : goal.returns-in-Abort-clause-ok
returns-in-Abort-clause-ok c =
    on_ok c.abort.result (λ m. note_abort c.args.self.now c.abort.new.self c.args.entry.now c.args.at c.in-Abort.txn c.in-Abort.cause c.in-Abort.act c.in-Abort.is m) c.abort.ensures.ok

pub returns-in-Wait-clause-ok : goal.returns-in-Wait-clause-ok
returns-in-Wait-clause-ok c = note_idle c.args.self.now c.args.entry.now (is_idle c.args.entry.now c.in-Wait.is) c.args.at

pub returns-in-Wait-2-clause-ok : goal.returns-in-Wait-2-clause-ok
returns-in-Wait-2-clause-ok c = note_idle c.args.self.now c.args.entry.now (is_idle c.args.entry.now c.in-Wait.is) c.args.at

pub returns-in-Wait-3-clause-ok : goal.returns-in-Wait-3-clause-ok
returns-in-Wait-3-clause-ok c = note_idle c.args.self.now c.args.entry.now (is_idle c.args.entry.now c.in-Wait.is) c.args.at

pub returns-in-Wait-4-clause-ok : goal.returns-in-Wait-4-clause-ok
returns-in-Wait-4-clause-ok c = note_idle c.args.self.now c.args.entry.now (is_idle c.args.entry.now c.in-Wait.is) c.args.at

pub returns-in-Wait-5-clause-ok : goal.returns-in-Wait-5-clause-ok
returns-in-Wait-5-clause-ok c = note_idle c.args.self.now c.args.entry.now (is_idle c.args.entry.now c.in-Wait.is) c.args.at

pub returns-in-Wait-6-clause-ok : goal.returns-in-Wait-6-clause-ok
returns-in-Wait-6-clause-ok c = note_idle c.args.self.now c.args.entry.now (is_idle c.args.entry.now c.in-Wait.is) c.args.at

pub returns-in-Wait-7-clause-ok : goal.returns-in-Wait-7-clause-ok
returns-in-Wait-7-clause-ok c = note_idle c.args.self.now c.args.entry.now (is_idle c.args.entry.now c.in-Wait.is) c.args.at
