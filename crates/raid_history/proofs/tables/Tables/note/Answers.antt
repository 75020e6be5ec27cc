use Rattle.raid_history.proofs.Stand.{note_begin, note_commit, note_abort, on_ok, both_ok}
use Rattle.raid_history.proofs.tables.Tables.note.Goals as goal

pub returns-in-Begin-clause-ok : goal.returns-in-Begin-clause-ok
returns-in-Begin-clause-ok c =
    on_ok c.begin.result (λ b. note_begin c.args.self.now c.begin.new.self c.args.entry.now c.in-Begin.txn c.in-Begin.home c.args.number c.in-Begin.is b) c.begin.ensures.ok

pub returns-in-Commit-clause-ok : goal.returns-in-Commit-clause-ok
returns-in-Commit-clause-ok c =
    both_ok c.commit.result (λ d versions. note_commit c.args.self.now c.commit.new.self c.args.entry.now c.in-Commit.txn c.in-Commit.request c.in-Commit.applied c.args.number c.in-Commit.is d versions) c.commit.ensures.ok c.commit.ensures.versions

pub returns-in-Abort-clause-ok : goal.returns-in-Abort-clause-ok
returns-in-Abort-clause-ok c =
    on_ok c.end.result (λ d p o k may. note_abort c.args.self.now c.end.new.self c.args.entry.now c.in-Abort.txn c.in-Abort.cause c.in-Abort.act c.in-Abort.is d c.end.ensures.versions p o may) c.end.ensures.ok
