use Rattle.std.proofs.Common.{List, not, ap, sym, ◌∙◌}
use Rattle.std.proofs.lemmas.Bool.{and_parts}
use Rattle.raid_base.specs.declared.names.Txn.{Txn}
use Rattle.raid_base.specs.Names.{is_txn, has_txn}
use Rattle.raid_rules.proofs.Txns.{has_kept}
use Rattle.raid_conflict.specs.Listed.{noted_as}
use Rattle.raid_conflict.proofs.Runs.{runs_goes, runs_ends, begins_or_reads, commits_or_aborts, note_idles}
use Rattle.raid_conflict.proofs.Stand.{is_idle}
use Rattle.raid_conflict.proofs.running.Running.note.Goals as goal

pub returns-in-Begin-clause-runs : goal.returns-in-Begin-clause-runs
returns-in-Begin-clause-runs c view at stamp runs =
    let q = begins_or_reads c.args.entry.now c.in-Begin.txn c.in-Begin.is in
    runs_goes c.args.self.now c.go_on.new.self view (noted_as at stamp c.args.entry.now) runs c.in-Begin.txn q.0 q.1 c.go_on.ensures.ended c.go_on.ensures.list

pub returns-in-Commit-clause-runs : goal.returns-in-Commit-clause-runs
returns-in-Commit-clause-runs c view at stamp runs =
    let q = commits_or_aborts c.args.entry.now c.in-Commit.txn c.in-Commit.is in
    runs_ends c.args.self.now c.end.new.self view (noted_as at stamp c.args.entry.now) runs c.in-Commit.txn q.0 q.1 c.end.ensures.ended c.end.ensures.list

pub returns-in-Commit-clause-within : goal.returns-in-Commit-clause-within
returns-in-Commit-clause-within c places w l t h =
    w t (and_parts (not (is_txn c.in-Commit.txn t)) (has_txn c.args.self.now.list.items t)
    (sym (ap (λ (z : List Txn). has_txn z t) c.end.ensures.list ∙ has_kept (λ u. not (is_txn c.in-Commit.txn u)) t c.args.self.now.list.items) ∙ h)).1

pub returns-in-Wait-clause-runs : goal.returns-in-Wait-clause-runs
returns-in-Wait-clause-runs c view at stamp runs = note_idles c.args.self.now c.args.entry.now (is_idle c.args.entry.now c.in-Wait.is) view at stamp runs

pub returns-in-Wait-2-clause-runs : goal.returns-in-Wait-2-clause-runs
returns-in-Wait-2-clause-runs c view at stamp runs = note_idles c.args.self.now c.args.entry.now (is_idle c.args.entry.now c.in-Wait.is) view at stamp runs

pub returns-in-Wait-3-clause-runs : goal.returns-in-Wait-3-clause-runs
returns-in-Wait-3-clause-runs c view at stamp runs = note_idles c.args.self.now c.args.entry.now (is_idle c.args.entry.now c.in-Wait.is) view at stamp runs

pub returns-in-Wait-4-clause-runs : goal.returns-in-Wait-4-clause-runs
returns-in-Wait-4-clause-runs c view at stamp runs = note_idles c.args.self.now c.args.entry.now (is_idle c.args.entry.now c.in-Wait.is) view at stamp runs

pub returns-in-Wait-5-clause-runs : goal.returns-in-Wait-5-clause-runs
returns-in-Wait-5-clause-runs c view at stamp runs = note_idles c.args.self.now c.args.entry.now (is_idle c.args.entry.now c.in-Wait.is) view at stamp runs

pub returns-in-Wait-6-clause-runs : goal.returns-in-Wait-6-clause-runs
returns-in-Wait-6-clause-runs c view at stamp runs = note_idles c.args.self.now c.args.entry.now (is_idle c.args.entry.now c.in-Wait.is) view at stamp runs

pub returns-in-Wait-7-clause-runs : goal.returns-in-Wait-7-clause-runs
returns-in-Wait-7-clause-runs c view at stamp runs = note_idles c.args.self.now c.args.entry.now (is_idle c.args.entry.now c.in-Wait.is) view at stamp runs
