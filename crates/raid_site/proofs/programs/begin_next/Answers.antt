use Rattle.std.proofs.Common.{sym, ◌∙◌, subst, ◌+◌, ◌≤◌, length}
use Rattle.raid_driver.proofs.Places.{on_ok}
use Rattle.raid_site.proofs.Rows.{begun_by}
use Rattle.raid_driver.specs.Drive.{Drive}
use Rattle.raid_site.proofs.Fitting.{begun_whole, begun_more, done_runs}
use Rattle.raid_site.proofs.programs.begin_next.Goals as goal

pub returns-in-Some-clause-ok : goal.returns-in-Some-clause-ok
returns-in-Some-clause-ok c =
    on_ok c.settle.result
    (λ is. is ∙ begun_by c.args.workload.now c.args.parts.now c.begin_next.new.self c.args.outs.now c.begin_next.new.outs c.in-Some.txn c.is_over-over.result
    c.in_ok-begun.ensures.ok (sym c.in-Some.is ∙ c.in_ok-begun.ensures.which) c.is_over-over.ensures c.requires.live.same (c.ascends.ensures c.requires.live.live))
    c.settle.ensures.ok

pub settle-requires-clause-whole : goal.settle-requires-clause-whole
settle-requires-clause-whole c = begun_whole c.args.workload.now c.args.parts.now c.begin_next.new.self c.args.outs.now c.begin_next.new.outs c.in_ok-begun.ensures.ok c.requires.room c.requires.whole

pub settle-requires-clause-runs : goal.settle-requires-clause-runs
settle-requires-clause-runs c wanted = done_runs c.in-Some.txn c.begin_next.new.self.running (sym c.is_over-over.ensures ∙ wanted)

pub returns-in-Some-clause-more : goal.returns-in-Some-clause-more
returns-in-Some-clause-more c =
    let p = c.args.parts.now in
    on_ok c.settle.result
    (λ is. subst (λ (d : Drive). length d.running ≤ length p.driver.running + 1) (sym c.settle.ensures.driver) (begun_more c.args.workload.now p.driver c.begin_next.new.self c.args.outs.now c.begin_next.new.outs c.in_ok-begun.ensures.ok))
    c.settle.ensures.ok
