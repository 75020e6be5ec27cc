use Rattle.std.proofs.Common.{◌+◌, ap, ◌∙◌, subst, sym}
use Rattle.raid_base.specs.declared.names.Txn.{Txn}
use Rattle.raid_base.specs.Names.{has_txn}
use Rattle.raid_driver.specs.Drive.{done_of, txns_of}
use Rattle.raid_driver.proofs.Places.{on_ok}
use Rattle.raid_steps.specs.Programs.{next_attempt}
use Rattle.raid_vote.specs.Ballots.{Held}
use Rattle.raid_site.specs.declared.parts.Parts.{Parts}
use Rattle.raid_site.specs.Whole.{settled, IsWhole}
use Rattle.raid_site.proofs.Rows.{begun_again}
use Rattle.raid_site.proofs.Fitting.{again_whole, again_runs}
use Rattle.raid_site.proofs.programs.begin_again.Goals as goal

pub returns-clause-ok : goal.returns-clause-ok
returns-clause-ok c =
    let p = c.args.parts.now in
    let w = c.args.workload.now in
    let next = next_attempt w c.args.txn in
    let number = ap (λ k. let z : Txn = record { 0 = c.args.txn.0 + k } in z) c.len.ensures in
    let over = c.is_over-over.ensures ∙ ap (λ u. has_txn (done_of c.again.new.self.running) u) number in
    on_ok c.settle.result
    (λ is. is
    ∙ ap (λ u. let z : Parts = record p { driver = c.again.new.self; ballots = c.close.new.self } in settled w z c.again.new.outs u c.is_over-over.result) number
    ∙ ap (λ (h : Held). let z : Parts = record p { driver = c.again.new.self; ballots = h } in settled w z c.again.new.outs next c.is_over-over.result) c.close.ensures
    ∙ begun_again w p c.again.new.self c.args.outs.now c.again.new.outs c.args.txn c.is_over-over.result c.in_ok-again.ensures.ok over (c.ascends.ensures c.requires.live.live))
    c.settle.ensures.ok

pub settle-requires-clause-whole : goal.settle-requires-clause-whole
settle-requires-clause-whole c =
    let p = c.args.parts.now in
    let w = c.args.workload.now in
    subst (λ (h : Held). IsWhole w (record p { driver = c.again.new.self; ballots = h })) (sym c.close.ensures)
    (again_whole w p c.again.new.self c.args.outs.now c.again.new.outs c.args.txn c.in_ok-again.ensures.ok c.requires.runs c.requires.whole)

pub settle-requires-clause-runs : goal.settle-requires-clause-runs
settle-requires-clause-runs c wanted =
    let p = c.args.parts.now in
    let w = c.args.workload.now in
    let number = ap (λ k. let z : Txn = record { 0 = c.args.txn.0 + k } in z) c.len.ensures in
    ap (λ u. has_txn (txns_of c.again.new.self.running) u) number ∙ again_runs w p.driver c.again.new.self c.args.outs.now c.again.new.outs c.args.txn c.in_ok-again.ensures.ok
