use Rattle.std.proofs.Common.{◌||◌, length, map, sym, ◌∙◌, ap}
use Rattle.raid_waits.specs.Marks.{is_found, is_followed, mark_at, request_at}
use Rattle.raid_waits.proofs.Searched.{at_once, has_begun}
use Rattle.raid_waits.proofs.search.closes.Goals as goal

pub returns-then-blocks-clause-closes : goal.returns-then-blocks-clause-closes
returns-then-blocks-clause-closes g c = λ test request says same.
    sym (at_once test c.args.held.now c.args.txn request (ap (λ z. test c.args.txn c.args.txn z) same ∙ sym (c.blocks-2.ensures test says) ∙ c.if-blocks.true))

pub returns-clause-closes : goal.returns-clause-closes
returns-clause-closes g c = λ test request says same.
    c.follow.ensures.closes test request says
    (has_begun test c.args.held.now c.find_blockers.new.marks c.args.txn request c.args.writes.now (length c.args.marks.now) c.requires.stranger same (sym (c.blocks-2.ensures test says) ∙ c.if-blocks.false)
    (c.find_blockers.ensures.followed ∙ ap (map is_followed) c.unmark.ensures) (λ k below. c.find_blockers.ensures.found test says k below ∙ ap (λ z. is_found (mark_at z k) || test (request_at c.args.held.now k).0 c.args.txn c.args.writes.now) c.unmark.ensures))
