use Rattle.std.proofs.Common.{◌≡◌, length, arith, sym, ◌∙◌}
use Rattle.std.proofs.lemmas.Grind.{common_steps}
use Rattle.raid_waits.proofs.Searched.{begins, comes_back, ends_open, follows, open_at, none_open, followed_at, found_at, fewer_unfollowed}
use Rattle.raid_waits.proofs.search.follow.Goals as goal

pub loop-k-init : goal.loop-k-init
loop-k-init g c = record {
  length = c.requires;
  search = λ test request says b. begins test c.args.held.now c.args.txn request c.args.marks.now b;
}

pub returns-then-blocks-clause-closes : goal.returns-then-blocks-clause-closes
returns-then-blocks-clause-closes g c = λ test request says b.
    let o = open_at c.loop-k.marks c.in-Some.k (sym c.in-Some.ensures) in
    sym (comes_back test c.args.held.now c.args.txn request c.loop-k.marks c.in-Some.k (c.loop-k.invariant.search test request says b) (omega (arith, o.0, c.loop-k.invariant.length)) o.1
    (grind (arith, common_steps, c.blocks-in-Some.ensures test says, c.if-blocks.true, c.index-held-k.is, o.0, c.loop-k.invariant.length)))

pub loop-k-smaller : goal.loop-k-smaller
loop-k-smaller g c =
    let o = open_at c.loop-k.marks c.in-Some.k (sym c.in-Some.ensures) in
    fewer_unfollowed c.loop-k.marks c.find_blockers.new.marks c.in-Some.k o.0 o.2 c.find_blockers.ensures.followed

pub loop-k-preserved : goal.loop-k-preserved
loop-k-preserved g c =
    let k = c.in-Some.k in
    let o = open_at c.loop-k.marks k (sym c.in-Some.ensures) in
    let long : length c.find_blockers.new.marks ≡ length c.loop-k.marks = grind (arith, common_steps, c.find_blockers.ensures.length) in
    record {
      length = long ∙ c.loop-k.invariant.length;
      search = λ test request says b.
          follows test c.args.held.now c.args.txn request c.loop-k.marks c.find_blockers.new.marks k (c.loop-k.invariant.search test request says b) (omega (arith, o.0, c.loop-k.invariant.length)) o.1
          (grind (arith, common_steps, c.blocks-in-Some.ensures test says, c.if-blocks.false, c.index-held-k.is, o.0, c.loop-k.invariant.length))
          (followed_at c.loop-k.marks c.find_blockers.new.marks k o.0 c.find_blockers.ensures.followed long)
          (λ j below. grind (arith, common_steps, c.find_blockers.ensures.found test says j below, found_at c.loop-k.marks k o.0 o.1 j, c.index-held-k.is, o.0, c.loop-k.invariant.length));
    }

pub returns-clause-closes : goal.returns-clause-closes
returns-clause-closes g c = λ test request says b.
    let whole = none_open c.loop-k.marks (sym c.in_default.ensures) in
    sym (ends_open test c.args.held.now c.args.txn request c.loop-k.marks (c.loop-k.invariant.search test request says b) (λ k below. whole k (omega (arith, below, c.loop-k.invariant.length))))
