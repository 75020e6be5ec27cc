use Rattle.std.proofs.Common.{◌+◌, ◌≤◌, ◌==◌, true, cond, subst, arith}
use Rattle.std.specs.Prelude.{count_by}
use Rattle.raid_cycles.specs.Marks.{member_at}
use Rattle.raid_cycles.proofs.Marking.{settled_none}
use Rattle.raid_cycles.proofs.marks.settle.Goals as goal

pub returns-then-not-mark_more : goal.returns-then-not-mark_more
returns-then-not-mark_more g c =
    let start = member_at c.args.members.now c.args.place in
    settled_none c.args.members.now (g.G.Graph.edges c.args.graph.now) c.args.place c.loop-most.most c.loop-most.marks c.mark_more.new.marks c.requires.place c.loop-most.invariant.marked
    (c.mark_more.ensures.marked start c.loop-most.invariant.marked) (c.mark_more.ensures.none c.if-not-mark_more.true)

pub loop-most-preserved : goal.loop-most-preserved
loop-most-preserved g c = record {
  marked = c.mark_more.ensures.marked (member_at c.args.members.now c.args.place) c.loop-most.invariant.marked;
  few =
      let f : count_by (λ m. m == 0) c.mark_more.new.marks + cond true 1 0 ≤ count_by (λ m. m == 0) c.loop-most.marks =
      subst (λ b. count_by (λ m. m == 0) c.mark_more.new.marks + cond b 1 0 ≤ count_by (λ m. m == 0) c.loop-most.marks) c.if-not-mark_more.false c.mark_more.ensures.fewer in
      let i = c.loop-most.invariant.few in
      omega (arith, f, i);
}
