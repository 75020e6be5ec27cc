use Rattle.std.proofs.Common.{◌≡◌, ◌+◌, ◌-◌, [], ◌∷◌, ◌++◌, ap, sym, ◌∙◌, subst, refl, arith, append_assoc}
use Rattle.std.specs.Prelude.{slice_index}
use Rattle.std.proofs.lemmas.List.{append-nil}
use Rattle.raid_cycles.specs.Cycles.{IsLeastCycle}
use Rattle.raid_cycles.specs.Marks.{member_at, HasWay}
use Rattle.raid_cycles.proofs.Walking.{IsLeastWay, some_onward, goes_first, at_once, closes_least}
use Rattle.raid_cycles.proofs.search.follow.Goals as goal

pub loop-edges-init : goal.loop-edges-init
loop-edges-init g c = record {
  place = c.requires.place;
  mark = refl;
  some = c.requires.mark;
  grows = λ tail way.
      let start = member_at c.args.members.now c.args.place in
      let pushed : c.push.new.self ≡ start ∷ [] = c.in_ok-push.ensures.ok ∙ ap (λ z. z ++ start ∷ []) c.new-cycle.ensures in
      subst (λ z. IsLeastCycle c.args.members.now (g.G.Graph.edges c.args.graph.now) start (z ++ tail)) (sym pushed)
      (closes_least c.args.members.now (g.G.Graph.edges c.args.graph.now) c.args.place c.args.marks.now tail c.requires.place c.requires.settled way);
}

pub first_onward-last-requires-clause-one : goal.first_onward-last-requires-clause-one
first_onward-last-requires-clause-one g c =
    let i = c.loop-edges.invariant.mark in
    let t = c.loop-edges-test.true in
    some_onward c.args.members.now (g.G.Graph.edges c.args.graph.now) (member_at c.args.members.now c.args.place) c.requires.settled.most c.args.marks.now c.requires.settled.marked c.loop-edges.last (c.loop-edges.edges - 1)
    c.loop-edges.invariant.place (omega (arith, t)) (omega (arith, i, t))

pub loop-edges-preserved : goal.loop-edges-preserved
loop-edges-preserved g c =
    let members = c.args.members.now in
    let leads = g.G.Graph.edges c.args.graph.now in
    let start = member_at c.args.members.now c.args.place in
    let next = member_at c.args.members.now c.first_onward-last.result in
    let last = member_at c.args.members.now c.loop-edges.last in
    let i = c.loop-edges.invariant.mark in
    let t = c.loop-edges-test.true in
    let back : c.loop-edges.edges - 1 + 1 ≡ c.loop-edges.edges = omega (arith, t) in
    let pushed : c.push-in-loop-edges.new.self ≡ c.loop-edges.cycle ++ next ∷ [] = c.in_ok-push-2.ensures.ok in
    record {
      place = c.first_onward-last.ensures.place;
      mark = c.first_onward-last.ensures.mark;
      some = omega (arith, t);
      grows = λ tail way.
          subst (λ z. IsLeastCycle members leads start z) (sym (ap (λ z. z ++ tail) pushed ∙ append_assoc c.loop-edges.cycle (next ∷ []) tail))
          (c.loop-edges.invariant.grows (next ∷ tail) (subst (λ n. IsLeastWay members leads start last n (next ∷ tail)) back
          (goes_first members leads start c.requires.settled.most c.args.marks.now c.requires.settled.marked c.requires.ascending c.loop-edges.last c.first_onward-last.result (c.loop-edges.edges - 1) tail
          c.loop-edges.invariant.place c.first_onward-last.ensures.place (omega (arith, i, t)) c.first_onward-last.ensures.mark c.first_onward-last.ensures.leads c.first_onward-last.ensures.first way)));
    }

pub returns : goal.returns
returns g c =
    let members = c.args.members.now in
    let leads = g.G.Graph.edges c.args.graph.now in
    let start = member_at c.args.members.now c.args.place in
    let last = member_at c.args.members.now c.loop-edges.last in
    let s = c.loop-edges.invariant.some in
    let t = c.loop-edges-test.false in
    let i = c.loop-edges.invariant.mark in
    let one : slice_index c.args.marks.now c.loop-edges.last ≡ 1 = omega (arith, s, t, i) in
    let done : c.loop-edges.edges ≡ 1 = omega (arith, s, t) in
    let way : HasWay members leads start last 1 = subst (λ n. HasWay members leads start last n) one (c.requires.settled.marked.has_way c.loop-edges.last c.loop-edges.invariant.place (omega (arith, one))) in
    subst (λ z. IsLeastCycle members leads start z) (append-nil c.loop-edges.cycle)
    (c.loop-edges.invariant.grows [] (subst (λ n. IsLeastWay members leads start last n []) (sym done) (at_once members leads start last way)))
