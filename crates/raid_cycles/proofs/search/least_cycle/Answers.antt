use Rattle.std.proofs.Common.{◌≡◌, ◌+◌, ◌<◌, length, sym, ◌∙◌, subst, arith}
use Rattle.std.specs.Prelude.{slice_index}
use Rattle.std.proofs.lemmas.List.{get_or_default}
use Rattle.raid_cycles.specs.Cycles.{IsCycle, IsLeastCycle}
use Rattle.raid_cycles.specs.Marks.{member_at, HasWay}
use Rattle.raid_cycles.proofs.Walking.{begins_there, cycle_way, found_there, found_nowhere}
use Rattle.raid_cycles.proofs.search.least_cycle.Goals as goal

pub returns-in_default : goal.returns-in_default
returns-in_default g c = λ cycle is.
    let leads = g.G.Graph.edges c.args.graph.now in
    found_nowhere c.members-members.result.now c.args.start (sym c.in_default.ensures)
    (begins_there c.members-members.result.now leads c.args.start cycle (subst (λ z. IsCycle z leads c.args.start cycle) (sym c.members-members.ensures.members) is))

pub returns-then-index-eq0 : goal.returns-then-index-eq0
returns-then-index-eq0 g c = λ cycle is.
    let members = c.members-members.result.now in
    let leads = g.G.Graph.edges c.args.graph.now in
    let own : IsCycle members leads c.args.start cycle = subst (λ z. IsCycle z leads c.args.start cycle) (sym c.members-members.ensures.members) is in
    let there = found_there members c.args.start c.in-Some.place (sym c.in-Some.ensures) in
    let way : HasWay members leads (member_at members c.in-Some.place) (member_at members c.in-Some.place) (length own.rest + 1) =
    subst (λ z. HasWay members leads z z (length own.rest + 1)) (sym there.1) (cycle_way members leads c.args.start cycle own) in
    let marked : 0 < slice_index c.in_ok-marks.marks.items c.in-Some.place = c.in_ok-marks.ensures.whole (length own.rest + 1) way in
    let z : slice_index c.in_ok-marks.marks.items c.in-Some.place ≡ 0 =
    get_or_default c.in_ok-marks.marks.items c.in-Some.place 0 c.index.result.now (subst (λ n. c.in-Some.place < n) (sym c.in_ok-marks.ensures.marked.long) there.0) ∙ sym c.index.ensures ∙ c.if-index-eq0.true in
    omega (arith, marked, z)

pub returns : goal.returns
returns g c =
    let members = c.members-members.result.now in
    let leads = g.G.Graph.edges c.args.graph.now in
    let there = found_there members c.args.start c.in-Some.place (sym c.in-Some.ensures) in
    subst (λ z. IsLeastCycle z leads c.args.start c.in_ok-cycle.cycle) c.members-members.ensures.members
    (subst (λ z. IsLeastCycle members leads z c.in_ok-cycle.cycle) there.1 c.in_ok-cycle.ensures)
