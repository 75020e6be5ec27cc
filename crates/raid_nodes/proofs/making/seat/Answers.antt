use Rattle.std.proofs.Common.{◌≡◌, ◌+◌, ◌++◌, ◌∷◌, [], ap, arith, refl, subst, sym, ◌∙◌}
use Rattle.raid_nodes.proofs.First.{AreSeated, seated_none, seat_more, left_none, left_next, seated_open}
use Rattle.raid_nodes.proofs.making.seat.Goals as goal

pub loop-k-init : goal.loop-k-init
loop-k-init g c =
    let w = c.args.workload.now in
    let one = c.in_ok-new.ensures in
    let two = c.in_ok-new-2.ensures in
    let outs_one = left_next 0 1 _ _ _ refl (left_none _) one.rest in
    let inputs_one = left_next 0 1 _ _ _ refl (left_none _) one.others in
    let first = seat_more _ w _ _ 0 1 _ _ [] c.push.new.self.items c.in_ok-new.field-0 _ refl (seated_none _ w _ _) (left_none _) (left_none _) c.first_monitor-monitor.ensures
    one.number one.server one.clock one.journal one.outs one.inputs (c.in_ok-push.ensures.items ∙ ap (λ ns. ns ++ c.in_ok-new.field-0 ∷ []) c.new-nodes.ensures.items) in
    record {
      seated = seat_more _ w _ _ 1 2 _ _ c.push.new.self.items c.push-2.new.self.items c.in_ok-new-2.field-0 _ refl first outs_one inputs_one c.in_ok-sequencer.ensures
          two.number two.server two.clock two.journal two.outs two.inputs c.in_ok-push-2.ensures.items;
      outs_left = left_next 1 2 _ _ _ refl outs_one two.rest;
      inputs_left = left_next 1 2 _ _ _ refl inputs_one two.others;
    }

pub loop-k-preserved : goal.loop-k-preserved
loop-k-preserved g c =
    let w = c.args.workload.now in
    let k = c.loop-k.k in
    let i = c.loop-k.invariant in
    let next : c.loop-k.k + 1 + 2 ≡ c.loop-k.k + 2 + 1 = omega arith in
    let new = c.in_ok-new-3.ensures in
    record {
      seated = seat_more _ w _ _ (k + 2) (k + 1 + 2) _ _ c.loop-k.nodes.items c.push-in-loop-k.new.self.items c.in_ok-new-3.field-0 _ next i.seated i.outs_left i.inputs_left c.in_ok-site.ensures
          new.number new.server new.clock new.journal new.outs new.inputs c.in_ok-push-3.ensures.items;
      outs_left = left_next (k + 2) (k + 1 + 2) _ _ _ next i.outs_left new.rest;
      inputs_left = left_next (k + 2) (k + 1 + 2) _ _ _ next i.inputs_left new.others;
    }

pub returns : goal.returns
returns g c =
    let all : c.loop-k.k + 2 ≡ c.args.workload.now.sites + 2 = omega (arith, c.loop-k-test.false, c.loop-k.auto.k-end) in
    seated_open _ c.args.workload.now _ _ (c.loop-k.k + 2) c.loop-k.nodes.items all c.requires.opened c.loop-k.invariant.seated
