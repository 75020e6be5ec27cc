use Rattle.std.proofs.Common.{◌<◌, ◌+◌, ◌++◌, length, sym, ap, arith, ◌∙◌, subst, get_or, take, slice_set, append_assoc}
use Rattle.std.specs.List.{flat_map}
use Rattle.std.proofs.lemmas.Grind.{common_steps}
use Rattle.std.proofs.lemmas.Option.{slice_get-get_or}
use Rattle.raid_driver.specs.declared.task.Task.{Task}
use Rattle.raid_driver.specs.Drive.{lost, lost_outs}
use Rattle.raid_driver.proofs.Places.{unchanged_at, changed_set, sent_more, may_at}
use Rattle.raid_driver.proofs.tasks.lose.Goals as goal

pub lose-requires : goal.lose-requires
lose-requires c =
    let rs = c.args.tasks.now in
    let k = c.loop-k.k in
    let d = c.index-tasks-k.result in
    let below : k < length rs = grind (arith, common_steps) in
    subst (λ (z : Task). z.asks + 1 < 4294967296) (sym (unchanged_at (lost c.args.site) rs c.loop-k.tasks k d c.loop-k.invariant.tasks below)) (may_at rs k (get_or rs k d) c.requires (slice_get-get_or rs k d below))

pub loop-k-preserved : goal.loop-k-preserved
loop-k-preserved c =
    let rs = c.args.tasks.now in
    let ts = c.loop-k.tasks in
    let k = c.loop-k.k in
    let d = c.index-tasks-k.result in
    let f = lost c.args.site in
    let g = lost_outs c.args.site in
    let below : k < length rs = grind (arith, common_steps) in
    let at = slice_get-get_or rs k d below in
    let here = unchanged_at f rs ts k d c.loop-k.invariant.tasks below in
    record {
      tasks = ap (λ z. slice_set ts k z) (c.in_ok-lose.ensures.ok ∙ ap f here) ∙ changed_set f rs ts k (get_or rs k d) c.loop-k.invariant.tasks at;
      outs = c.in_ok-lose.ensures.outs ∙ ap (λ os. os ++ g (get_or ts k d)) c.loop-k.invariant.outs ∙ append_assoc c.args.outs.now (flat_map g (take k rs)) (g (get_or ts k d))
          ∙ ap (λ z. c.args.outs.now ++ z) (ap (λ z. flat_map g (take k rs) ++ g z) here ∙ sym (sent_more g rs k (get_or rs k d) at));
    }
