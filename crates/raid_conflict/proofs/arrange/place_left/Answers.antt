use Rattle.std.proofs.Common.{Bool, ◌||◌, get_or, arith, ap, ◌∙◌}
use Rattle.std.proofs.lemmas.List.Folds.{list_any_more}
use Rattle.raid_base.specs.declared.names.Txn.{Txn}
use Rattle.raid_conflict.specs.Found.{is_marked}
use Rattle.raid_conflict.proofs.arrange.place_left.Goals as goal

pub loop-place-preserved : goal.loop-place-preserved
loop-place-preserved c =
    let d : Txn = record { 0 = 0 } in
    let taken = c.loop-place-test.ensures.yes in
    record {
      within = omega (arith, taken.0);
      none = list_any_more (λ t. is_marked c.args.left.now t) c.args.all.now c.loop-place.place d taken.0
          ∙ ap (λ (b : Bool). b || is_marked c.args.left.now (get_or c.args.all.now c.loop-place.place d)) c.loop-place.invariant.none ∙ taken.1 d;
    }
