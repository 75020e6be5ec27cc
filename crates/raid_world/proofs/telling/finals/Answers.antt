use Rattle.std.proofs.Common.{ℤ, List, ◌<◌, ◌++◌, ◌∷◌, [], length, map, pos, ap, sym, ◌∙◌, FitsSigned, w64, arith, rules}
use Rattle.std.proofs.Math.Facts.{to_z-of_z}
use Rattle.std.proofs.lemmas.List.{get_or_read}
use Rattle.raid_base.specs.declared.names.Item.{Item}
use Rattle.raid_rules.specs.History.{noted}
use Rattle.raid_legal.specs.Seen.{value_of}
use Rattle.raid_world.proofs.Told.{item, items_below, items_more}
use Rattle.raid_world.proofs.telling.finals.Goals as goal

pub loop-k-preserved : goal.loop-k-preserved
loop-k-preserved c =
    let w = c.args.workload.now in
    let k = c.loop-k.k in
    let vs = c.in_ok-values.values in
    let below : c.loop-k.k < length w.items = omega (arith, c.loop-k-test.true, c.len-k-end.ensures) in
    let within : c.loop-k.k < length c.in_ok-values.values.items = omega (arith, below, c.in_ok-values.ensures.long, c.in_ok-values.values.ok.0) in
    let is = get_or_read vs.items _ _ within c.index.ensures (pos 0) ∙ c.in_ok-values.ensures.are (item k) below in
    let more = items_more {Y = Item × ℤ} (λ x. (x, value_of w (noted c.args.history.now) x)) k in
    let fits : FitsSigned w64 c.index.result.now = search rules in
    c.in_ok-push.ensures.ok ∙ ap (λ v. c.loop-k.pairs ++ (item k, v) ∷ []) (to_z-of_z fits) ∙ ap (λ (ps : List (Item × ℤ)). ps ++ (item k, c.index.result.now) ∷ []) c.loop-k.invariant
    ∙ ap (λ v. map (λ x. (x, value_of w (noted c.args.history.now) x)) (items_below k) ++ (item k, v) ∷ []) is ∙ sym more
