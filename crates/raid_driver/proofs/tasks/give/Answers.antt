use Rattle.std.proofs.Common.{get_or, refl, sym, ap, ◌∙◌, ◌++◌, []}
use Rattle.std.specs.Option.{option_map_or}
use Rattle.std.proofs.Math.Facts.{to_z-of_z}
use Rattle.raid_driver.specs.Drive.{put_task, gave, gave_outs}
use Rattle.raid_driver.proofs.Places.{changes, on_ok}
use Rattle.raid_driver.proofs.tasks.give.Goals as goal

pub returns-in-Some-clause-tasks : goal.returns-in-Some-clause-tasks
returns-in-Some-clause-tasks c =
    let rs = c.args.tasks.now in
    let q = get_or rs c.in-Some.k c.index-tasks-k.result in
    let p = changes rs c.args.txn c.in-Some.k (get_or c.args.tasks.now c.in-Some.k c.index-tasks-k.result) c.give.new.self c.index-tasks-k.result c.requires.ascends c.in-Some.ensures refl c.give.ensures.txn in
    on_ok c.give.result (λ is. p.put ∙ ap (λ z. put_task z rs) (is ∙ ap (λ v. gave c.args.program.now c.args.ask v q) (to_z-of_z c.ranges.value)) ∙ sym (ap (λ o. option_map_or (λ r. put_task (gave c.args.program.now c.args.ask c.args.value r) rs) o rs) p.found)) c.give.ensures.ok

pub returns-in-Some-clause-outs : goal.returns-in-Some-clause-outs
returns-in-Some-clause-outs c =
    let rs = c.args.tasks.now in
    let q = get_or rs c.in-Some.k c.index-tasks-k.result in
    let outs = c.args.outs.now in
    let p = changes rs c.args.txn c.in-Some.k (get_or c.args.tasks.now c.in-Some.k c.index-tasks-k.result) c.give.new.self c.index-tasks-k.result c.requires.ascends c.in-Some.ensures refl c.give.ensures.txn in
    on_ok c.give.result (λ is. is ∙ ap (λ v. outs ++ gave_outs c.args.program.now c.args.ask v q) (to_z-of_z c.ranges.value) ∙ sym (ap (λ o. outs ++ option_map_or (gave_outs c.args.program.now c.args.ask c.args.value) o []) p.found)) c.give.ensures.outs

pub returns-in-Some-clause-txns : goal.returns-in-Some-clause-txns
returns-in-Some-clause-txns c =
    let p = changes c.args.tasks.now c.args.txn c.in-Some.k (get_or c.args.tasks.now c.in-Some.k c.index-tasks-k.result) c.give.new.self c.index-tasks-k.result c.requires.ascends c.in-Some.ensures refl c.give.ensures.txn in
    on_ok c.give.result (λ is. p.txns) c.give.ensures.ok
