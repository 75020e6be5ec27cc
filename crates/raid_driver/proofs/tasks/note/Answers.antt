use Rattle.std.proofs.Common.{get_or, refl, sym, ap, ◌∙◌}
use Rattle.std.specs.Option.{option_map_or}
use Rattle.raid_driver.specs.declared.task.Task.{Task}
use Rattle.raid_driver.specs.Drive.{put_task, noted_at, is_done}
use Rattle.raid_driver.proofs.Places.{changes, done_set, noted_done, at_place}
use Rattle.raid_driver.proofs.tasks.note.Goals as goal

pub returns-in-Some-clause-tasks : goal.returns-in-Some-clause-tasks
returns-in-Some-clause-tasks c =
    let rs = c.args.tasks.now in
    let p = changes rs c.args.txn c.in-Some.k (get_or c.args.tasks.now c.in-Some.k c.index-tasks-k.result) c.note.new.self c.index-tasks-k.result c.requires c.in-Some.ensures refl (ap (λ (r : Task). r.txn) c.note.ensures) in
    p.put ∙ ap (λ z. put_task z rs) c.note.ensures ∙ sym (ap (λ o. option_map_or (λ (r : Task). put_task (record r { doing = noted_at c.args.ask c.args.site r.doing }) rs) o rs) p.found)

pub returns-in-Some-clause-txns : goal.returns-in-Some-clause-txns
returns-in-Some-clause-txns c =
    (changes c.args.tasks.now c.args.txn c.in-Some.k (get_or c.args.tasks.now c.in-Some.k c.index-tasks-k.result) c.note.new.self c.index-tasks-k.result c.requires c.in-Some.ensures refl (ap (λ (r : Task). r.txn) c.note.ensures)).txns

pub returns-in-Some-clause-done : goal.returns-in-Some-clause-done
returns-in-Some-clause-done c =
    let q = get_or c.args.tasks.now c.in-Some.k c.index-tasks-k.result in
    done_set c.args.tasks.now c.in-Some.k q c.note.new.self (at_place c.args.tasks.now c.args.txn c.in-Some.k q c.index-tasks-k.result c.in-Some.ensures refl)
    (ap (λ (r : Task). r.txn) c.note.ensures) (ap (λ (r : Task). is_done r.doing) c.note.ensures ∙ noted_done c.args.ask c.args.site q.doing)
