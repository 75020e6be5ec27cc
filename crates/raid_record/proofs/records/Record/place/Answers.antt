use Rattle.std.proofs.Common.{◌≡◌, ◌+◌, true, List, [], ◌∷◌, ◌++◌, length, length-append, arith, ap, sym, subst, ◌∙◌}
use Rattle.raid_base.specs.declared.entry.Entry.{Entry}
use Rattle.raid_workload.specs.Parts.{placement}
use Rattle.raid_rules.specs.History.{noted, add, next}
use Rattle.raid_history.specs.Tables.{may_follow}
use Rattle.raid_history.proofs.Stand.{length_noted, on_ok}
use Rattle.raid_placed.proofs.Orderly.{placeable_follows}
use Rattle.raid_record.specs.declared.records.Record.{Record}
use Rattle.raid_record.proofs.Placing.{suits}
use Rattle.raid_record.proofs.Stepped.{kept_push, placed_turn}
use Rattle.raid_record.proofs.records.Record.place.Goals as goal

pub note-requires-clause-suits : goal.note-requires-clause-suits
note-requires-clause-suits c =
    suits c.args.workload.now c.args.self.now.history c.args.entry c.args.self.now.locks c.requires.kept.placed c.requires.placeable c.requires.sites c.requires.kept.tables.locks

pub push-requires-clause-fits : goal.push-requires-clause-fits
push-requires-clause-fits c =
    subst (λ (h : List Entry). may_follow (noted h) c.args.entry ≡ true) (sym c.note.ensures.history) (placeable_follows c.args.workload.now (noted c.args.self.now.history) c.args.entry c.requires.placeable)

pub returns-clause-kept : goal.returns-clause-kept
returns-clause-kept c =
    let after : Record = record (c.note.new.self) { history = c.push.new.self } in
    on_ok c.push.result
    (λ pushed.
    kept_push c.args.workload.now c.args.self.now after c.args.entry c.requires.kept c.requires.placeable (pushed ∙ ap (λ (h : List Entry). h ++ c.args.entry ∷ []) c.note.ensures.history)
    c.note.ensures.announced
    c.in_ok-note.ensures.tables)
    c.push.ensures.ok

pub returns-clause-turns : goal.returns-clause-turns
returns-clause-turns c =
    let w = c.args.workload.now in
    let h = c.args.self.now.history in
    let e = c.args.entry in
    let p = add (noted h) e in
    let after : Record = record (c.note.new.self) { history = c.push.new.self } in
    let tables = c.in_ok-note.ensures.tables in
    let is = c.vector-vector.ensures w.sites (placement w) p tables.locks in
    let size : length p ≡ length (noted h) + 1 = length-append (noted h) (next (noted h) e ∷ []) in
    let number : c.len-number.result + 1 ≡ length p = omega (arith, c.len-number.ensures, ap length c.note.ensures.history, length_noted h, size) in
    on_ok c.push.result
    (λ pushed.
    let history : after.history ≡ h ++ e ∷ [] = pushed ∙ ap (λ (z : List Entry). z ++ e ∷ []) c.note.ensures.history in
    placed_turn w c.args.self.now after c.args.outs.now c.sends.new.outs c.args.ask e
    (kept_push w c.args.self.now after e c.requires.kept c.requires.placeable history c.note.ensures.announced tables)
    history
    c.note.ensures.announced
    c.in_ok-note.ensures.copying
    (c.in_ok-sends.ensures p is (ap length is ∙ sym (ap length tables.locks.vector) ∙ tables.locks.count) tables.nexts number))
    c.push.ensures.ok
