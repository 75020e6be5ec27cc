use Rattle.std.proofs.Common.{◌≡◌, true, List, [], ◌∷◌, ◌++◌, ap, sym, subst, ◌∙◌}
use Rattle.raid_base.specs.declared.entry.Entry.{Entry}
use Rattle.raid_rules.specs.History.{noted}
use Rattle.raid_history.specs.Tables.{may_follow}
use Rattle.raid_history.proofs.Stand.{on_ok}
use Rattle.raid_check.specs.declared.tables.Tables.{Tables}
use Rattle.raid_check.proofs.Kept.{allowed_suits, more_tables}
use Rattle.raid_check.proofs.tables.Tables.note.Goals as goal

pub keep-requires-clause-suits : goal.keep-requires-clause-suits
keep-requires-clause-suits c = allowed_suits c.args.workload.now c.args.self.now c.args.entry.now c.requires.of c.requires.allowed

pub push-requires-clause-fits : goal.push-requires-clause-fits
push-requires-clause-fits c =
    let s = allowed_suits c.args.workload.now c.args.self.now c.args.entry.now c.requires.of c.requires.allowed in
    subst (λ (e : Entry). may_follow (noted c.keep.new.self.history) e ≡ true) (sym c.in_ok-own.ensures)
    (subst (λ (h : List Entry). may_follow (noted h) c.args.entry.now ≡ true) (sym c.keep.ensures.history) s.follows)

pub returns-clause-of : goal.returns-clause-of
returns-clause-of c =
    let before : Tables = c.args.self.now in
    let e = c.args.entry.now in
    let after : Tables = record (c.keep.new.self) { history = c.push.new.self } in
    on_ok c.push.result
    (λ pushed.
    more_tables c.args.workload.now before after e c.requires.of.legal c.requires.allowed (pushed ∙ ap (λ (h : List Entry). h ++ c.in_ok-own.own ∷ []) c.keep.ensures.history ∙ ap (λ (x : Entry). before.history ++ x ∷ []) c.in_ok-own.ensures)
    c.in_ok-keep.ensures.kept c.in_ok-keep.ensures.values c.in_ok-keep.ensures.readings c.in_ok-keep.ensures.outages)
    c.push.ensures.ok
