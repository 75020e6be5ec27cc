use Rattle.std.proofs.Common.{◌≡◌, true, List, None, arith, sym, subst, ◌∙◌}
use Rattle.std.proofs.lemmas.Grind.{common_steps}
use Rattle.raid_base.specs.declared.names.Txn.{Txn}
use Rattle.raid_base.specs.declared.entry.Entry.{Entry}
use Rattle.raid_base.specs.declared.entry.Entry.TheVariants.{Begin}
use Rattle.raid_rules.specs.History.{noted}
use Rattle.raid_legal.specs.Forced.{forced}
use Rattle.raid_placed.proofs.Opening.{opening_quiet}
use Rattle.raid_placed.proofs.Sent.{unforced_placeable}
use Rattle.raid_record_tests.proofs.desk.after_first.Goals as goal

pub place-requires-clause-placeable : goal.place-requires-clause-placeable
place-requires-clause-placeable c =
    let w = c.in_ok-workload.workload in
    let r = c.in_ok-record.record in
    let first : Txn = record { 0 = 1 } in
    let opened = c.in_ok-record.ensures in
    let yes : c.may_begin.result ≡ true = grind (arith, common_steps, c.if-not-may_begin.false) in
    unforced_placeable w (noted r.history) (Begin first c.home-home.result) (subst (λ (h : List Entry). forced w (noted h) ≡ None) (sym opened.history) (opening_quiet w))
    (sym c.home-home.ensures, sym (c.may_begin.ensures opened.kept) ∙ yes)
