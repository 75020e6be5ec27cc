use Rattle.std.proofs.Common.{List, map, ap, sym, ◌∙◌}
use Rattle.std.specs.List.{list_all}
use Rattle.raid_base.specs.declared.names.Item.{Item}
use Rattle.raid_base.specs.declared.names.Site.{Site}
use Rattle.raid_base.specs.declared.report.CopyLine.{CopyLine}
use Rattle.raid_rules.specs.History.{noted}
use Rattle.raid_check.specs.Replay.{is_current}
use Rattle.raid_check.proofs.Judged.{refuted, none_iff, copies_iff}
use Rattle.raid_check.proofs.copies.are_right.Goals as goal

-- where a copy is
abbrev place : CopyLine → Site × Item
place c = (c.site, c.item)

pub returns-then-not-are_same : goal.returns-then-not-are_same
returns-then-not-are_same c = none_iff (λ r. refuted _ c.are_same.ensures c.if-not-are_same.true
    (c.as_slice-2.ensures.value ∙ c.in_ok-told.ensures ∙ ap (λ (cs : List CopyLine). map place cs) c.as_slice.ensures ∙ r.all ∙ sym c.in_ok-places.ensures ∙ sym c.as_slice-3.ensures.value))

pub returns : goal.returns
returns c =
    let w = c.args.workload.now in
    let r = c.args.report.now in
    let h = c.args.tables.now.history in
    copies_iff w r h c.are_current.result c.requires.entries
    (ap (λ (cs : List CopyLine). map place cs) (sym c.as_slice.ensures) ∙ sym c.in_ok-told.ensures ∙ sym c.as_slice-2.ensures.value ∙ c.are_same.ensures.0 c.if-not-are_same.false ∙ c.as_slice-3.ensures.value ∙ c.in_ok-places.ensures)
    (c.are_current.ensures ∙ ap (λ (cs : List CopyLine). list_all (is_current w (noted h) r.finals) cs) c.as_slice-4.ensures)
