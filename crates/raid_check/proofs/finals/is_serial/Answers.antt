use Rattle.std.proofs.Common.{List, map, ap, sym, ◌∙◌, subst}
use Rattle.raid_base.specs.declared.entry.Entry.{Entry}
use Rattle.raid_workload.specs.Parts.{items}
use Rattle.raid_rules.specs.History.{noted}
use Rattle.raid_rules.specs.Conflict.{serial_order}
use Rattle.raid_legal.specs.Legal.{Legal}
use Rattle.raid_legal.specs.Seen.{value_of}
use Rattle.raid_check.proofs.Judged.{refuted, none_iff, serial_iff}
use Rattle.raid_check.proofs.finals.is_serial.Goals as goal

pub returns-then-not-are_same : goal.returns-then-not-are_same
returns-then-not-are_same c = none_iff (λ s. refuted _ c.are_same.ensures c.if-not-are_same.true
    (c.as_slice.ensures ∙ s.in_order ∙ ap (λ (h : List Entry). serial_order (noted h)) (sym c.requires.entries) ∙ sym c.in_ok-order.ensures ∙ sym c.as_slice-2.ensures))

pub returns : goal.returns
returns c =
    let w = c.args.workload.now in
    let r = c.args.report.now in
    let is = c.requires.entries in
    let finals = c.as_slice-4.ensures ∙ c.in_ok-finals.ensures ∙ ap (λ (h : List Entry). map (λ x. (x, value_of w (noted h) x)) (items w)) is in
    serial_iff w r c.are_same_pairs.result (subst (Legal w) is c.requires.of.legal)
    (sym c.as_slice.ensures ∙ c.are_same.ensures.0 c.if-not-are_same.false ∙ c.as_slice-2.ensures ∙ c.in_ok-order.ensures ∙ ap (λ (h : List Entry). serial_order (noted h)) is)
    (λ t. sym c.as_slice-3.ensures ∙ c.are_same_pairs.ensures.0 t ∙ finals, λ q. c.are_same_pairs.ensures.1 (c.as_slice-3.ensures ∙ q ∙ sym finals))
