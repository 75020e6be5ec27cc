use Rattle.std.proofs.Common.{◌≡◌, ℕ, ℤ, ◌+◌, List, [], ◌∷◌, ◌++◌, map, FitsSigned, w64, rules, ap, sym, ◌∙◌}
use Rattle.std.proofs.Math.Facts.{to_z-of_z}
use Rattle.std.proofs.lemmas.List.{map-append}
use Rattle.raid_base.specs.declared.names.Item.{Item}
use Rattle.raid_workload.specs.Parts.{count_from}
use Rattle.raid_rules.specs.History.{noted}
use Rattle.raid_legal.specs.Seen.{value_of}
use Rattle.raid_check.proofs.Lists.{made_more}
use Rattle.raid_check.proofs.finals.finals.Goals as goal

pub loop-place-preserved : goal.loop-place-preserved
loop-place-preserved c =
    let w = c.args.workload.now in
    let k = c.loop-place.place in
    let x : Item = record { 0 = k } in
    let item : ℕ → Item = λ k. record { 0 = k } in
    let final : Item → Item × ℤ = λ x. (x, value_of w (noted c.args.tables.now.history) x) in
    let fits : FitsSigned w64 c.get.result = search rules in
    let more : map final (map item (count_from 0 (k + 1))) ≡ map final (map item (count_from 0 k)) ++ final x ∷ [] = ap (map final) (made_more item k) ∙ map-append final (map item (count_from 0 k)) (x ∷ []) in
    c.in_ok-push.ensures.ok ∙ ap (λ v. c.loop-place.finals ++ (x, v) ∷ []) (to_z-of_z fits) ∙ ap (λ (ps : List (Item × ℤ)). ps ++ (x, c.get.result) ∷ []) c.loop-place.invariant
    ∙ ap (λ v. map final (map item (count_from 0 k)) ++ (x, v) ∷ []) (c.get.ensures ∙ c.requires.values x) ∙ sym more
