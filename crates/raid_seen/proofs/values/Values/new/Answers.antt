use Rattle.std.proofs.Common.{◌≡◌, pos, take, map, ap, arith, ◌∙◌}
use Rattle.std.proofs.lemmas.List.{take_all}
use Rattle.std.specs.Prelude.{slice_index_or}
use Rattle.raid_workload.specs.declared.workload.ItemLine.{ItemLine}
use Rattle.raid_seen.proofs.Pushed.{initial_in}
use Rattle.raid_seen.proofs.values.Values.new.Goals as goal

pub returns : goal.returns
returns c = λ x.
    let lines = c.as_slice-line-items.result.now in
    let all : take c.loop-line.line-index lines ≡ lines = take_all _ _ (omega arith) in
    ap (λ vs. slice_index_or vs x.0 (pos 0)) (c.loop-line.invariant ∙ ap (map (λ (line : ItemLine). line.value)) (all ∙ c.as_slice-line-items.ensures))
    ∙ initial_in c.args.workload.now.items x.0
