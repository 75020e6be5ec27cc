use Rattle.std.proofs.Common.{◌≡◌, ◌<◌, length, true, get_or, ◌∙◌, sym, arith}
use Rattle.std.proofs.lemmas.Grind.{common_steps}
use Rattle.std.proofs.lemmas.Int.{to_z-of_z}
use Rattle.raid_base.specs.Names.{is_item}
use Rattle.raid_program.proofs.Puts.{next_same}
use Rattle.raid_seen.proofs.answers.put.Goals as goal

pub returns-then-eq : goal.returns-then-eq
returns-then-eq c =
    let f = c.ranges.value in
    let below : c.loop-k.k < length c.loop-k.pairs.items = grind (arith, common_steps) in
    let same : is_item c.args.item (get_or c.loop-k.pairs.items c.loop-k.k c.index.result.now).0 ≡ true = grind (arith, common_steps) in
    simp (to_z-of_z, f) (sym (next_same c.loop-k.pairs.items c.args.item c.args.value c.loop-k.k c.index.result.now below same) ∙ (simp (to_z-of_z, f) at c.loop-k.invariant.others))
