use Rattle.std.proofs.Common.{◌≡◌, ℤ, List, Option, subst, ◌∙◌}
use Rattle.raid_program.specs.Run.{values, written}
use Rattle.raid_program.proofs.Tables.{told_alone}
use Rattle.raid_program.proofs.table.Table.new.Goals as goal

pub returns : goal.returns
returns c =
    subst (λ (slots : List (Option ℤ)). values c.apply.new.self ≡ written (values slots) c.args.pairs.now) c.new.ensures.items
    (subst (λ (pairs : List (_ × ℤ)). values c.apply.new.self ≡ written (values c.new.result.items) pairs) c.as_slice.ensures c.in_ok-apply.ensures.ok) ∙ told_alone c.args.pairs.now
