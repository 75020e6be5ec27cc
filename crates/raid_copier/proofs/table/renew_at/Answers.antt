use Rattle.std.proofs.Common.{◌∙◌, ◌==◌, ap, sym, None, if◌then◌else◌, slice_index_or, ◌&&◌}
use Rattle.raid_base.specs.Names.{is_item, is_site}
use Rattle.raid_copier.specs.Copiers.{place_of}
use Rattle.raid_copier.proofs.Places.{same_place}
use Rattle.raid_copier.proofs.Renewed.{renewed_at, passed_by}
use Rattle.raid_copier.proofs.table.renew_at.Goals as goal

pub returns-then-contains : goal.returns-then-contains
returns-then-contains c = λ s x least most.
    let old = slice_index_or c.args.table.now.items (place_of s x) None in
    c.take_out.ensures (place_of s x)
    ∙ ap (λ k. if place_of s x == k then None else old) c.place_of.ensures
    ∙ renewed_at c.args.target s x c.args.item _ (place_of s x == place_of c.args.target c.args.item) old (same_place s c.args.target x c.args.item least most c.requires.least c.requires.most) (sym c.contains.ensures ∙ c.if-contains.true)

pub returns-else-contains : goal.returns-else-contains
returns-else-contains c = λ s x least most. passed_by (is_site c.args.target s && is_item x c.args.item) _ _ (sym c.contains.ensures ∙ c.if-contains.false)
