use Rattle.std.proofs.Common.{None, not, ℤ, List, Option, slice_index_or, ap, sym, ◌∙◌, ◌&&◌, if◌then◌else◌}
use Rattle.raid_base.specs.declared.names.Item.{Item}
use Rattle.raid_base.specs.declared.names.Site.{Site}
use Rattle.raid_base.specs.declared.entry.Entry.TheVariants.{Commit}
use Rattle.raid_base.specs.Names.{has_site, holds}
use Rattle.raid_steps.specs.Sequencer.{ends_copying}
use Rattle.raid_copier.specs.Copiers.{source_of, place_of, copies}
use Rattle.raid_copier.proofs.Stand.{thinned}
use Rattle.raid_copier.proofs.Renewed.{renewed_one}
use Rattle.raid_copier.proofs.copiers.Copiers.renewed.Goals as goal

pub returns : goal.returns
returns c = λ out t request same stands.
    let applied = c.args.applied in
    thinned (λ z. not (ends_copying (Commit t request applied) z)) (source_of c.args.self.now) (λ s x. slice_index_or c.renew_all.new.table.items (place_of s x) None) out
    (λ s x least most.
    renewed_one t request c.args.writes.now applied s x (source_of c.args.self.now s x) same
    ∙ ap (λ (ps : List (Item × ℤ)). copies s x (if holds x ps && has_site applied s then None else source_of c.args.self.now s x)) (sym c.as_slice.ensures)
    ∙ ap (λ (o : Option Site). copies s x o) (sym (c.renew_all.ensures s x least most)))
    stands
