use Rattle.std.proofs.Common.{None, not, Option, slice_index_or, ap, sym, ◌∙◌}
use Rattle.raid_base.specs.declared.names.Site.{Site}
use Rattle.raid_base.specs.declared.entry.Entry.TheVariants.{Down}
use Rattle.raid_steps.specs.Sequencer.{ends_copying}
use Rattle.raid_copier.specs.Copiers.{source_of, place_of, copies, left}
use Rattle.raid_copier.proofs.Places.{target_at}
use Rattle.raid_copier.proofs.Stand.{thinned, lost_one}
use Rattle.raid_copier.proofs.copiers.Copiers.lost.Goals as goal

pub returns : goal.returns
returns c = λ out stands.
    thinned (λ z. not (ends_copying (Down c.args.site) z)) (source_of c.args.self.now) (λ s x. slice_index_or c.lose_in.new.table.items (place_of s x) None) out
    (λ s x least most.
    lost_one c.args.site s x (source_of c.args.self.now s x)
    ∙ ap (λ (r : Site). copies s x (left c.args.site r (source_of c.args.self.now s x))) (sym (target_at s x least most))
    ∙ ap (λ (o : Option Site). copies s x o) (sym (c.lose_in.ensures (place_of s x))))
    stands
