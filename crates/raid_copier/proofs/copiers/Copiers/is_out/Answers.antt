use Rattle.std.proofs.Common.{None, List, Option, slice_index_or, ap, ◌∙◌}
use Rattle.std.specs.Prelude.{is_some}
use Rattle.raid_base.specs.declared.names.Site.{Site}
use Rattle.raid_copier.specs.Copiers.{source_of}
use Rattle.raid_copier.proofs.Stand.{is_under_way}
use Rattle.raid_copier.proofs.copiers.Copiers.is_out.Goals as goal

pub returns-clause-out : goal.returns-clause-out
returns-clause-out c = λ out stands.
    let held = c.has.ensures ∙ ap (λ (l : List (Option Site)). is_some (slice_index_or l c.place_of.result None)) c.deref.ensures.value ∙ ap (λ k. is_some (slice_index_or c.args.self.now.sources.items k None)) c.place_of.ensures in
    held ∙ is_under_way c.args.target c.args.item (source_of c.args.self.now c.args.target c.args.item) out (stands c.args.target c.args.item c.requires.least c.requires.most)
