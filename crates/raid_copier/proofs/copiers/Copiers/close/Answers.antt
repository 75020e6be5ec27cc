use Rattle.std.proofs.Common.{None, not, if◌then◌else◌, ◌==◌, Bool, Option, slice_index_or, ap, sym, ◌∙◌}
use Rattle.raid_base.specs.declared.names.Site.{Site}
use Rattle.raid_copier.specs.Copiers.{source_of, place_of, is_to, copies}
use Rattle.raid_copier.proofs.Places.{same_place}
use Rattle.raid_copier.proofs.Stand.{thinned, closed_one}
use Rattle.raid_copier.proofs.copiers.Copiers.close.Goals as goal

pub returns : goal.returns
returns c = λ out stands.
    let t = c.args.target in
    let y = c.args.item in
    thinned (λ z. not (is_to t y z)) (source_of c.args.self.now) (λ s x. slice_index_or c.take_out.new.table.items (place_of s x) None) out
    (λ s x least most.
    closed_one t s y x (source_of c.args.self.now s x)
    ∙ ap (λ (b : Bool). copies s x (if b then None else source_of c.args.self.now s x)) (sym (same_place s t x y least most c.requires.least c.requires.most))
    ∙ ap (λ k. copies s x (if place_of s x == k then None else source_of c.args.self.now s x)) (sym c.place_of.ensures)
    ∙ ap (λ (o : Option Site). copies s x o) (sym (c.take_out.ensures (place_of s x))))
    stands
