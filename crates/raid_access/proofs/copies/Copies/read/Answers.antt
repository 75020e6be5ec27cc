use Rattle.std.proofs.Common.{sym, ap, ◌∙◌, Some, option_map}
use Rattle.raid_access.specs.Stock.{Stock, copies_from, copy_in, held}
use Rattle.raid_access.proofs.Stored.{held_found, some_held}
use Rattle.raid_access.proofs.copies.Copies.read.Goals as goal

pub returns : goal.returns
returns c =
    let is = c.held.ensures ∙ ap (λ cs. option_map held (copy_in cs c.args.item)) (ap (copies_from 0) c.as_slice.ensures.value ∙ ap (λ (s : Stock). s.copies) c.self.view_is) in
    sym is ∙ some_held c.held.result _ (sym (held_found c.args.self.now.copies c.args.item c.held.result is) ∙ c.requires) ∙ ap Some (sym c.unwrap_or.ensures)
