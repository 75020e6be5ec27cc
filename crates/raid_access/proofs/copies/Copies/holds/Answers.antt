use Rattle.std.proofs.Common.{sym, ap, ◌∙◌, option_map}
use Rattle.raid_access.specs.Stock.{Stock, copies_from, copy_in, held}
use Rattle.raid_access.proofs.Stored.{held_found}
use Rattle.raid_access.proofs.copies.Copies.holds.Goals as goal

pub returns : goal.returns
returns c = c.is_some.ensures ∙ sym (held_found c.args.self.now.copies c.args.item c.held.result (c.held.ensures ∙ ap (λ cs. option_map held (copy_in cs c.args.item)) (ap (copies_from 0) c.as_slice.ensures.value ∙ ap (λ (s : Stock). s.copies) c.self.view_is)))
