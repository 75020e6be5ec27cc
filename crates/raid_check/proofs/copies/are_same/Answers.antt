use Rattle.std.proofs.lemmas.Slice.Eq.{slice_eq-Decides}
use Rattle.raid_check.proofs.Lists.{is_same_place}
use Rattle.raid_check.proofs.copies.are_same.Goals as goal

pub returns : goal.returns
returns c = slice_eq-Decides is_same_place _ _ _ c.eq.ensures
