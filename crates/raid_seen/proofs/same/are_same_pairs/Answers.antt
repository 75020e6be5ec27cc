use Rattle.std.proofs.lemmas.Slice.Eq.{slice_eq-Decides}
use Rattle.raid_seen.proofs.Pairs.{is_same_pair}
use Rattle.raid_seen.proofs.same.are_same_pairs.Goals as goal

pub returns : goal.returns
returns c = slice_eq-Decides is_same_pair _ _ _ c.eq.ensures
