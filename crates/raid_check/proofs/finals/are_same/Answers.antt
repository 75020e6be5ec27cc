use Rattle.std.proofs.lemmas.Slice.Eq.{slice_eq-Decides}
use Rattle.raid_check.proofs.Lists.{is_same_txn}
use Rattle.raid_check.proofs.finals.are_same.Goals as goal

pub returns : goal.returns
returns c = slice_eq-Decides is_same_txn _ _ _ c.eq.ensures
