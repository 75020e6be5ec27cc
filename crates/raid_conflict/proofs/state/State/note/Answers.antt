use Rattle.std.proofs.Common.{List, sym, subst}
use Rattle.raid_base.specs.declared.names.Txn.{Txn}
use Rattle.raid_conflict.specs.Live.{Within}
use Rattle.raid_conflict.proofs.state.State.note.Goals as goal

pub returns-clause-within : goal.returns-clause-within
returns-clause-within c places w l = c.note-2.ensures.within places (subst (λ (z : List Txn). Within places z) (sym c.make_room.ensures.list) w) l
