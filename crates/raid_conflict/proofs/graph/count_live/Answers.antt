use Rattle.std.proofs.Common.{◌≡◌, ◌↔◌, true, List, subst}
use Rattle.std.specs.List.{filter}
use Rattle.raid_base.specs.declared.names.Txn.{Txn}
use Rattle.raid_base.specs.Names.{has_txn}
use Rattle.raid_conflict.specs.Live.{parts, is_live, Reached}
use Rattle.raid_conflict.proofs.Alive.{alive_is, alive_once}
use Rattle.raid_conflict.proofs.graph.count_live.Goals as goal

pub returns-clause-live : goal.returns-clause-live
returns-clause-live c view s =
    c.len-count.ensures.once (filter (is_live view) (parts view)) (alive_once view)
    (alive_is c.args.state.now view s c.reach_all.new.found.0
    (λ v. subst (λ (z : List Txn). (has_txn c.reach_all.new.found.0 v ≡ true) ↔ Reached c.args.state.now.tables z v) c.as_slice.ensures.value (c.reach_all.ensures.reached v)))
