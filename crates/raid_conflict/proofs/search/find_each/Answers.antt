use Rattle.std.proofs.Common.{◌<◌, ℕ, refl, sym, subst, slice_index_or}
use Rattle.std.proofs.lemmas.List.Folds.{list_any_at}
use Rattle.raid_base.specs.declared.names.Txn.{Txn}
use Rattle.raid_base.specs.Names.{is_txn}
use Rattle.raid_rules.proofs.Txns.{eq_self}
use Rattle.raid_conflict.proofs.search.find_each.Goals as goal

pub add-requires : goal.add-requires
add-requires c =
    let d : Txn = record { 0 = 0 } in
    let t : Txn = slice_index_or c.args.txns.now c.loop-txn.txn-index d in
    subst (λ (z : ℕ). t.0 < z) (sym c.loop-txn.invariant.places)
    (c.requires t (list_any_at (is_txn t) c.args.txns.now c.loop-txn.txn-index d c.loop-txn-test.true (eq_self t.0 t.0 refl)))
