use Rattle.std.proofs.Common.{ap, subst, ◌<◌, ◌∙◌, ℤ, List, [], ◌∷◌, ◌++◌, ◌&&◌, ◌||◌, map, length, ◌==◌, if◌then◌else◌, slice_index_or}
use Rattle.std.specs.List.{list_any}
use Rattle.std.specs.Vec.{with_item}
use Rattle.raid_base.specs.declared.names.Txn.{Txn}
use Rattle.raid_base.specs.declared.names.Item.{Item}
use Rattle.raid_base.specs.declared.names.Site.{Site}
use Rattle.raid_base.specs.Names.{is_txn, is_item, has_site, holds}
use Rattle.raid_faillock.proofs.Owed.{committed, wrote_more}
use Rattle.raid_faillock.proofs.debts.Debts.commit.Goals as goal

pub returns-clause-ok : goal.returns-clause-ok
returns-clause-ok c =
    let d = c.args.self.now in
    let writes = c.args.request.now.writes in
    let is =
    c.in_ok-wrote.ensures ∙ ap (λ (items : List Item). items ++ map (λ p. p.0) c.as_slice.result.now) c.items_of.ensures
    ∙ ap (λ (ws : List (Item × ℤ)). slice_index_or c.grow_lists.new.table.items c.args.txn.0 [] ++ map (λ p. p.0) ws) c.as_slice.ensures
    in
    committed d (record { owed = c.owe.new.owed; wrote = with_item c.grow_lists.new.table c.args.txn.0 c.in_ok-wrote.wrote; unpaid = c.list.new.unpaid }) c.args.txn c.args.request.now c.args.applied c.requires
    (λ s u least most. c.owe.ensures s u least most ∙ ap (λ (set : List Site). has_site set s || (is_txn u c.args.txn && has_site c.args.applied s)) (c.in_ok-grow_sets.ensures.same u.0))
    (λ u x.
    wrote_more c.grow_lists.new.table.items c.args.txn u x c.in_ok-wrote.wrote writes (subst (λ n. c.args.txn.0 < n) c.grow_lists.new.table.ok.0 c.in_ok-grow_lists.ensures.ok) is
    ∙ ap (λ (items : List Item). list_any (is_item x) items || (is_txn u c.args.txn && holds x writes)) (c.in_ok-grow_lists.ensures.same u.0))
    (c.list.ensures ∙ ap (λ (ts : List Txn). if length c.args.applied == 0 then ts else ts ++ c.args.txn ∷ []) c.in_ok-reserve.ensures.items)
