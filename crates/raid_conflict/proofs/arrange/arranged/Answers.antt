use Rattle.std.proofs.Common.{◌≡◌, Bool, true, List, Some, None, ap, sym, subst, ◌∙◌}
use Rattle.std.specs.Prelude.{find}
use Rattle.raid_base.specs.declared.names.Txn.{Txn}
use Rattle.raid_rules.specs.declared.order.Order.TheVariants.{Whole}
use Rattle.raid_rules.specs.Conflict.{edges, committed, listing}
use Rattle.raid_rules.specs.Committed.{IsCycle, IsOrderOf}
use Rattle.raid_rules.proofs.Txns.{found}
use Rattle.raid_conflict.specs.Arrange.{IsLeft, Joined, waits}
use Rattle.raid_conflict.specs.Found.{is_marked}
use Rattle.raid_conflict.proofs.Arranged.{none_listed, whole_order, cyclic_order, all_wait}
use Rattle.raid_conflict.proofs.arrange.arranged.Goals as goal

pub returns-in-None : goal.returns-in-None
returns-in-None c view s up =
    let all = c.as_slice-all.result.now in
    let left = c.listing.new.left.items in
    let listed = c.in_ok-listed.listed in
    let is : all ≡ committed view = c.as_slice-all.ensures.value ∙ s.committed in
    let l = c.in_ok-listed.ensures.ok view s up (none_listed all c.in_ok-left.left.items c.in_ok-left.ensures) in
    subst (λ (z : List Txn). listed ≡ listing (edges view) z → IsLeft z left listed → find (λ t. is_marked left t) z ≡ None → IsOrderOf view (Whole listed)) (sym is)
    (whole_order view left listed) l.0 l.1 (ap (λ (z : List Bool). find (λ t. is_marked z t) all) (sym c.as_slice.ensures.value) ∙ sym c.in-None.ensures)

pub cycle-requires-clause-left : goal.cycle-requires-clause-left
cycle-requires-clause-left c =
    subst (λ (z : List Bool). is_marked z c.in-Some.start ≡ true) (sym c.as_slice-in-Some.ensures.value)
    (found (λ t. is_marked c.listing.new.left.items t) c.as_slice-all.result.now c.in-Some.start (ap (λ (z : List Bool). find (λ t. is_marked z t) c.as_slice-all.result.now) (sym c.as_slice.ensures.value) ∙ sym c.in-Some.ensures)).0

pub returns : goal.returns
returns c view s up =
    let all = c.as_slice-all.result.now in
    let left = c.listing.new.left.items in
    let listed = c.in_ok-listed.listed in
    let cycle = c.in_ok-cycle-in-Some.cycle in
    let is : all ≡ committed view = c.as_slice-all.ensures.value ∙ s.committed in
    let l = c.in_ok-listed.ensures.ok view s up (none_listed all c.in_ok-left.left.items c.in_ok-left.ensures) in
    let some : find (λ t. is_marked left t) all ≡ Some c.in-Some.start = ap (λ (z : List Bool). find (λ t. is_marked z t) all) (sym c.as_slice.ensures.value) ∙ sym c.in-Some.ensures in
    let wait : (v : Txn) → is_marked left v ≡ true → waits c.args.tables.now left v ≡ true =
    subst (λ (z : List Txn). listed ≡ listing (edges view) z → IsLeft z left listed → find (λ t. is_marked left t) z ≡ Some c.in-Some.start → (v : Txn) → is_marked left v ≡ true → waits c.args.tables.now left v ≡ true) (sym is)
    (all_wait c.args.tables.now view s up left listed c.in-Some.start) l.0 l.1 some in
    let found : IsCycle (Joined c.args.tables.now left) cycle =
    subst (λ (z : List Bool). ((v : Txn) → is_marked z v ≡ true → waits c.args.tables.now z v ≡ true) → IsCycle (Joined c.args.tables.now z) cycle) c.as_slice-in-Some.ensures.value c.in_ok-cycle-in-Some.ensures wait in
    cyclic_order c.args.tables.now view s up left listed cycle (subst (λ (z : List Txn). IsLeft z left listed) is l.1) found
