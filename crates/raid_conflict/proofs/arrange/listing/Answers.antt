use Rattle.std.proofs.Common.{◌≡◌, false, Bool, List, [], take, ap, sym, subst, ◌∙◌}
use Rattle.std.specs.List.{list_any}
use Rattle.std.proofs.lemmas.List.Sums.{fold_more}
use Rattle.raid_base.specs.declared.names.Txn.{Txn}
use Rattle.raid_rules.specs.Conflict as words
use Rattle.raid_conflict.specs.Found.{is_marked}
use Rattle.raid_conflict.proofs.Arranged.{none_left}
use Rattle.raid_conflict.proofs.arrange.listing.Goals as goal

pub place_left-first-requires-clause-none : goal.place_left-first-requires-clause-none
place_left-first-requires-clause-none c = subst (λ (z : List Bool). list_any (λ t. is_marked z t) (take c.loop-round.first c.args.all.now) ≡ false) (sym c.as_slice.ensures.value) c.loop-round.invariant.none

pub list_next-requires-clause-none : goal.list_next-requires-clause-none
list_next-requires-clause-none c = subst (λ (z : List Bool). list_any (λ t. is_marked z t) (take c.place_left-first.result c.args.all.now) ≡ false) c.as_slice.ensures.value c.place_left-first.ensures.none

pub loop-round-preserved : goal.loop-round-preserved
loop-round-preserved c = record {
  listed = λ view s up l.
      let before = c.loop-round.invariant.listed view s up l in
      let after = c.in_ok-list_next.ensures.ok view s up before.1 in (
        after.0
            ∙ ap (words.list_next (words.edges view) c.args.all.now) before.0
            ∙ sym (fold_more (λ listed t. words.list_next (words.edges view) c.args.all.now listed) [] c.args.all.now c.loop-round._round-index (let t : Txn = record { 0 = 0 } in t) c.loop-round-test.true),
        after.1,
      );
  less = λ t m. c.loop-round.invariant.less t (c.list_next.ensures.less t m);
  within = c.place_left-first.ensures.within;
  none = none_left c.loop-round.left.items c.list_next.new.left.items (take c.place_left-first.result c.args.all.now) c.list_next.ensures.less
      (subst (λ (z : List Bool). list_any (λ t. is_marked z t) (take c.place_left-first.result c.args.all.now) ≡ false) c.as_slice.ensures.value c.place_left-first.ensures.none);
}
