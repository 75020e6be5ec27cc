use Rattle.std.proofs.Common.{◌≡◌, not, ◌&&◌, List, Bool, [], ◌∷◌, ◌++◌, Some, None, append-nil, ap, sym, subst, ◌∙◌}
use Rattle.std.specs.Prelude.{find, option_to_list}
use Rattle.raid_base.specs.declared.names.Txn.{Txn}
use Rattle.raid_rules.specs.Conflict.{edges, is_next}
use Rattle.raid_conflict.specs.Arrange.{IsLeft, waits}
use Rattle.raid_conflict.specs.Found.{is_marked}
use Rattle.raid_conflict.proofs.Arranged.{next_is, past_none, left_less}
use Rattle.raid_conflict.proofs.arrange.list_next.Goals as goal

pub returns-in_ok-push-in-Some-clause-ok : goal.returns-in_ok-push-in-Some-clause-ok
returns-in_ok-push-in-Some-clause-ok c view s up l =
    let left = c.args.left.now.items in
    let listed = c.args.listed.now in
    let u : Txn = c.in-Some.txn in
    let e : find (is_next (edges view) c.args.all.now listed) c.args.all.now ≡ Some u =
    sym (next_is c.args.tables.now view s up c.args.all.now left listed l)
    ∙ sym (past_none c.args.tables.now left c.args.all.now c.args.first c.requires.none)
    ∙ ap (find (λ u. is_marked left u && not (waits c.args.tables.now left u))) (sym c.rest.ensures)
    ∙ ap (λ (z : List Bool). find (λ u. is_marked z u && not (waits c.args.tables.now z u)) c.rest.result.now) (sym c.as_slice.ensures.value) ∙ sym c.in-Some.ensures in
    let pushed : c.push.new.self ≡ listed ++ u ∷ [] = c.in_ok-push-in-Some.ensures.ok in
    (pushed ∙ ap (λ o. listed ++ option_to_list o) (sym e), subst (λ z. IsLeft c.args.all.now c.unmark.new.left.items z) (sym pushed) (left_less c.args.all.now left c.unmark.new.left.items listed u l c.unmark.ensures))

pub returns-in-None-clause-ok : goal.returns-in-None-clause-ok
returns-in-None-clause-ok c view s up l =
    let left = c.args.left.now.items in
    let listed = c.args.listed.now in
    let e : find (is_next (edges view) c.args.all.now listed) c.args.all.now ≡ None =
    sym (next_is c.args.tables.now view s up c.args.all.now left listed l)
    ∙ sym (past_none c.args.tables.now left c.args.all.now c.args.first c.requires.none)
    ∙ ap (find (λ u. is_marked left u && not (waits c.args.tables.now left u))) (sym c.rest.ensures)
    ∙ ap (λ (z : List Bool). find (λ u. is_marked z u && not (waits c.args.tables.now z u)) c.rest.result.now) (sym c.as_slice.ensures.value) ∙ sym c.in-None.ensures in
    (sym (ap (λ o. listed ++ option_to_list o) e ∙ append-nil listed), l)
