use Rattle.std.proofs.Common.{◌≡◌, get_or, not, filter, position, Some, None, arith, sym, ◌∙◌, ap, subst}
use Rattle.std.proofs.lemmas.Grind.{common_steps}
use Rattle.raid_base.specs.Names.{is_txn}
use Rattle.raid_base.specs.declared.names.Txn.{Txn}
use Rattle.raid_base.specs.declared.request.Request.{Request}
use Rattle.raid_rules.specs.Committed.{AllOnce}
use Rattle.raid_waits.specs.Waiting.{request_of}
use Rattle.raid_waits.proofs.Removed.{txns_of, no_place, no_request, filter_out, request_there, left_there, filter_once}
use Rattle.raid_waits.proofs.waits.Waits.remove.Goals as goal

pub returns-in_err-place-clause-request : goal.returns-in_err-place-clause-request
returns-in_err-place-clause-request c =
    c.from_residual.ensures ∙ sym (subst (λ rs. request_of rs c.args.txn ≡ None) c.self.view_is (no_request c.self.inside.held.items c.args.txn (no_place c.self.inside.held.items c.args.txn (subst (λ rs. position (λ r. is_txn c.args.txn r.0) rs ≡ None) c.deref.ensures.value (sym c.in_err-place.ensures)))))

pub returns-in_err-place-clause-left : goal.returns-in_err-place-clause-left
returns-in_err-place-clause-left c =
    sym (subst (λ rs. filter (λ r. not (is_txn c.args.txn r.0)) rs ≡ rs) c.self.view_is (filter_out (λ r. is_txn c.args.txn r.0) c.self.inside.held.items (no_place c.self.inside.held.items c.args.txn (subst (λ rs. position (λ r. is_txn c.args.txn r.0) rs ≡ None) c.deref.ensures.value (sym c.in_err-place.ensures)))))

-- where the request stood
place_is : (c : goal.After-remove-request) → position (λ r. is_txn c.args.txn r.0) c.self.inside.held.items ≡ Some c.in_ok-place.place
place_is c = subst (λ rs. position (λ r. is_txn c.args.txn r.0) rs ≡ Some c.in_ok-place.place) c.deref.ensures.value (sym c.in_ok-place.ensures)

-- the list without the request
left_is : (c : goal.After-remove-request) → c.remove-request.new.self.items ≡ filter (λ r. not (is_txn c.args.txn r.0)) c.self.inside.held.items
left_is c = c.remove-request.ensures.items ∙ left_there c.args.txn c.self.inside.held.items c.in_ok-place.place c.remove-request.result c.self.invariant.1 (place_is c)

pub invariant_of-self : goal.invariant_of-self
invariant_of-self c = (
  grind (arith, common_steps, c.pop.ensures.len, c.remove-request.ensures.len, c.self.invariant.0),
  subst (λ rs. AllOnce (txns_of rs)) (sym (left_is c)) (filter_once (λ r. not (is_txn c.args.txn r.0)) c.self.inside.held.items c.self.invariant.1),
)

pub returns-clause-request : goal.returns-clause-request
returns-clause-request c =
    ap (λ (r : Txn × Request). Some r.1) c.remove-request.ensures.value
    ∙ sym (subst (λ rs. request_of rs c.args.txn ≡ Some (get_or c.self.inside.held.items c.in_ok-place.place c.remove-request.result).1) c.self.view_is
    (request_there c.args.txn c.self.inside.held.items c.in_ok-place.place c.remove-request.result (place_is c)))

pub returns-clause-left : goal.returns-clause-left
returns-clause-left c = left_is c ∙ ap (λ rs. filter (λ (r : Txn × Request). not (is_txn c.args.txn r.0)) rs) c.self.view_is
