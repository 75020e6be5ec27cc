use Rattle.std.proofs.Common.{◌≡◌, false, ◌∷◌, [], ◌++◌, arith, sym, ◌∙◌, ap, subst}
use Rattle.std.proofs.lemmas.Grind.{common_steps}
use Rattle.raid_rules.specs.Committed.{AllOnce}
use Rattle.raid_waits.specs.Waiting.{is_among}
use Rattle.raid_waits.proofs.Removed.{txns_of, push_once}
use Rattle.raid_waits.proofs.waits.Waits.push.Goals as goal

pub invariant_of-self-2 : goal.invariant_of-self-2
invariant_of-self-2 c =
    let more : c.push_reserved.new.self.items ≡ c.self.inside.held.items ++ (c.args.txn, c.args.request) ∷ [] = c.push_reserved.ensures.items ∙ ap (λ z. z ++ (c.args.txn, c.args.request) ∷ []) c.reserve.ensures.items in (
      grind (arith, common_steps, c.self.invariant.0, more, c.in_ok-push.ensures.items),
      subst (λ z. AllOnce (txns_of z)) (sym more) (push_once c.self.inside.held.items c.args.txn c.args.request c.self.invariant.1 (subst (λ z. is_among z c.args.txn ≡ false) (sym c.self.view_is) c.requires)),
    )
