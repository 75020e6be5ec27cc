use Rattle.std.proofs.Common.{◌≡◌, false, List, sym, subst, ◌∙◌}
use Rattle.std.specs.List.{All}
use Rattle.raid_base.specs.declared.names.Txn.{Txn}
use Rattle.raid_rules.specs.History.{noted, has_ended}
use Rattle.raid_legal.specs.InForce.{in_force}
use Rattle.raid_placed.proofs.Listed.{placed_running_list}
use Rattle.raid_boxed.specs.Boxed.{kind_by, StandsBy}
use Rattle.raid_decide.proofs.Due.{as_many, none_has_ended, not_due, due_as_told}
use Rattle.raid_decide.proofs.forced.is_end_due.Goals as goal

pub returns-then-not-is_joint-clause-due : goal.returns-then-not-is_joint-clause-due
returns-then-not-is_joint-clause-due g c = λ w force graph since.
    let say = λ (v : g.dyn-1.0.I). (g.dyn-1.0.entry v).1 in
    let p = noted c.args.history.now in
    not_due w p (in_force w p).next (λ i. (in_force w p).next) (sym (as_many (kind_by say) (StandsBy say) c.args.eras.now.first c.args.eras.now.second (in_force w p) p force.views) ∙ sym c.is_joint.ensures ∙ c.if-not-is_joint.true)

pub returns-clause-due : goal.returns-clause-due
returns-clause-due g c = λ w force graph since.
    let say = λ (v : g.dyn-1.0.I). (g.dyn-1.0.entry v).1 in
    let h = c.args.history.now in
    let p = noted h in
    let ts = c.running.result.now in
    let list = placed_running_list w h ts force.placed c.running.ensures.has c.running.ensures.ascends in
    c.end_due.ensures.due graph (subst (λ (us : List Txn). All (λ t. has_ended p t ≡ false) us) (sym list) (none_has_ended w p))
    ∙ due_as_told w p (in_force w p).next c.args.eras.now.since ts (λ i. (in_force w p).next)
    (sym (as_many (kind_by say) (StandsBy say) c.args.eras.now.first c.args.eras.now.second (in_force w p) p force.views) ∙ sym c.is_joint.ensures ∙ c.if-not-is_joint.false) since list
