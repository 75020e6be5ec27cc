-- When the end of a switch is due, as the controllers in force and the graph tell.
use Rattle.std.proofs.Common.{◌≡◌, ℕ, true, false, not, List, ◌∷◌, Option, Some, None, ap, sym, refl, ◌∙◌}
use Rattle.std.specs.Prelude.{is_some, option_to_list}
use Rattle.std.specs.List.{All, list_any}
use Rattle.std.proofs.lemmas.Bool.{true≢false, and_parts}
use Rattle.std.proofs.lemmas.List.Elements.{filter_passes}
use Rattle.raid_base.specs.declared.names.Txn.{Txn}
use Rattle.raid_base.specs.declared.entry.Noted.{Noted}
use Rattle.raid_base.specs.declared.verdict.Kind.{Kind}
use Rattle.raid_workload.specs.declared.workload.Workload.{Workload}
use Rattle.raid_workload.specs.Parts.{txns}
use Rattle.raid_rules.specs.History.{has_ended, is_running}
use Rattle.raid_rules.specs.Views.{view_of}
use Rattle.raid_legal.specs.Seen.{running}
use Rattle.raid_legal.specs.InForce.{InForce, in_force, controllers, newer, is_joint, is_tied, end_due}
use Rattle.raid_serial.proofs.Facts.{not_off}
use Rattle.raid_switch.specs.Force.{Each, AreInForce}
use Rattle.raid_decide.proofs.Coming.{due_where_none_is_tied, none_due}

-- as many controllers are in force as the rules say
pub as_many : {C : Type 0} (kind_of : C → Kind) (stands : C → List Noted → Type 0) (first : C) (second : Option C) (f : InForce) (p : List Noted) → AreInForce kind_of stands first second (controllers f p) → is_some second ≡ is_joint f
as_many kind_of stands first second f p e = go second f.next e
  where
    go : (second : Option _) (next : Option (Kind × ℕ)) → Each kind_of stands (first ∷ option_to_list second) ((f.kind, view_of f.view p) ∷ newer p next) → is_some second ≡ is_some next
    go None None e = refl
    go None (Some c) e = absurd e.2
    go (Some b) None e = absurd e.2
    go (Some b) (Some c) e = refl

-- nobody that runs has ended
pub none_has_ended : (w : Workload) (p : List Noted) → All (λ t. has_ended p t ≡ false) (running w p)
none_has_ended w p k d below = not_off _ (and_parts _ _ (filter_passes (is_running p) (txns w) k d below)).1

pub not_due : (w : Workload) (p : List Noted) (joint : Option (Kind × ℕ)) → joint ≡ (in_force w p).next → is_some joint ≡ false → false ≡ end_due w p
not_due w p None q s = sym (none_due w p (sym q))
not_due w p (Some c) q s = absurd (true≢false s)

pub due_as_told : (w : Workload) (p : List Noted) (next : Option (Kind × ℕ)) (since : ℕ) (ts : List Txn) → next ≡ (in_force w p).next → is_some next ≡ true →
    ((c : Kind × ℕ) → (in_force w p).next ≡ Some c → since ≡ c.1) → ts ≡ running w p → not (list_any (is_tied p since) ts) ≡ end_due w p
due_as_told w p None since ts q s known list = absurd (true≢false (sym s))
due_as_told w p (Some c) since ts q s known list =
    ap (λ k. not (list_any (is_tied p k) ts)) (known c (sym q))
    ∙ ap (λ us. not (list_any (is_tied p c.1) us)) list
    ∙ sym (due_where_none_is_tied w p c (sym q))
