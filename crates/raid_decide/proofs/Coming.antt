-- The switch that comes next.
use Rattle.std.proofs.Common.{◌≡◌, ℕ, zero, suc, ◌+◌, ◌≤◌, nat_le, Bool, false, not, ◌&&◌, if◌then◌else◌, List, [], ◌∷◌, length, Option, Some, None, slice_get, refl, ap, sym, arith, ◌∙◌}
use Rattle.std.specs.Prelude.{option_and_then}
use Rattle.std.specs.List.{list_any}
use Rattle.raid_base.specs.declared.entry.Entry.{Entry}
use Rattle.raid_base.specs.declared.entry.Entry.TheVariants.{SwitchOn, SwitchEnd}
use Rattle.raid_base.specs.declared.entry.Noted.{Noted}
use Rattle.raid_base.specs.declared.verdict.Kind.{Kind}
use Rattle.raid_workload.specs.declared.workload.Workload.{Workload}
use Rattle.raid_workload.specs.declared.workload.Switch.{Switch}
use Rattle.raid_rules.specs.History.{ends}
use Rattle.raid_legal.specs.InForce.{InForce, in_force, is_joint, is_tied, is_over, end_due}
use Rattle.raid_legal.specs.Seen.{running}
use Rattle.raid_legal.specs.Forced.{switch_on, switch_end}

-- what a switch does, as the next one
abbrev come : List Noted → InForce → Switch → Option Entry
come p f s = if nat_le s.trigger (ends p) && not (is_joint f) then Some (SwitchOn (f.switches + 1) s.kind s.method) else None

pub comes_on : (w : Workload) (p : List Noted) (f : InForce) (s : Switch) (k : ℕ) (joint : Bool) → k ≡ f.switches → joint ≡ is_joint f → slice_get w.switches k ≡ Some s →
    (if nat_le s.trigger (ends p) && not joint then Some (SwitchOn (k + 1) s.kind s.method) else None) ≡ switch_on w p f
comes_on w p f s k joint a b found =
    ap (λ j. if nat_le s.trigger (ends p) && not j then Some (SwitchOn (k + 1) s.kind s.method) else None) b
    ∙ ap (λ n. if nat_le s.trigger (ends p) && not (is_joint f) then Some (SwitchOn (n + 1) s.kind s.method) else None) a
    ∙ ap (option_and_then (come p f)) (sym found ∙ ap (slice_get w.switches) a)

past_last : {X : Type 0} (xs : List X) (k : ℕ) → length xs ≤ k → slice_get xs k ≡ None
past_last [] k below = refl
past_last (x ∷ xs) zero below = absurd (omega (arith, below))
past_last (x ∷ xs) (suc k) below = past_last xs k (omega (arith, below))

pub none_comes : (w : Workload) (p : List Noted) (f : InForce) (k : ℕ) → k ≡ f.switches → length w.switches ≤ k → None ≡ switch_on w p f
none_comes w p f k a below = ap (option_and_then (come p f)) (sym (past_last w.switches k below) ∙ ap (slice_get w.switches) a)

-- when the end of a switch is due
pub due_where_none_is_tied : (w : Workload) (p : List Noted) (c : Kind × ℕ) → (in_force w p).next ≡ Some c → end_due w p ≡ not (list_any (is_tied p c.1) (running w p))
due_where_none_is_tied w p c e = ap (is_over w p) e

pub none_due : (w : Workload) (p : List Noted) → (in_force w p).next ≡ None → end_due w p ≡ false
none_due w p e = ap (is_over w p) e

abbrev ended : Bool → ℕ → Option Entry
ended due k = if due then Some (SwitchEnd k) else None

pub ends_on : (w : Workload) (p : List Noted) (f : InForce) (due : Bool) (k : ℕ) → due ≡ end_due w p → k ≡ f.switches → ended due k ≡ switch_end w p f
ends_on w p f due k a b = ap (λ d. ended d k) a ∙ ap (ended (end_due w p)) b
