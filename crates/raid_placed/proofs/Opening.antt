-- Before the first letter nothing is forced.
use Rattle.std.proofs.Common.{◌≡◌, ℕ, ◌+◌, nat_le, Bool, true, false, not, ◌&&◌, List, [], ◌∷◌, if◌then◌else◌, Some, None, arith, ◌∙◌, ap, refl}
use Rattle.std.specs.Prelude.{filter, find, slice_get, option_map, option_and_then}
use Rattle.std.proofs.lemmas.Bool.{and_parts}
use Rattle.std.proofs.lemmas.Grind.{common_steps}
use Rattle.raid_base.specs.declared.names.Txn.{Txn}
use Rattle.raid_base.specs.declared.entry.Entry.TheVariants.{Abort, SwitchOn}
use Rattle.raid_base.specs.declared.entry.Act.TheVariants as acts
use Rattle.raid_base.specs.declared.entry.Cause.TheVariants.{HomeDown}
use Rattle.raid_base.specs.declared.verdict.Kind.{Kind}
use Rattle.raid_base.specs.declared.verdict.Structure.{Structure}
use Rattle.raid_workload.specs.declared.workload.Workload.{Workload}
use Rattle.raid_workload.specs.declared.workload.Switch.{Switch}
use Rattle.raid_workload.specs.Parts.{txns, home}
use Rattle.raid_workload.specs.Rules.{are_switches}
use Rattle.raid_rules.specs.History.{noted, is_running}
use Rattle.raid_legal.specs.Seen.{is_up}
use Rattle.raid_legal.specs.InForce.{in_force, is_joint}
use Rattle.raid_legal.specs.Forced.{forced, home_down, switch_off, switch_end, switch_on, woken, earliest}
use Rattle.raid_placed.specs.Placed.{Placed}

none_runs : (ts : List Txn) → filter (is_running []) ts ≡ []
none_runs [] = refl
none_runs (t ∷ ts) = none_runs ts

no_home : (w : Workload) → home_down w [] ≡ None
no_home w = ap (λ ts. option_map (λ t. Abort t HomeDown acts.Nothing) (find (λ t. not (is_up w [] (home w t))) ts)) (none_runs (txns w))

no_switch : (structure : Structure) (kind : Kind) (ss : List Switch) (joint : Bool) (k : ℕ) → are_switches structure kind 1 ss ≡ true →
    option_and_then (λ (s : Switch). if nat_le s.trigger 0 && joint then Some (SwitchOn k s.kind s.method) else None) (slice_get ss 0) ≡ None
no_switch structure kind [] joint k q = refl
no_switch structure kind (s ∷ ss) joint k q = ap (λ b. if b && joint then Some (SwitchOn k s.kind s.method) else None) (late s.trigger (and_parts _ _ (and_parts _ _ q).0).1)
  where
    late : (n : ℕ) → (nat_le 1 n && nat_le n 2000) ≡ true → nat_le n 0 ≡ false
    late n q = grind (arith, common_steps, q)

no_switch_on : (w : Workload) → switch_on w [] (in_force w []) ≡ None
no_switch_on w =
    let programs = and_parts _ _ w.kept in
    let few = and_parts _ _ programs.0 in
    let events = and_parts _ _ few.0 in
    let events_few = and_parts _ _ events.0 in
    let switches = and_parts _ _ events_few.0 in
    no_switch w.structure w.kind w.switches (not (is_joint (in_force w []))) ((in_force w []).switches + 1) switches.1

pub opening_quiet : (w : Workload) → forced w (noted []) ≡ None
opening_quiet w =
    ap (λ o. earliest (o ∷ switch_off [] (in_force w []) ∷ switch_end w [] (in_force w []) ∷ switch_on w [] (in_force w []) ∷ woken w [] ∷ [])) (no_home w)
    ∙ ap (λ o. earliest (o ∷ woken w [] ∷ [])) (no_switch_on w)

pub opening_placed : (w : Workload) → Placed w []
opening_placed w = tt
