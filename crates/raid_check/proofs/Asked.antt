-- Questions keep the controllers in force as they are, and with them what the parts stand for.
use Rattle.std.proofs.Common.{◌≡◌, ◌≤◌, Bool, List, [], length, Option, Some, None, All, subst, sym, ap, ◌∙◌, refl, arith}
use Rattle.std.specs.Prelude.{option_map, option_to_list}
use Rattle.std.specs.Option.{option_map_or}
use Rattle.std.proofs.lemmas.List.Elements.{All-nil, All-cons, All-head, All-tail}
use Rattle.raid_base.specs.declared.entry.Noted.{Noted}
use Rattle.raid_base.specs.declared.verdict.Kind.{Kind}
use Rattle.raid_base.specs.declared.verdict.Structure.{Structure}
use Rattle.raid_workload.specs.declared.workload.Workload.{Workload}
use Rattle.raid_legal.specs.InForce.{in_force, controllers}
use Rattle.raid_switch.specs.declared.eras.Eras.{Eras}
use Rattle.raid_decide.specs.Stand.{AreKept}
use Rattle.raid_force.specs.declared.force.Force.{Force}
use Rattle.raid_boxed.specs.Boxed.{Says, kind_by, structure_by}
use Rattle.raid_force.specs.Lasting.{counts, wanted}
use Rattle.raid_force.specs.Force.{in_all, Holds}

-- what a pair has
firsts : {X Y : Type 0} (a b : X) (c d : Y) → ◌≡◌ {A = X × Y} (a, c) (b, d) → a ≡ b
firsts {X = X} {Y = Y} a b c d e = ap (λ (p : X × Y). p.0) e

seconds : {X Y : Type 0} (a b : X) (c d : Y) → ◌≡◌ {A = X × Y} (a, c) (b, d) → c ≡ d
seconds {X = X} {Y = Y} a b c d e = ap (λ (p : X × Y). p.1) e

some_is : {X : Type 0} (a b : X) → Some a ≡ Some b → a ≡ b
some_is a b e = cc e

none_is : {X : Type 0} (a : X) → None ≡ Some a → ⊥
none_is a e = cc e

-- what the second of two counts for rests on its kind and structure
tally : {C : Type 0} (k : C → Kind) (s : C → Structure) (kind : Kind) (structure : Structure) (once : Bool) (a b : Option C) →
    option_map k b ≡ option_map k a → option_map s b ≡ option_map s a →
    option_map_or (λ c. counts kind structure once (k c) (s c)) b 0 ≡ option_map_or (λ c. counts kind structure once (k c) (s c)) a 0
tally k s kind structure once None None e f = refl
tally k s kind structure once None (Some y) e f = absurd (none_is (k y) (sym e))
tally k s kind structure once (Some x) None e f = absurd (none_is (k x) e)
tally k s kind structure once (Some x) (Some y) e f = ap (λ (z : Kind). counts kind structure once z (s y)) (some_is _ _ e) ∙ ap (λ (z : Structure). counts kind structure once (k x) z) (some_is _ _ f)

-- so are the structures of all
structures_of : {C : Type 0} (s : C → Structure) (structure : Structure) (a b : Option C) → option_map s b ≡ option_map s a → All (λ c. s c ≡ structure) (option_to_list a) → All (λ c. s c ≡ structure) (option_to_list b)
structures_of s structure a None f all = All-nil (λ c. s c ≡ structure)
structures_of s structure None (Some y) f all = absurd (none_is (s y) (sym f))
structures_of s structure (Some x) (Some y) f all = All-cons (λ c. s c ≡ structure) y [] (some_is _ _ f ∙ All-head (λ c. s c ≡ structure) x [] all) (All-nil (λ c. s c ≡ structure))

-- there are as many
as_many : {C : Type 0} (s : C → Structure) (a b : Option C) → option_map s b ≡ option_map s a → length (option_to_list b) ≡ length (option_to_list a)
as_many s None None f = refl
as_many s None (Some y) f = absurd (none_is (s y) (sym f))
as_many s (Some x) None f = absurd (none_is (s x) f)
as_many s (Some x) (Some y) f = refl

-- so as many last as before
lasting_on : {V : Type 0} {D : V → Type 0} (say : Says V D) (force : Force V D) (eras : Eras V D) → AreKept say force.eras eras → (kind : Kind) (structure : Structure) →
    in_all say (record force { eras = eras }) kind structure ≡ in_all say force kind structure
lasting_on say force eras kept kind structure =
    let k = firsts _ _ _ _ kept.kinds in
    let s = firsts _ _ _ _ kept.structures in
    let first : counts kind structure force.first_once (kind_by say eras.first) (structure_by say eras.first) ≡ counts kind structure force.first_once (kind_by say force.eras.first) (structure_by say force.eras.first) =
    ap (λ (z : Kind). counts kind structure force.first_once z (structure_by say eras.first)) k ∙ ap (λ (z : Structure). counts kind structure force.first_once (kind_by say force.eras.first) z) s in
    let second = tally (kind_by say) (structure_by say) kind structure force.second_once force.eras.second eras.second (seconds _ _ _ _ kept.kinds) (seconds _ _ _ _ kept.structures) in
    omega (arith, first, second)

-- and the force holds on
pub asked_on : {V : Type 0} {D : V → Type 0} (say : Says V D) (w : Workload) (force : Force V D) (eras : Eras V D) (p : List Noted) → AreKept say force.eras eras → Holds say w force p → Holds say w (record force { eras = eras }) p
asked_on say w force eras p kept holds = record {
  racked = record {
    structured = All-cons (λ c. structure_by say c ≡ w.structure) eras.first (option_to_list eras.second)
        (firsts _ _ _ _ kept.structures ∙ All-head (λ c. structure_by say c ≡ w.structure) force.eras.first (option_to_list force.eras.second) holds.racked.structured)
        (structures_of (structure_by say) w.structure force.eras.second eras.second (seconds _ _ _ _ kept.structures)
        (All-tail (λ c. structure_by say c ≡ w.structure) force.eras.first (option_to_list force.eras.second) holds.racked.structured));
    clear = holds.racked.clear;
    enough = λ k s. subst (λ n. wanted s ≤ n) (sym (lasting_on say force eras kept k s)) (holds.racked.enough k s);
    room = let many = as_many (structure_by say) force.eras.second eras.second (seconds _ _ _ _ kept.structures) in omega (arith, many, holds.racked.room);
  };
  in_step = λ on. let step = holds.in_step on in record {
    views = kept.views (controllers (in_force w p) p) step.views;
    off = step.off;
    switches = step.switches;
    since = λ c q. kept.since ∙ step.since c q;
  };
}
