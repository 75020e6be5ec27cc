-- The switch that is advised after a legal history may be added to its workload.
use Rattle.std.proofs.Common.{◌≡◌, ◌⊎◌, inl, inr, ℕ, ◌*◌, ◌<◌, ◌≤◌, Bool, true, false, ◌&&◌, ◌||◌, ◌==◌, nat_lt, List, length, Option, Some, None, if◌then◌else◌, arith, refl, sym, ap, subst, ◌∙◌}
use Rattle.std.specs.Prelude.{min}
use Rattle.std.proofs.Math.Nat.{max-le, le-max_left}
use Rattle.std.proofs.lemmas.Bool.{true≢false, leb-true, le-leb, ltb-false}
use Rattle.std.proofs.lemmas.Grind.{common_steps}
use Rattle.raid_base.specs.declared.entry.Entry.{Entry}
use Rattle.raid_base.specs.declared.verdict.Kind.{Kind}
use Rattle.raid_base.specs.declared.verdict.Kind.TheVariants.{Lock, Stamp, Valid, Graph}
use Rattle.raid_base.specs.declared.verdict.Structure.{Structure}
use Rattle.raid_base.specs.declared.verdict.Structure.TheVariants.{Native, GenericState}
use Rattle.raid_workload.specs.declared.workload.Switch.{Switch}
use Rattle.raid_workload.specs.declared.workload.Workload.{Workload}
use Rattle.raid_workload.specs.Rules.{is_kind, is_method_for, is_within}
use Rattle.raid_legal.specs.Legal.{Legal}
use Rattle.raid_serial.proofs.Facts.{some_is, none_is, if_some}
use Rattle.raid_advise.specs.declared.advice.Advice.TheVariants as advices
use Rattle.raid_advise.specs.Added.{last_trigger, may_be_added}
use Rattle.raid_advise.specs.Advice.{ends, commits, window, latest_kind, costs, better, is_full, awaits_switch, method_for, trigger, advice_to, Advises}
use Rattle.raid_advise.proofs.CameOn.{all_came_on}
use Rattle.raid_advise.proofs.Kept.{parts, last_within, may_add}

-- the kind to go to is another one
either : (a b : Bool) (x y z : Kind) → (if a then Some x else if b then Some y else None) ≡ Some z → (x ≡ z) ⊎ (y ≡ z)
either true b x y z q = inl (some_is x z q)
either false true x y z q = inr (some_is y z q)
either false false x y z q = absurd (none_is z q)

better_other : (kind to : Kind) (commits costs : ℕ) → better kind commits costs ≡ Some to → is_kind kind to ≡ false
better_other Lock to commits costs q = elim (either (nat_lt commits costs) (costs == 0 && nat_lt 0 commits) Stamp Valid to q) [
  | inl x ↦ ap (is_kind Lock) (sym x)
  | inr x ↦ ap (is_kind Lock) (sym x)
]
better_other Stamp to commits costs q = ap (is_kind Stamp) (sym (if_some (nat_lt commits (2 * costs)) Lock to q).1)
better_other Valid to commits costs q = ap (is_kind Valid) (sym (if_some (nat_lt commits (2 * costs)) Lock to q).1)
better_other Graph to commits costs q = ap (is_kind Graph) (sym (if_some (nat_lt commits (2 * costs)) Stamp to q).1)

-- its method is for the structure
method_fits : (structure : Structure) → is_method_for structure (method_for structure) ≡ true
method_fits Native = refl
method_fits GenericState = refl

-- what an advice to add a switch says
record Says (w : Workload) (h : List Entry) (s : Switch) : Type 0 where
  takes : (is_full w || awaits_switch w h) ≡ false
  other : is_kind (latest_kind w.kind h) s.kind ≡ false
  by : s.method ≡ method_for w.structure
  at : s.trigger ≡ trigger w (ends h)

module _ (w : Workload) (h : List Entry) (last : ℕ) (s : Switch) where
  to_says : (from : Kind) (o : Option Kind) → (is_full w || awaits_switch w h) ≡ false → latest_kind w.kind h ≡ from → ((to : Kind) → o ≡ Some to → is_kind from to ≡ false) →
      advice_to w (ends h) o ≡ advices.Switch s.kind s.method s.trigger → Says w h s
  to_says from None takes same other q = absurd cc
  to_says from (Some to) takes same other q =
      let parted : (to ≡ s.kind) × (method_for w.structure ≡ s.method) × (trigger w (ends h) ≡ s.trigger) = (cc, cc, cc) in
      record {
        takes = takes;
        other = ap (λ k. is_kind k s.kind) same ∙ ap (is_kind from) (sym parted.0) ∙ other to refl;
        by = sym parted.1;
        at = sym parted.2;
      }

  says : Advises w h last s → Says w h s
  says q = go (is_full w || awaits_switch w h) refl q
    where
      from : Kind
      from = latest_kind w.kind h

      seen : List Entry
      seen = window last h

      go : (b : Bool) → (is_full w || awaits_switch w h) ≡ b → (if b then advices.Keep else advice_to w (ends h) (better from (commits seen) (costs from seen))) ≡ advices.Switch s.kind s.method s.trigger → Says w h s
      go true takes q = absurd cc
      go false takes q = to_says from (better from (commits seen) (costs from seen)) takes refl (λ to found. better_other from to (commits seen) (costs from seen) found) q

neither : (a b : Bool) → (a || b) ≡ false → (a ≡ false) × (b ≡ false)
neither true b q = absurd (true≢false q)
neither false b q = (refl, q)

within : (low high n : ℕ) → low ≤ n → n ≤ high → is_within low high n ≡ true
within low high n a b = rw (le-leb low n a, le-leb n high b) refl

room_left : (n : ℕ) → (n == 64) ≡ false → n ≤ 64 → n < 64
room_left n other most = grind (arith, common_steps, other, most)

pub advised_fits : (w : Workload) (h : List Entry) (last : ℕ) (s : Switch) → Legal w h → Advises w h last s → may_be_added w s ≡ true
advised_fits w h last s l q =
    let said = says w h last s q in
    let n = neither (is_full w) (awaits_switch w h) said.takes in
    let p = parts w in
    let all = all_came_on w h l (ltb-false _ _ n.1) in
    let low : last_trigger w ≤ 2000 = last_within w.structure w.kind 1 w.switches p.switches (omega arith) in
    let high : s.trigger ≤ 2000 = subst (λ m. m ≤ 2000) (sym said.at) (max-le low (omega arith)) in
    let later : last_trigger w ≤ s.trigger = subst (λ m. last_trigger w ≤ m) (sym said.at) (le-max_left (last_trigger w) (min 2000 (ends h))) in
    may_add w s (record {
      room = room_left (length w.switches) n.0 (leb-true _ _ p.few);
      other = ap (λ k. is_kind k s.kind) (sym all) ∙ said.other;
      method = ap (is_method_for w.structure) said.by ∙ method_fits w.structure;
      within = within (last_trigger w) 2000 s.trigger later high;
    })
