-- Each entry of a carry may be noted after those before it.
use Rattle.std.proofs.Common.{◌≡◌, ℕ, ◌<◌, true, List, take, length, get_or, arith, sym, ◌∙◌, subst}
use Rattle.std.specs.List.{All, AllPairs}
use Rattle.std.proofs.lemmas.Bool.{true≢false}
use Rattle.std.proofs.lemmas.List.Folds.{Any-from_list_any}
use Rattle.std.proofs.lemmas.List.{length-take-le, get_or-take, get_or_default}
use Rattle.raid_base.specs.declared.names.Txn.{Txn}
use Rattle.raid_base.specs.declared.entry.Entry.{Entry}
use Rattle.raid_base.specs.declared.entry.Entry.TheVariants.{Begin, Read}
use Rattle.raid_base.specs.declared.entry.Noted.{Noted}
use Rattle.raid_rules.specs.Entries.{is_end_of}
use Rattle.raid_rules.specs.History.{has_ended}
use Rattle.raid_rules.specs.Order.{AgreesOn}
use Rattle.raid_rules.proofs.Txns.{not_true}
use Rattle.raid_control.specs.Carried.{IsCarry, is_start}
use Rattle.raid_conflict.specs.Listed.{Extends}

-- a start is no end
no_end : (t : Txn) (e : Entry) → is_start (λ u. true) e ≡ true → is_end_of t e ≡ true → ⊥
no_end t (Begin u home) s e = true≢false (sym e)
no_end t (Read u x site) s e = true≢false (sym e)
no_end t other s e = true≢false (sym s)

module _ (c : List Noted) (k : ℕ) (d : Noted) (below : k < length c) where
  short : length (take k c) ≡ k
  short = length-take-le k c (omega (arith, below))

  same : (i : ℕ) (e : Noted) → i < k → get_or (take k c) i e ≡ get_or c i e
  same i e l = get_or-take k c i e l

  -- what holds of each pair holds of each before the place
  before_place : (R : Noted → Noted → Type 0) → AllPairs R c → All (λ m. R m (get_or c k d)) (take k c)
  before_place R h i e l =
      let l2 : i < k = omega (arith, l, short) in
      subst (λ z. R z (get_or c k d)) (sym (same i e l2)) (subst (λ z. R (get_or c i e) z) (get_or_default c k e d below) (h i k e l2 below))

  pub carry_extends : IsCarry c → Extends (take k c) (get_or c k d)
  carry_extends h = record {
    above = before_place (λ a b. a.at < b.at) h.in_order.ascends;
    stamped = λ t here i e l own. (before_place (AgreesOn t) (h.in_order.agrees t) i e l own here).0;
    goes_on = λ t acts. not_true (has_ended (take k c) t)
        (λ e.
        (let a = Any-from_list_any (λ n. is_end_of t n.entry) (take k c) e in
        let l : a.0 < k = omega (arith, a.2, short) in
        let is : get_or c a.0 a.1 ≡ a.1 = sym (same a.0 a.1 l) ∙ a.3 in
        no_end t a.1.entry (subst (λ (n : Noted). is_start (λ u. true) n.entry ≡ true) is (h.starts a.0 a.1 (omega (arith, l, below)))) a.4));
  }
