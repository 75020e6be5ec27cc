-- A whole rack has enough of each sort, and a rack that has is whole.
use Rattle.std.proofs.Common.{◌≡◌, ℕ, ◌<◌, ◌≤◌, Bool, true, false, not, ◌&&◌, ◌||◌, nat_le, List, [], ◌∷◌, None, if◌then◌else◌, sum_by, refl, sym, ap, subst, ◌∙◌, arith}
use Rattle.std.specs.Prelude.{count_by, option_to_list}
use Rattle.std.specs.List.{list_any}
use Rattle.std.proofs.lemmas.Bool.{true≢false, and_parts}
use Rattle.std.proofs.lemmas.List.Sums.{sum_by-cons}
use Rattle.raid_base.specs.declared.verdict.Kind.{Kind}
use Rattle.raid_base.specs.declared.verdict.Kind.TheVariants.{Lock, Stamp, Valid, Graph}
use Rattle.raid_base.specs.declared.verdict.Structure.{Structure}
use Rattle.raid_base.specs.declared.verdict.Structure.TheVariants.{Native, GenericState}
use Rattle.raid_workload.specs.declared.workload.Workload.{Workload}
use Rattle.raid_control.specs.Carried.{is_generic}
use Rattle.raid_control.specs.Racked.{lasts, has_natives}
use Rattle.raid_control.specs.declared.rack.Slot.{Slot}
use Rattle.raid_serial.proofs.Facts.{none_is}
use Rattle.raid_switch.specs.Force.{Each}
use Rattle.raid_force.specs.declared.force.Force.{Force}
use Rattle.raid_boxed.specs.Boxed.{Says, kind_by, structure_by, StandsBy}
use Rattle.raid_force.specs.Lasting.{lasting, wanted, are_whole}
use Rattle.raid_force.specs.Force.{InStep}

abbrev weight : Bool → ℕ
weight b = if b then 1 else 0

weigh : (b c : Bool) → b ≡ c → weight b ≡ weight c
weigh b c e = ap weight e

some_sum : {X : Type 0} (t : X → Bool) (xs : List X) → list_any t xs ≡ true → 1 ≤ sum_by (λ x. if t x then 1 else 0) xs
some_sum t [] e = absurd (true≢false (sym e))
some_sum t (x ∷ xs) e = go (t x) refl e (some_sum t xs)
  where
    go : (b : Bool) → t x ≡ b → (b || list_any t xs) ≡ true → (list_any t xs ≡ true → 1 ≤ sum_by (λ y. if t y then 1 else 0) xs) → 1 ≤ sum_by (λ y. if t y then 1 else 0) (x ∷ xs)
    go true h e rest = let m = sum_by-cons (λ y. if t y then 1 else 0) x xs in omega (arith, m, weigh (t x) true h)
    go false h e rest = let m = sum_by-cons (λ y. if t y then 1 else 0) x xs in let r : 1 ≤ sum_by (λ y. if t y then 1 else 0) xs = rest e in omega (arith, m, r)

sum_some : {X : Type 0} (t : X → Bool) (xs : List X) → 1 ≤ sum_by (λ x. if t x then 1 else 0) xs → list_any t xs ≡ true
sum_some t [] l = absurd (omega (arith, l))
sum_some t (x ∷ xs) l = go (t x) refl (sum_some t xs)
  where
    go : (b : Bool) → t x ≡ b → (1 ≤ sum_by (λ y. if t y then 1 else 0) xs → list_any t xs ≡ true) → (b || list_any t xs) ≡ true
    go true h rest = refl
    go false h rest = rest (let m = sum_by-cons (λ y. if t y then 1 else 0) x xs in omega (arith, l, m, weigh (t x) false h))

at_most : (n m : ℕ) → nat_le n m ≡ true → n ≤ m
at_most n m h = grind (arith, h)

is_most : (n m : ℕ) → n ≤ m → nat_le n m ≡ true
is_most n m h = grind (arith, h)

module _ {V : Type 0} {D : V → Type 0} (say : Says V D) (slots : List (Slot V D)) where
  abbrev native : Kind → Slot V D → Bool
  native k = lasts (λ s. s.once) (λ s. kind_by say s.control) (λ s. structure_by say s.control) k

  abbrev generic : Slot V D → Bool
  generic s = not s.once && is_generic (structure_by say s.control)

  pub whole_enough : are_whole say slots ≡ true → (k : Kind) (t : Structure) → wanted t ≤ lasting say slots k t
  whole_enough e k GenericState = at_most 2 (count_by generic slots) (and_parts (has_natives (λ s. s.once) (λ s. kind_by say s.control) (λ s. structure_by say s.control) slots) (nat_le 2 (count_by generic slots)) e).1
  whole_enough e k Native = go k
    where
      four : (list_any (native Lock) slots && list_any (native Stamp) slots && list_any (native Valid) slots && list_any (native Graph) slots) ≡ true
      four = (and_parts (has_natives (λ s. s.once) (λ s. kind_by say s.control) (λ s. structure_by say s.control) slots) (nat_le 2 (count_by generic slots)) e).0

      three : (list_any (native Lock) slots && list_any (native Stamp) slots && list_any (native Valid) slots) ≡ true
      three = (and_parts (list_any (native Lock) slots && list_any (native Stamp) slots && list_any (native Valid) slots) (list_any (native Graph) slots) four).0

      two : (list_any (native Lock) slots && list_any (native Stamp) slots) ≡ true
      two = (and_parts (list_any (native Lock) slots && list_any (native Stamp) slots) (list_any (native Valid) slots) three).0

      go : (j : Kind) → 1 ≤ lasting say slots j Native
      go Lock = some_sum (native Lock) slots (and_parts (list_any (native Lock) slots) (list_any (native Stamp) slots) two).0
      go Stamp = some_sum (native Stamp) slots (and_parts (list_any (native Lock) slots) (list_any (native Stamp) slots) two).1
      go Valid = some_sum (native Valid) slots (and_parts (list_any (native Lock) slots && list_any (native Stamp) slots) (list_any (native Valid) slots) three).1
      go Graph = some_sum (native Graph) slots (and_parts (list_any (native Lock) slots && list_any (native Stamp) slots && list_any (native Valid) slots) (list_any (native Graph) slots) four).1

  pub enough_whole : ((k : Kind) (t : Structure) → wanted t ≤ lasting say slots k t) → are_whole say slots ≡ true
  enough_whole h =
      both (has_natives (λ s. s.once) (λ s. kind_by say s.control) (λ s. structure_by say s.control) slots) (nat_le 2 (count_by generic slots))
      (both (list_any (native Lock) slots && list_any (native Stamp) slots && list_any (native Valid) slots) (list_any (native Graph) slots)
      (both (list_any (native Lock) slots && list_any (native Stamp) slots) (list_any (native Valid) slots)
      (both (list_any (native Lock) slots) (list_any (native Stamp) slots) (sum_some (native Lock) slots (h Lock Native)) (sum_some (native Stamp) slots (h Stamp Native)))
      (sum_some (native Valid) slots (h Valid Native))) (sum_some (native Graph) slots (h Graph Native)))
      (is_most 2 (count_by generic slots) (h Lock GenericState))
    where
      both : (a b : Bool) → a ≡ true → b ≡ true → (a && b) ≡ true
      both a b p q = ap (λ x. x && b) p ∙ q

  pub whole_serves : are_whole say slots ≡ true → (k : Kind) (t : Structure) → 0 < lasting say slots k t
  whole_serves e k Native = let h : 1 ≤ lasting say slots k Native = whole_enough e k Native in omega (arith, h)
  whole_serves e k GenericState = let h : 2 ≤ lasting say slots k GenericState = whole_enough e k GenericState in omega (arith, h)

module _ {V : Type 0} {D : V → Type 0} (say : Says V D) (w : Workload) (f : Force V D) where
  -- before the first entry
  pub opened : f.eras.second ≡ None → kind_by say f.eras.first ≡ w.kind → StandsBy say f.eras.first [] → f.off ≡ [] → f.switches ≡ 0 → InStep say w f []
  opened alone kind empty off switches = record {
    views = subst (λ o. Each (kind_by say) (StandsBy say) (f.eras.first ∷ option_to_list o) ((w.kind, []) ∷ [])) (sym alone) (kind, empty, tt);
    off = off;
    switches = switches;
    since = λ c e. absurd (none_is c e);
  }
