-- The items that are made keep the rules.
use Rattle.std.proofs.Common.{◌≡◌, ℕ, zero, suc, ◌+◌, ◌-◌, ◌/◌, ◌%◌, ◌<◌, ◌≤◌, Bool, true, false, not, ◌&&◌, ◌||◌, leb, eqb, List, [], ◌∷◌, ◌++◌, length, map, get_or, refl, sym, ap, ◌∙◌, arith, append_assoc, inl, inr}
use Rattle.std.specs.Prelude.{bytes_eq}
use Rattle.std.specs.List.{list_any, list_all}
use Rattle.std.proofs.lemmas.Bool.{le-leb, cases_Bool, cases_eq}
use Rattle.std.proofs.lemmas.List.{length-map}
use Rattle.std.proofs.lemmas.Slice.Eq.{bytes_eq-Decides}
use Rattle.raid_base.specs.declared.names.Site.{Site}
use Rattle.raid_workload.specs.Name.{is_small, is_part, is_name}
use Rattle.raid_workload.specs.Parts.{count_from}
use Rattle.raid_workload.specs.Rules.{are_ascending, is_item, are_items}
use Rattle.raid_workload.specs.declared.workload.ItemLine.{ItemLine}
use Rattle.raid_generator.specs.Made.{digit, name_of, holders_of, item_line, item_lines}

-- ---- as they are made one by one

pub lines_start : map item_line (count_from 0 1024) ≡ item_lines
unfolding item_lines
lines_start = refl

pub lines_more : (k n m : ℕ) (lines : List ItemLine) → n ≡ suc m → (lines ++ item_line k ∷ []) ++ map item_line (count_from (k + 1) m) ≡ lines ++ map item_line (count_from k n)
lines_more k n m lines e = rw e (append_assoc lines (item_line k ∷ []) (map item_line (count_from (k + 1) m)))

length_count : (k n : ℕ) → length (count_from k n) ≡ n
length_count k zero = refl
length_count k (suc n) = ap suc (length_count (k + 1) n)

pub length_lines : length item_lines ≡ 1024
unfolding item_lines
length_lines = length-map (count_from 0 1024) item_line ∙ length_count 0 1024

-- ---- names

or_two : (a c : Bool) → ((a || true) || c) ≡ true
or_two true c = refl
or_two false c = refl

digit_part : (n : ℕ) → is_part (48 + n % 10) ≡ true
digit_part n =
    let low : leb 48 (48 + n % 10) ≡ true = le-leb _ _ (omega arith) in
    let high : leb (48 + n % 10) 57 ≡ true = le-leb _ _ (omega arith) in
    rw (low, high) (or_two (is_small (48 + n % 10)) (eqb (48 + n % 10) 95))

name_is : (k : ℕ) → is_name (name_of k) ≡ true
name_is k = rw (digit_part (k / 1000), digit_part (k / 100), digit_part (k / 10), digit_part (k / 1)) refl

same_digits : (k j : ℕ) → k < 10000 → j < 10000 → name_of k ≡ name_of j → k ≡ j
same_digits k j a b e =
    let d1 : digit 1000 k ≡ digit 1000 j = ap (λ (xs : List ℕ). get_or xs 1 0) e in
    let d2 : digit 100 k ≡ digit 100 j = ap (λ (xs : List ℕ). get_or xs 2 0) e in
    let d3 : digit 10 k ≡ digit 10 j = ap (λ (xs : List ℕ). get_or xs 3 0) e in
    let d4 : digit 1 k ≡ digit 1 j = ap (λ (xs : List ℕ). get_or xs 4 0) e in
    omega (arith, d1, d2, d3, d4)

names_differ : (k j : ℕ) → k < j → j < 10000 → bytes_eq (name_of j) (name_of k) ≡ false
names_differ k j less b =
    elim (cases_Bool (bytes_eq (name_of j) (name_of k))) [
      | inl same ↦ let d = bytes_eq-Decides (name_of j) (name_of k) in absurd (let e = same_digits j k b (omega arith) (d.0 same) in omega (arith, e))
      | inr other ↦ other
    ]

none_later : (k j n : ℕ) → k < j → j + n ≤ 10000 → list_any (λ (other : ItemLine). bytes_eq other.name (name_of k)) (map item_line (count_from j n)) ≡ false
none_later k j zero less few = refl
none_later k j (suc n) less few = rw (names_differ k j less (omega arith)) (none_later k (j + 1) n (omega arith) (omega arith))

-- ---- holders

-- what is kept of holders
record AreHolders (holders : List Site) : Type 0 where
  ascending : are_ascending 1 4 holders ≡ true
  some : eqb (length holders) 0 ≡ false

holders_at : (k : ℕ) → AreHolders (holders_of k)
holders_at k =
    elim (cases_eq (k % 4) 0) [
      | inl zero_is ↦ let e : (k + 1) % 4 ≡ 1 = omega arith in rw (zero_is, e) (record { ascending = refl; some = refl })
      | inr not_zero ↦
          elim (cases_eq (k % 4) 1) [
            | inl one_is ↦ let e : (k + 1) % 4 ≡ 2 = omega arith in rw (one_is, e) (record { ascending = refl; some = refl })
            | inr not_one ↦
                elim (cases_eq (k % 4) 2) [
                  | inl two_is ↦ let e : (k + 1) % 4 ≡ 3 = omega arith in rw (two_is, e) (record { ascending = refl; some = refl })
                  | inr not_two ↦
                      let three_is : k % 4 ≡ 3 = omega (arith, not_zero, not_one, not_two) in
                      let e : (k + 1) % 4 ≡ 0 = omega arith in
                      rw (three_is, e) (record { ascending = refl; some = refl })
                ]
          ]
    ]

-- ---- all of them

items_from : (k n : ℕ) → k + n ≤ 1024 → are_items 4 (map item_line (count_from k n)) ≡ true
items_from k zero few = refl
items_from k (suc n) few =
    let held = holders_at k in
    rw (name_is k, held.some, held.ascending, none_later k (k + 1) n (omega arith) (omega arith)) (items_from (k + 1) n (omega arith))

pub items_kept : are_items 4 item_lines ≡ true
unfolding item_lines
items_kept = items_from 0 1024 (omega arith)
