-- Items that keep the rules.
use Rattle.std.proofs.Common.{◌≡◌, ℕ, zero, suc, ◌+◌, ◌<◌, Bool, true, false, not, ◌&&◌, ◌||◌, eqb, List, [], ◌∷◌, ◌++◌, length, Some, None, refl, ap, ◌∙◌, arith}
use Rattle.std.specs.Prelude.{bytes_eq, is_some}
use Rattle.std.specs.List.{list_any, list_all, position_from}
use Rattle.std.proofs.lemmas.Bool.{and_parts, eqb-false}
use Rattle.raid_program.specs.Run.{is_i64}
use Rattle.raid_scan.specs.Words.{Word}
use Rattle.raid_tokens.proofs.Again.{bytes_same}
use Rattle.raid_tokens.proofs.Fits.{IsValue, value_fits}
use Rattle.raid_workload.specs.Name.{is_name}
use Rattle.raid_workload.specs.Rules.{is_item, are_items, are_ascending}
use Rattle.raid_workload.specs.declared.workload.ItemLine.{ItemLine}
use Rattle.raid_text.specs.Names.{names_of, place_of}
use Rattle.raid_text.specs.Spelling.{name_of}
use Rattle.raid_text.specs.Statements.{item}

pub record IsItem (sites : ℕ) (line : ItemLine) : Type 0 where
  pub name : is_name line.name ≡ true
  pub value : IsValue line.value
  pub some : 0 < length line.holders
  pub holders : are_ascending 1 sites line.holders ≡ true

not_true : (b : Bool) → not b ≡ true → b ≡ false
not_true true h = absurd cc
not_true false h = refl

pub item_parts : (sites : ℕ) (line : ItemLine) → is_item sites line ≡ true → IsItem sites line
item_parts sites line h =
    let a = and_parts (is_name line.name && is_i64 line.value && not (eqb (length line.holders) 0)) (are_ascending 1 sites line.holders) h in
    let b = and_parts (is_name line.name && is_i64 line.value) (not (eqb (length line.holders) 0)) a.0 in
    let c = and_parts (is_name line.name) (is_i64 line.value) b.0 in
    let some : 0 < length line.holders = omega (arith, eqb-false _ _ (not_true _ b.1)) in
    record { name = c.0; value = value_fits line.value c.1; some = some; holders = a.1 }

-- the first item, its name against those behind it, and the items behind it
pub record Parts (sites : ℕ) (line : ItemLine) (lines : List ItemLine) : Type 0 where
  pub first : is_item sites line ≡ true
  pub new : list_any (λ (other : ItemLine). bytes_eq other.name line.name) lines ≡ false
  pub rest : are_items sites lines ≡ true

pub items_parts : (sites : ℕ) (line : ItemLine) (lines : List ItemLine) → are_items sites (line ∷ lines) ≡ true → Parts sites line lines
items_parts sites line lines h =
    let a = and_parts (is_item sites line && not (list_any (λ (other : ItemLine). bytes_eq other.name line.name) lines)) (are_items sites lines) h in
    let b = and_parts (is_item sites line) (not (list_any (λ (other : ItemLine). bytes_eq other.name line.name) lines)) a.0 in
    record { first = b.0; new = not_true _ b.1; rest = a.1 }

pub items_all : (sites : ℕ) (lines : List ItemLine) → are_items sites lines ≡ true → list_all (is_item sites) lines ≡ true
items_all sites [] h = refl
items_all sites (line ∷ lines) h =
    let p = items_parts sites line lines h in
    rw (p.first, items_all sites lines p.rest) refl

-- ---- an item behind others

pub item_behind : (sites : ℕ) (earlier : List ItemLine) (line : ItemLine) (later : List ItemLine) → are_items sites (earlier ++ (line ∷ later)) ≡ true → is_item sites line ≡ true
item_behind sites [] line later h = let p = items_parts sites line later h in p.first
item_behind sites (first ∷ earlier) line later h =
    let p = items_parts sites first (earlier ++ (line ∷ later)) h in
    item_behind sites earlier line later p.rest

or_parts : (b c : Bool) → (b || c) ≡ false → (b ≡ false) × (c ≡ false)
or_parts true c h = absurd cc
or_parts false c h = (refl, h)

none_behind : (test : ItemLine → Bool) (earlier : List ItemLine) (line : ItemLine) (later : List ItemLine) → list_any test (earlier ++ (line ∷ later)) ≡ false → test line ≡ false
none_behind test [] line later h = let p = or_parts (test line) (list_any test later) h in p.0
none_behind test (first ∷ earlier) line later h =
    let p = or_parts (test first) (list_any test (earlier ++ (line ∷ later))) h in
    none_behind test earlier line later p.1

new_from : (sites k : ℕ) (earlier : List ItemLine) (line : ItemLine) (later : List ItemLine) → are_items sites (earlier ++ (line ∷ later)) ≡ true → position_from (bytes_eq line.name) k (names_of earlier) ≡ None
new_from sites k [] line later h = refl
new_from sites k (first ∷ earlier) line later h =
    let p = items_parts sites first (earlier ++ (line ∷ later)) h in
    let differ = none_behind (λ (other : ItemLine). bytes_eq other.name first.name) earlier line later p.new in
    rw differ (new_from sites (k + 1) earlier line later p.rest)

-- its name is new
pub item_new : (sites : ℕ) (earlier : List ItemLine) (line : ItemLine) (later : List ItemLine) → are_items sites (earlier ++ (line ∷ later)) ≡ true → is_some (place_of (names_of earlier) line.name) ≡ false
unfolding place_of
item_new sites earlier line later h = rw (new_from sites 0 earlier line later h) refl

-- ---- the names of items

-- an item's name is a name, and names it
pub record Names (items : List ItemLine) (k : ℕ) : Type 0 where
  pub form : is_name (name_of items (item k)) ≡ true
  pub place : place_of (names_of items) (name_of items (item k)) ≡ Some k

none_at : (test : Word → Bool) (items : List ItemLine) (k : ℕ) → k < length items → list_any (λ (line : ItemLine). test line.name) items ≡ false → test (name_of items (item k)) ≡ false
none_at test [] k less h = absurd (omega arith)
none_at test (line ∷ items) zero less h = let p = or_parts (test line.name) _ h in p.0
none_at test (line ∷ items) (suc k) less h = let p = or_parts (test line.name) _ h in none_at test items k (omega arith) p.1

place_from : (sites j : ℕ) (items : List ItemLine) (k : ℕ) → are_items sites items ≡ true → k < length items → position_from (bytes_eq (name_of items (item k))) j (names_of items) ≡ Some (j + k)
place_from sites j [] k are less = absurd (omega arith)
place_from sites j (line ∷ items) zero are less = rw (bytes_same line.name) (ap (λ (n : ℕ). Some n) (omega arith))
place_from sites j (line ∷ items) (suc k) are less =
    let p = items_parts sites line items are in
    let differ : bytes_eq (name_of items (item k)) line.name ≡ false = none_at (λ name. bytes_eq name line.name) items k (omega arith) p.new in
    let n : j + 1 + k ≡ j + suc k = omega arith in
    rw differ (place_from sites (j + 1) items k p.rest (omega arith) ∙ ap (λ (x : ℕ). Some x) n)

form_at : (sites : ℕ) (items : List ItemLine) (k : ℕ) → are_items sites items ≡ true → k < length items → is_name (name_of items (item k)) ≡ true
form_at sites [] k are less = absurd (omega arith)
form_at sites (line ∷ items) zero are less =
    let p = items_parts sites line items are in
    let is = item_parts sites line p.first in
    is.name
form_at sites (line ∷ items) (suc k) are less = let p = items_parts sites line items are in form_at sites items k p.rest (omega arith)

pub names : (sites : ℕ) (items : List ItemLine) → are_items sites items ≡ true → (k : ℕ) → k < length items → Names items k
unfolding place_of
names sites items are k less = record { form = form_at sites items k are less; place = place_from sites 0 items k are less ∙ ap (λ (n : ℕ). Some n) (omega arith) }
