-- Items are found by their names: no two have one name.
use Rattle.std.proofs.Common.{◌≡◌, ℕ, zero, suc, ◌+◌, ◌<◌, Bool, true, false, cond, not, ◌&&◌, ◌||◌, List, [], ◌∷◌, ◌==◌, length, get_or, take, map, Option, Some, None, refl, sym, ap, subst, ◌∙◌, arith}
use Rattle.std.specs.Prelude.{bytes_eq, slice_get}
use Rattle.std.specs.List.{list_any, position_from}
use Rattle.std.specs.Option.{option_map_or}
use Rattle.std.proofs.lemmas.Bool.{and_parts}
use Rattle.raid_base.specs.declared.names.Item.{Item}
use Rattle.raid_program.specs.Run.{is_i64}
use Rattle.raid_workload.specs.declared.workload.Workload.{Workload}
use Rattle.raid_workload.specs.declared.workload.ItemLine.{ItemLine}
use Rattle.raid_workload.specs.Name.{is_name}
use Rattle.raid_workload.specs.Rules.{are_items, is_item, are_ascending}
use Rattle.raid_pieces.specs.Reading.{◌>>=◌}
use Rattle.raid_pieces.specs.Names.{place_of}
use Rattle.raid_pieces.proofs.Written.{bytes_same, same_bytes}
use Rattle.raid_report.specs.Spelling.{Word, name_of}
use Rattle.raid_report.specs.Known.{KnowsItem}
use Rattle.raid_report.specs.Forms.{item, names_of, item_of}
use Rattle.raid_report.proofs.Bind.{bind_some, some_is}
use Rattle.raid_report.proofs.Facts.{sized}

abbrev pub named : ItemLine → Word
named line = line.name

abbrev name_at : List ItemLine → ℕ → Word
name_at items i = option_map_or named (slice_get items i) []

-- ---- what is found has the name

pub record IsFound (items : List ItemLine) (name : Word) (k j : ℕ) : Type 0 where
  pub place : ℕ
  pub is : j ≡ k + place
  pub within : place < length items
  pub called : name_at items place ≡ name

here_or : (b : Bool) (k j : ℕ) (o : Option ℕ) (P : Type 0) → cond b (Some k) o ≡ Some j → (b ≡ true → k ≡ j → P) → (o ≡ Some j → P) → P
here_or true k j o P h here there = here refl cc
here_or false k j o P h here there = there h

found : (items : List ItemLine) (name : Word) (k j : ℕ) → position_from (bytes_eq name) k (map named items) ≡ Some j → IsFound items name k j
found [] name k j h = absurd cc
found (line ∷ lines) name k j h =
    here_or (bytes_eq name line.name) k j (position_from (bytes_eq name) (k + 1) (map named lines)) (IsFound (line ∷ lines) name k j) h
    (λ same e. record { place = 0; is = omega arith; within = omega arith; called = sym (same_bytes name line.name same) })
    (λ e. let f = found lines name (k + 1) j e in record { place = suc f.place; is = omega (arith, f.is); within = omega (arith, f.within); called = f.called })

pub record IsItemWord (w : Workload) (word : Word) (x : Item) : Type 0 where
  pub written : name_of w x ≡ word
  pub known : KnowsItem w x

pub item_exact : (w : Workload) (word : Word) (x : Item) → item_of w word ≡ Some x → IsItemWord w word x
unfolding item_of place_of
item_exact w word x e =
    let a = bind_some (place_of (names_of w) word) _ x e in
    let f = found w.items word 0 a.0 a.1 in
    let is : a.0 ≡ f.place = omega (arith, f.is) in
    let s : item f.place ≡ x = ap item (sym is) ∙ some_is (item a.0) x a.2 in
    subst (IsItemWord w word) s (record { written = f.called; known = f.within })

-- ---- what has the name is found

either_false : (a b : Bool) → (a || b) ≡ false → (a ≡ false) × (b ≡ false)
either_false true b h = absurd cc
either_false false b h = (refl, h)

not_true : (t : Bool) → not t ≡ true → t ≡ false
not_true true e = sym e
not_true false e = refl

apart_at : (lines : List ItemLine) (name : Word) (i : ℕ) → list_any (λ (other : ItemLine). bytes_eq other.name name) lines ≡ false → i < length lines → bytes_eq (name_at lines i) name ≡ false
apart_at [] name i h less = absurd (omega arith)
apart_at (line ∷ lines) name zero h less = let p = either_false (bytes_eq line.name name) (list_any (λ (other : ItemLine). bytes_eq other.name name) lines) h in p.0
apart_at (line ∷ lines) name (suc i) h less = let p = either_false (bytes_eq line.name name) (list_any (λ (other : ItemLine). bytes_eq other.name name) lines) h in apart_at lines name i p.1 (omega arith)

record IsNamed (sites : ℕ) (line : ItemLine) (lines : List ItemLine) : Type 0 where
  pub name : is_name line.name ≡ true
  pub apart : list_any (λ (other : ItemLine). bytes_eq other.name line.name) lines ≡ false
  pub others : are_items sites lines ≡ true

parts_of : (sites : ℕ) (line : ItemLine) (lines : List ItemLine) → are_items sites (line ∷ lines) ≡ true → IsNamed sites line lines
parts_of sites line lines h =
    let p = and_parts (is_item sites line && not (list_any (λ (other : ItemLine). bytes_eq other.name line.name) lines)) (are_items sites lines) h in
    let q = and_parts (is_item sites line) (not (list_any (λ (other : ItemLine). bytes_eq other.name line.name) lines)) p.0 in
    let a = and_parts (is_name line.name && is_i64 line.value && not (length line.holders == 0)) (are_ascending 1 sites line.holders) q.0 in
    let b = and_parts (is_name line.name && is_i64 line.value) (not (length line.holders == 0)) a.0 in
    let c = and_parts (is_name line.name) (is_i64 line.value) b.0 in
    record { name = c.0; apart = not_true _ q.1; others = p.1 }

at_place : (sites k i : ℕ) (items : List ItemLine) → are_items sites items ≡ true → i < length items → position_from (bytes_eq (name_at items i)) k (map named items) ≡ Some (k + i)
at_place sites k i [] h less = absurd (omega arith)
at_place sites k zero (line ∷ lines) h less = rw (bytes_same line.name) (ap (λ j. let o : Option ℕ = Some j in o) (omega arith))
at_place sites k (suc i) (line ∷ lines) h less =
    let p = parts_of sites line lines h in
    let apart = apart_at lines line.name i p.apart (omega arith) in
    let rest : position_from (bytes_eq (name_at lines i)) (k + 1) (map named lines) ≡ Some (k + 1 + i) = at_place sites (k + 1) i lines p.others (omega arith) in
    rw apart (rest ∙ ap (λ j. let o : Option ℕ = Some j in o) (omega arith))

pub item_again : (w : Workload) (x : Item) → KnowsItem w x → item_of w (name_of w x) ≡ Some x
unfolding item_of place_of
item_again w x h = let z = sized w in ap (λ (o : Option ℕ). o >>= λ k. Some (item k)) (at_place w.sites 0 x.0 w.items z.named h) ∙ ap (λ j. let o : Option Item = Some (item j) in o) (omega arith)

name_is : (sites i : ℕ) (items : List ItemLine) → are_items sites items ≡ true → i < length items → is_name (name_at items i) ≡ true
name_is sites i [] h less = absurd (omega arith)
name_is sites zero (line ∷ lines) h less = let p = parts_of sites line lines h in p.name
name_is sites (suc i) (line ∷ lines) h less = let p = parts_of sites line lines h in name_is sites i lines p.others (omega arith)

pub item_named : (w : Workload) (x : Item) → KnowsItem w x → is_name (name_of w x) ≡ true
item_named w x h = let z = sized w in name_is w.sites x.0 w.items z.named h

-- ---- the names are new, one after another

fresh_from : (sites k i : ℕ) (items : List ItemLine) (d : ItemLine) → are_items sites items ≡ true → i < length items → position_from (bytes_eq (get_or items i d).name) k (map named (take i items)) ≡ None
fresh_from sites k i [] d h less = absurd (omega arith)
fresh_from sites k zero (line ∷ lines) d h less = refl
fresh_from sites k (suc i) (line ∷ lines) d h less =
    let p = parts_of sites line lines h in
    let at : bytes_eq (get_or lines i d).name line.name ≡ false = apart_get lines line.name i d p.apart (omega arith) in
    rw at (fresh_from sites (k + 1) i lines d p.others (omega arith))
  where
    apart_get : (lines : List ItemLine) (name : Word) (i : ℕ) (d : ItemLine) → list_any (λ (other : ItemLine). bytes_eq other.name name) lines ≡ false → i < length lines → bytes_eq (get_or lines i d).name name ≡ false
    apart_get [] name i d h less = absurd (omega arith)
    apart_get (line ∷ lines) name zero d h less = let p = either_false (bytes_eq line.name name) (list_any (λ (other : ItemLine). bytes_eq other.name name) lines) h in p.0
    apart_get (line ∷ lines) name (suc i) d h less = let p = either_false (bytes_eq line.name name) (list_any (λ (other : ItemLine). bytes_eq other.name name) lines) h in apart_get lines name i d p.1 (omega arith)

pub fresh : (w : Workload) (i : ℕ) (d : ItemLine) → i < length w.items → place_of (map named (take i w.items)) (get_or w.items i d).name ≡ None
unfolding place_of
fresh w i d less = let z = sized w in fresh_from w.sites 0 i w.items d z.named less
