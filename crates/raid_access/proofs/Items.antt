-- The items of a workload, counted from 0, and what their lines say.
use Rattle.std.proofs.Common.{◌≡◌, ℕ, zero, suc, ◌+◌, ◌<◌, ◌≤◌, Bool, true, false, ◌&&◌, if◌then◌else◌, List, [], ◌∷◌, ◌++◌, map, filter, length, nat_le, pos, Some, slice_get, get_or, arith, ap, sym, ◌∙◌, refl}
use Rattle.std.specs.List.{list_all}
use Rattle.std.specs.Option.{option_map_or}
use Rattle.std.proofs.lemmas.Option.{slice_get-get_or}
use Rattle.std.proofs.lemmas.List.{map-append, get_or-map}
use Rattle.std.proofs.lemmas.List.Elements.{filter-append}
use Rattle.std.proofs.lemmas.Bool.{and_parts}
use Rattle.raid_base.specs.declared.names.Item.{Item}
use Rattle.raid_workload.specs.declared.workload.Workload.{Workload}
use Rattle.raid_workload.specs.declared.workload.ItemLine.{ItemLine}
use Rattle.raid_workload.specs.Parts.{count_from, initial, placement}
use Rattle.raid_workload.specs.Rules.{is_homed, are_restarts, is_within, are_items, are_switches, are_events}
use Rattle.raid_rules.specs.Sessions.{holders}

abbrev pub item : ℕ → Item
item k = record { 0 = k }

-- the first items, as many as that
abbrev pub items_below : ℕ → List Item
items_below k = map item (count_from 0 k)

count_more : (a n : ℕ) → count_from a (suc n) ≡ count_from a n ++ (a + n) ∷ []
count_more a zero = ap (λ k. k ∷ []) (let e : a ≡ a + zero = omega arith in e)
count_more a (suc n) = ap (λ ks. a ∷ ks) (count_more (a + 1) n ∙ ap (λ k. count_from (a + 1) n ++ k ∷ []) (let e : a + 1 + n ≡ a + suc n = omega arith in e))

items_more : (k : ℕ) → items_below (k + 1) ≡ items_below k ++ item k ∷ []
items_more k =
    let one : k + 1 ≡ suc k = omega arith in
    let same : 0 + k ≡ k = omega arith in
    ap items_below one ∙ ap (map item) (count_more 0 k) ∙ map-append item (count_from 0 k) ((0 + k) ∷ []) ∙ ap (λ n. items_below k ++ item n ∷ []) same

-- a list of some items, with one item more
kept_more : {X : Type 0} (f : Item → X) (t : Item → Bool) (k : ℕ) → map f (filter t (items_below (k + 1))) ≡ map f (filter t (items_below k)) ++ map f (filter t (item k ∷ []))
kept_more f t k = ap (λ xs. map f (filter t xs)) (items_more k) ∙ ap (map f) (filter-append t (items_below k) (item k ∷ [])) ∙ map-append f (filter t (items_below k)) (filter t (item k ∷ []))

if_kept : {X : Type 0} (f : Item → X) (x : Item) (b : Bool) → map f (if b then x ∷ [] else []) ≡ (if b then f x ∷ [] else [])
if_kept f x true = refl
if_kept f x false = refl

pub kept_if : {X : Type 0} (f : Item → X) (t : Item → Bool) (k : ℕ) (b : Bool) → t (item k) ≡ b → map f (filter t (items_below (k + 1))) ≡ map f (filter t (items_below k)) ++ (if b then f (item k) ∷ [] else [])
kept_if f t k b is = kept_more f t k ∙ ap (λ xs. map f (filter t (items_below k)) ++ xs) (if_kept f (item k) (t (item k)) ∙ ap (λ c. if c then f (item k) ∷ [] else []) is)

-- an item's first value, and its holders, are those of its line
pub initial_at : (w : Workload) (xs : List ItemLine) (k : ℕ) (line : ItemLine) → xs ≡ w.items → line ≡ get_or xs k line → k < length xs → initial w (item k) ≡ line.value
initial_at w xs k line same here below =
    ap (λ o. option_map_or (λ (l : ItemLine). l.value) o (pos 0)) (ap (λ ls. slice_get ls k) (sym same) ∙ slice_get-get_or xs k line below ∙ ap (λ l. Some l) (sym here))

pub holders_at : (w : Workload) (xs : List ItemLine) (k : ℕ) (line : ItemLine) → xs ≡ w.items → line ≡ get_or xs k line → k < length xs → holders (placement w) (item k) ≡ line.holders
holders_at w xs k line same here below =
    ap (λ ls. get_or (map (λ (l : ItemLine). l.holders) ls) k []) (sym same) ∙ get_or-map (λ (l : ItemLine). l.holders) xs k line [] below ∙ ap (λ (l : ItemLine). l.holders) (sym here)

-- there are not many
fourth : (a b c d e f g h i j k : Bool) → (a && b && c && d && e && f && g && h && i && j && k) ≡ true → d ≡ true
fourth a b c d e f g h i j k all =
    let to-j = and_parts (a && b && c && d && e && f && g && h && i && j) k all in
    let to-i = and_parts (a && b && c && d && e && f && g && h && i) j to-j.0 in
    let to-h = and_parts (a && b && c && d && e && f && g && h) i to-i.0 in
    let to-g = and_parts (a && b && c && d && e && f && g) h to-h.0 in
    let to-f = and_parts (a && b && c && d && e && f) g to-g.0 in
    let to-e = and_parts (a && b && c && d && e) f to-f.0 in
    let to-d = and_parts (a && b && c && d) e to-e.0 in
    (and_parts (a && b && c) d to-d.0).1

at_most : (n m : ℕ) → nat_le n m ≡ true → n ≤ m
at_most n m h = grind (arith, h)

pub few_items : (w : Workload) → length w.items ≤ 1024
few_items w =
    at_most (length w.items) 1024
    (fourth (are_restarts w.version w.restarts) (is_within 1 8 w.sites) (is_within 1 16 w.together) (nat_le (length w.items) 1024) (are_items w.sites w.items)
    (nat_le (length w.switches) 64) (are_switches w.structure w.kind 1 w.switches) (nat_le (length w.events) 64) (are_events w.sites [] 1 w.events)
    (nat_le (length w.programs) 2000) (list_all (is_homed w.sites (length w.items)) w.programs) w.kept)
