-- The copies that a table of slots has.
use Rattle.std.proofs.Common.{◌≡◌, ℕ, ℤ, zero, suc, ◌+◌, ◌<◌, ◌==◌, Bool, true, false, ◌||◌, if◌then◌else◌, List, [], ◌∷◌, ◌++◌, map, filter, length, Option, Some, None, slice_set, arith, drop, take, get_or, ◌-◌, ◌≤◌, ap, sym, ◌∙◌, refl}
use Rattle.std.specs.Prelude.{slice_index_or, option_map, is_some, unwrap_or}
use Rattle.std.specs.List.{list_any}
use Rattle.std.specs.Option.{option_map_or}
use Rattle.std.proofs.lemmas.Grind.{common_steps}
use Rattle.std.proofs.lemmas.List.{map-append}
use Rattle.raid_base.specs.declared.names.Item.{Item}
use Rattle.raid_base.specs.declared.names.Site.{Site}
use Rattle.raid_base.specs.declared.report.CopyLine.{CopyLine}
use Rattle.raid_base.specs.Names.{is_item, has_site}
use Rattle.raid_base.specs.Find.{first_of}
use Rattle.raid_steps.specs.State.{Copy}
use Rattle.raid_steps.specs.Copies.{renewed, set_copy}
use Rattle.raid_workload.specs.declared.workload.Workload.{Workload}
use Rattle.raid_workload.specs.Parts.{initial, placement}
use Rattle.raid_rules.specs.Sessions.{holders}
use Rattle.raid_access.specs.declared.copies.Held.{Held}
use Rattle.raid_access.specs.Stock.{copies_from, copy_in, held}
use Rattle.raid_access.proofs.Items.{item, items_below, kept_if}

-- the copy of an item that holds this
abbrev pub copy : ℕ → Held → Copy
copy k h = record { item = record { 0 = k }; value = h.value; version = h.version }

-- numbers that differ
differ : (a b : ℕ) → a < b → (a == b) ≡ false
differ a b h = grind (arith, h)

-- no copy is of an item below the first slot's
find_below : (slots : List (Option Held)) (k : ℕ) (x : Item) → x.0 < k → copy_in (copies_from k slots) x ≡ None
find_below [] k x below = refl
find_below (None ∷ slots) k x below = find_below slots (k + 1) x (omega (arith, below))
find_below (Some h ∷ slots) k x below =
    let other : (k == x.0) ≡ false = grind (arith, below) in
    ap (λ b. if b then Some (copy k h) else copy_in (copies_from (k + 1) slots) x) other ∙ find_below slots (k + 1) x (omega (arith, below))

-- the copy of an item is that of its slot
pub find_at : (slots : List (Option Held)) (k d : ℕ) (x : Item) → x.0 ≡ k + d → option_map held (copy_in (copies_from k slots) x) ≡ slice_index_or slots d None
find_at [] k d x is = refl
find_at (None ∷ slots) k zero x is = ap (option_map held) (find_below slots (k + 1) x (omega (arith, is)))
find_at (None ∷ slots) k (suc d) x is = find_at slots (k + 1) d x (omega (arith, is))
find_at (Some h ∷ slots) k zero x is =
    let same : (k == x.0) ≡ true = grind (arith, is) in
    ap (λ b. option_map held (if b then Some (copy k h) else copy_in (copies_from (k + 1) slots) x)) same
find_at (Some h ∷ slots) k (suc d) x is =
    let other : (k == x.0) ≡ false = grind (arith, is) in
    ap (λ b. option_map held (if b then Some (copy k h) else copy_in (copies_from (k + 1) slots) x)) other ∙ find_at slots (k + 1) d x (omega (arith, is))

-- where there is no copy of an item none is set
absent_cons : (x : Item) (v : ℤ) (n : ℕ) (c : Copy) (cs : List Copy) (b : Bool) → is_item x c.item ≡ b → (if b then Some c else copy_in cs x) ≡ None → (copy_in cs x ≡ None → set_copy x v n cs ≡ cs) → set_copy x v n (c ∷ cs) ≡ c ∷ cs
absent_cons x v n c cs true is none rest = absurd (cc none)
absent_cons x v n c cs false is none rest = ap (λ b. (if b then record { item = c.item; value = v; version = n } else c) ∷ set_copy x v n cs) is ∙ ap (λ ds. c ∷ ds) (rest none)

pub set_absent : (x : Item) (v : ℤ) (n : ℕ) (cs : List Copy) → copy_in cs x ≡ None → set_copy x v n cs ≡ cs
set_absent x v n [] none = refl
set_absent x v n (c ∷ cs) none = absent_cons x v n c cs (is_item x c.item) refl none (set_absent x v n cs)

not_found : (o : Option Copy) → option_map held o ≡ None → o ≡ None
not_found None h = refl
not_found (Some c) h = absurd (cc h)

pub set_missing : (slots : List (Option Held)) (x : Item) (v : ℤ) (n : ℕ) → slice_index_or slots x.0 None ≡ None → set_copy x v n (copies_from 0 slots) ≡ copies_from 0 slots
set_missing slots x v n none = set_absent x v n (copies_from 0 slots) (not_found (copy_in (copies_from 0 slots) x) (find_at slots 0 x.0 x (omega arith) ∙ none))

-- setting the slot of an item that has a copy sets the copy
pub set_at : (slots : List (Option Held)) (k d : ℕ) (x : Item) (h : Held) → x.0 ≡ k + d → is_some (slice_index_or slots d None) ≡ true → copies_from k (slice_set slots d (Some h)) ≡ set_copy x h.value h.version (copies_from k slots)
set_at [] k d x h is some = absurd (cc some)
set_at (None ∷ slots) k zero x h is some = absurd (cc some)
set_at (None ∷ slots) k (suc d) x h is some = set_at slots (k + 1) d x h (omega (arith, is)) some
set_at (Some f ∷ slots) k zero x h is some =
    let same : (k == x.0) ≡ true = grind (arith, is) in
    sym (ap (λ b. (if b then copy k h else copy k f) ∷ set_copy x h.value h.version (copies_from (k + 1) slots)) same
    ∙ ap (λ cs. copy k h ∷ cs) (set_absent x h.value h.version (copies_from (k + 1) slots) (find_below slots (k + 1) x (omega (arith, is)))))
set_at (Some f ∷ slots) k (suc d) x h is some =
    let other : (k == x.0) ≡ false = grind (arith, is) in
    sym (ap (λ b. (if b then copy k h else copy k f) ∷ set_copy x h.value h.version (copies_from (k + 1) slots)) other
    ∙ ap (λ cs. copy k f ∷ cs) (sym (set_at slots (k + 1) d x h (omega (arith, is)) some)))

-- one slot more
pub copies_push : (slots : List (Option Held)) (k : ℕ) (o : Option Held) → copies_from k (slots ++ o ∷ []) ≡ copies_from k slots ++ copies_from (k + length slots) (o ∷ [])
copies_push [] k o = ap (λ n. copies_from n (o ∷ [])) (let e : k ≡ k + 0 = omega arith in e)
copies_push (None ∷ slots) k o = copies_push slots (k + 1) o ∙ ap (λ n. copies_from (k + 1) slots ++ copies_from n (o ∷ [])) (let e : k + 1 + length slots ≡ k + suc (length slots) = omega arith in e)
copies_push (Some h ∷ slots) k o = ap (λ cs. copy k h ∷ cs) (copies_push slots (k + 1) o ∙ ap (λ n. copies_from (k + 1) slots ++ copies_from n (o ∷ [])) (let e : k + 1 + length slots ≡ k + suc (length slots) = omega arith in e))

-- the copies of the first items at the start, as many as that
abbrev pub first_copies : Workload → Site → ℕ → List Copy
first_copies w s k = map (λ x. record { item = x; value = initial w x; version = 0 }) (filter (λ x. has_site (holders (placement w) x) s) (items_below k))

-- what the first slot of an item holds
abbrev pub first_held : Bool → ℤ → Option Held
first_held b v = if b then Some (record { value = v; version = 0 }) else None

one_copy : (b : Bool) (k : ℕ) (v : ℤ) → copies_from k (first_held b v ∷ []) ≡ (if b then record { item = record { 0 = k }; value = v; version = 0 } ∷ [] else [])
one_copy true k v = refl
one_copy false k v = refl

pub first_more : (w : Workload) (s : Site) (slots : List (Option Held)) (k : ℕ) (b : Bool) (v : ℤ) → length slots ≡ k → copies_from 0 slots ≡ first_copies w s k →
    has_site (holders (placement w) (item k)) s ≡ b → initial w (item k) ≡ v → copies_from 0 (slots ++ first_held b v ∷ []) ≡ first_copies w s (k + 1)
first_more w s slots k b v long before here value =
    copies_push slots 0 (first_held b v)
    ∙ ap (λ cs. cs ++ copies_from (0 + length slots) (first_held b v ∷ [])) before
    ∙ ap (λ n. first_copies w s k ++ copies_from n (first_held b v ∷ [])) (let e : 0 + length slots ≡ k = omega (arith, long) in e)
    ∙ ap (λ cs. first_copies w s k ++ cs) (one_copy b k v ∙ ap (λ z. if b then record { item = item k; value = z; version = 0 } ∷ [] else []) (sym value))
    ∙ sym (kept_if {X = Copy} (λ x. record { item = x; value = initial w x; version = 0 }) (λ x. has_site (holders (placement w) x) s) k b here)

-- one write more: the first pair of an item counts
set_one : (n : ℕ) (p : Item × ℤ) (ps : List (Item × ℤ)) (c : Copy) (b : Bool) → (p.0.0 == c.item.0) ≡ b → (o : Option ℤ) →
    (let d = option_map_or (λ v. record { item = c.item; value = v; version = n }) o c in if is_item p.0 d.item then record { item = d.item; value = p.1; version = n } else d)
    ≡ option_map_or (λ v. record { item = c.item; value = v; version = n }) (if p.0.0 == c.item.0 then Some p.1 else o) c
set_one n p ps c b is None = grind (arith, common_steps)
set_one n p ps c b is (Some v) = grind (arith, common_steps)

pub renewed_cons : (n : ℕ) (p : Item × ℤ) (ps : List (Item × ℤ)) (cs : List Copy) → set_copy p.0 p.1 n (map (renewed n ps) cs) ≡ map (renewed n (p ∷ ps)) cs
renewed_cons n p ps [] = refl
renewed_cons n p ps (c ∷ cs) = ap (λ d. d ∷ set_copy p.0 p.1 n (map (renewed n ps) cs)) (set_one n p ps c (p.0.0 == c.item.0) refl (first_of c.item ps)) ∙ ap (λ ds. renewed n (p ∷ ps) c ∷ ds) (renewed_cons n p ps cs)

pub renewed_none : (n : ℕ) (cs : List Copy) → map (renewed n []) cs ≡ cs
renewed_none n [] = refl
renewed_none n (c ∷ cs) = ap (λ ds. c ∷ ds) (renewed_none n cs)

-- there is a copy exactly where one is found
any_cons : (b : Bool) (c : Copy) (rest : Bool) (o : Option Copy) → rest ≡ option_map_or (λ d. true) o false → (b || rest) ≡ option_map_or (λ d. true) (if b then Some c else o) false
any_cons true c rest o same = refl
any_cons false c rest o same = same

pub any_found : (cs : List Copy) (x : Item) → list_any (λ (c : Copy). is_item x c.item) cs ≡ option_map_or (λ c. true) (copy_in cs x) false
any_found [] x = refl
any_found (c ∷ cs) x = any_cons (is_item x c.item) c (list_any (λ (d : Copy). is_item x d.item) cs) (copy_in cs x) (any_found cs x)

-- so there is one exactly where something is held
held_some : (o : Option Copy) (h : Option Held) → option_map held o ≡ h → option_map_or (λ c. true) o false ≡ is_some h
held_some None h is = ap (λ o. is_some o) is
held_some (Some c) h is = ap (λ o. is_some o) is

pub held_found : (cs : List Copy) (x : Item) (h : Option Held) → h ≡ option_map held (copy_in cs x) → list_any (λ (c : Copy). is_item x c.item) cs ≡ is_some h
held_found cs x h is = any_found cs x ∙ held_some (copy_in cs x) h (sym is)

pub some_held : (h : Option Held) (d : Held) → is_some h ≡ true → h ≡ Some (unwrap_or h d)
some_held None d some = absurd (cc some)
some_held (Some g) d some = refl

-- a copy as a report tells it
abbrev pub line : Site → Copy → CopyLine
line s c = record { site = s; item = c.item; value = c.value; version = c.version }

-- what is left from a place on, and from the next
pub dropped_one : {X : Type 0} (xs : List X) (k : ℕ) (d : X) → 0 < k → k ≤ length xs → get_or xs (k - 1) d ∷ drop k xs ≡ drop (k - 1) xs
dropped_one xs k d some within = grind (arith, common_steps, some, within)

-- one copy more in a report
lines_more : (s : Site) (slots : List (Option Held)) (k : ℕ) (o : Option Held) (d : Option Held) → o ≡ get_or slots k d → k < length slots →
    map (line s) (copies_from 0 (take (k + 1) slots)) ≡ map (line s) (copies_from 0 (take k slots)) ++ map (line s) (copies_from k (o ∷ []))
lines_more s slots k o d is below =
    let one : take (k + 1) slots ≡ take k slots ++ o ∷ [] = grind (arith, common_steps, is, below) in
    let long : 0 + length (take k slots) ≡ k = grind (arith, common_steps, below) in
    ap (λ xs. map (line s) (copies_from 0 xs)) one ∙ ap (map (line s)) (copies_push (take k slots) 0 o ∙ ap (λ n. copies_from 0 (take k slots) ++ copies_from n (o ∷ [])) long)
    ∙ map-append (line s) (copies_from 0 (take k slots)) (copies_from k (o ∷ []))

pub listed : (s : Site) (slots : List (Option Held)) (k : ℕ) (o : Option Held) (ls : List CopyLine) → ls ≡ map (line s) (copies_from 0 (take k slots)) → get_or slots k None ≡ o → k < length slots →
    ls ++ map (line s) (copies_from k (o ∷ [])) ≡ map (line s) (copies_from 0 (take (k + 1) slots))
listed s slots k o ls so-far is below = ap (λ z. z ++ map (line s) (copies_from k (o ∷ []))) so-far ∙ sym (lines_more s slots k o None (sym is) below)
