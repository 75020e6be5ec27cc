-- The copies of a site after the writes of a Commit were applied, and after one copy was renewed: which versions they have.
use Rattle.std.proofs.Common.{◌≡◌, ℕ, ℤ, Bool, true, false, ◌||◌, List, [], ◌∷◌, map, find, Option, Some, None, option_map, if◌then◌else◌, sym, subst, ap, ◌∙◌, refl}
use Rattle.std.specs.List.{AllByRecursion, list_any}
use Rattle.std.specs.Option.{option_map_or}
use Rattle.std.proofs.lemmas.Bool.{eqb-true, true≢false}
use Rattle.raid_base.specs.declared.names.Txn.{Txn}
use Rattle.raid_base.specs.declared.names.Item.{Item}
use Rattle.raid_base.specs.declared.names.Site.{Site}
use Rattle.raid_base.specs.Names.{is_txn, is_item, holds}
use Rattle.raid_base.specs.Find.{first_of}
use Rattle.raid_workload.specs.declared.workload.Workload.{Workload}
use Rattle.raid_steps.specs.State.{Copy, SiteState}
use Rattle.raid_steps.specs.Copies.{copy_of, holds_copy, staged_of, renewed}
use Rattle.raid_steps.specs.Programs.{held_by}
use Rattle.raid_moves.proofs.Places.{nothing, something}
use Rattle.raid_letters.specs.Says.{is_held}

-- what is found passes the test
pub found_passes : {X : Type 0} (test : X → Bool) (xs : List X) (y : X) → find test xs ≡ Some y → test y ≡ true
found_passes test [] y q = absurd (nothing q)
found_passes test (x ∷ xs) y q = go (test x) refl q (found_passes test xs y)
  where
    go : (b : Bool) → test x ≡ b → (if b then Some x else find test xs) ≡ Some y → (find test xs ≡ Some y → test y ≡ true) → test y ≡ true
    go true is q rest = subst (λ z. test z ≡ true) (something q) is
    go false is q rest = rest q

pub same_item : (x y : Item) → is_item x y ≡ true → y ≡ x
same_item x y q = ap (λ n. let z : Item = record { 0 = n } in z) (eqb-true y.0 x.0 q)

-- the item of the copy that is found
pub found_item : (s : SiteState) (x : Item) (c : Copy) → copy_of s x ≡ Some c → c.item ≡ x
found_item s x c q = same_item x c.item (found_passes (λ (c : Copy). is_item x c.item) s.copies c q)

-- so the site has a copy of it
pub found_held : (s : SiteState) (x : Item) (c : Copy) → copy_of s x ≡ Some c → holds_copy s x ≡ true
found_held s x c q = go s.copies q
  where
    go : (cs : List Copy) → find (λ (c : Copy). is_item x c.item) cs ≡ Some c → list_any (λ (c : Copy). is_item x c.item) cs ≡ true
    go [] q = absurd (nothing q)
    go (d ∷ cs) q = here (is_item x d.item) q (go cs)
      where
        here : (b : Bool) → (if b then Some d else find (λ (c : Copy). is_item x c.item) cs) ≡ Some c → (find (λ (c : Copy). is_item x c.item) cs ≡ Some c → list_any (λ (c : Copy). is_item x c.item) cs ≡ true) → (b || list_any (λ (c : Copy). is_item x c.item) cs) ≡ true
        here true q rest = refl
        here false q rest = rest q

-- where each copy is made another of its item, the one found was made of the one found before
pub found_mapped : (f : Copy → Copy) → ((c : Copy) → (f c).item ≡ c.item) → (x : Item) (cs : List Copy) (d : Copy) → find (λ (c : Copy). is_item x c.item) (map f cs) ≡ Some d → (c : Copy) × ((find (λ (c : Copy). is_item x c.item) cs ≡ Some c) × (f c ≡ d))
found_mapped f same x [] d q = absurd (nothing q)
found_mapped f same x (c ∷ cs) d q = go (is_item x c.item) (subst (λ y. (if is_item x y then Some (f c) else find (λ (c : Copy). is_item x c.item) (map f cs)) ≡ Some d) (same c) q) (found_mapped f same x cs d)
  where
    Made : Option Copy → Type 0
    Made o = (b : Copy) × ((o ≡ Some b) × (f b ≡ d))

    go : (b : Bool) → (if b then Some (f c) else find (λ (c : Copy). is_item x c.item) (map f cs)) ≡ Some d → (find (λ (c : Copy). is_item x c.item) (map f cs) ≡ Some d → Made (find (λ (c : Copy). is_item x c.item) cs)) → Made (if b then Some c else find (λ (c : Copy). is_item x c.item) cs)
    go true q rest = (c, (refl, something q))
    go false q rest = rest q

-- a value is found among pairs where they hold the item
first_some : (x : Item) (ps : List (Item × ℤ)) (v : ℤ) → first_of x ps ≡ Some v → holds x ps ≡ true
first_some x [] v q = absurd (nothing q)
first_some x (pair ∷ ps) v q = go (is_item x pair.0) q (first_some x ps v)
  where
    go : (b : Bool) → (if b then Some pair.1 else first_of x ps) ≡ Some v → (first_of x ps ≡ Some v → holds x ps ≡ true) → (b || holds x ps) ≡ true
    go true q rest = refl
    go false q rest = rest q

first_none : (x : Item) (ps : List (Item × ℤ)) → first_of x ps ≡ None → holds x ps ≡ false
first_none x [] q = refl
first_none x (pair ∷ ps) q = go (is_item x pair.0) q (first_none x ps)
  where
    go : (b : Bool) → (if b then Some pair.1 else first_of x ps) ≡ None → (first_of x ps ≡ None → holds x ps ≡ false) → (b || holds x ps) ≡ false
    go true q rest = absurd (nothing (sym q))
    go false q rest = rest q

-- of an item that the site holds, its part has the writes that there are
pub holds_held : (w : Workload) (s : Site) (x : Item) (writes : List (Item × ℤ)) → is_held w s x ≡ true → holds x (held_by w s writes) ≡ holds x writes
holds_held w s x [] held = refl
holds_held w s x (pair ∷ ps) held = go (is_item x pair.0) refl (is_held w s pair.0) refl (holds_held w s x ps held)
  where
    go : (b : Bool) → is_item x pair.0 ≡ b → (c : Bool) → is_held w s pair.0 ≡ c → holds x (held_by w s ps) ≡ holds x ps → holds x (if c then pair ∷ held_by w s ps else held_by w s ps) ≡ (b || holds x ps)
    go true same true has rest = ap (λ b. b || holds x (held_by w s ps)) same
    go true same false has rest = absurd (true≢false (sym held ∙ subst (λ z. is_held w s z ≡ false) (same_item x pair.0 same) has))
    go false same true has rest = ap (λ b. b || holds x (held_by w s ps)) same ∙ rest
    go false same false has rest = rest

-- a copy after the site's part of a Commit's writes
pub renewed_item : (number : ℕ) (ps : List (Item × ℤ)) (c : Copy) → (renewed number ps c).item ≡ c.item
renewed_item number ps c = go (first_of c.item ps)
  where
    go : (o : Option ℤ) → (option_map_or (λ v. let z : Copy = record { item = c.item; value = v; version = number } in z) o c).item ≡ c.item
    go None = refl
    go (Some v) = refl

pub renewed_version : (w : Workload) (s : Site) (number : ℕ) (writes : List (Item × ℤ)) (c : Copy) → is_held w s c.item ≡ true → (renewed number (held_by w s writes) c).version ≡ (if holds c.item writes then number else c.version)
renewed_version w s number writes c held = go (first_of c.item ps) refl
  where
    ps : List (Item × ℤ)
    ps = held_by w s writes

    either : (b : Bool) → holds c.item ps ≡ b → (if holds c.item writes then number else c.version) ≡ (if b then number else c.version)
    either b q = ap (λ b. if b then number else c.version) (sym (holds_held w s c.item writes held) ∙ q)

    go : (o : Option ℤ) → first_of c.item ps ≡ o → (option_map_or (λ v. let z : Copy = record { item = c.item; value = v; version = number } in z) o c).version ≡ (if holds c.item writes then number else c.version)
    go None q = sym (either false (first_none c.item ps q))
    go (Some v) q = sym (either true (first_some c.item ps v q))

-- a copy after that of an item was renewed
abbrev pub set_in : Item → ℤ → ℕ → Copy → Copy
set_in x v version c = if is_item x c.item then record { item = c.item; value = v; version = version } else c

pub set_item : (x : Item) (v : ℤ) (version : ℕ) (c : Copy) → (set_in x v version c).item ≡ c.item
set_item x v version c = go (is_item x c.item)
  where
    go : (b : Bool) → (let z : Copy = (if b then record { item = c.item; value = v; version = version } else c) in z.item) ≡ c.item
    go true = refl
    go false = refl

-- the version that it has then
pub set_version : (x : Item) (v : ℤ) (version : ℕ) (c : Copy) → (set_in x v version c).version ≡ (if is_item x c.item then version else c.version)
set_version x v version c = go (is_item x c.item)
  where
    go : (b : Bool) → (let z : Copy = (if b then record { item = c.item; value = v; version = version } else c) in z.version) ≡ (if b then version else c.version)
    go true = refl
    go false = refl

-- what is staged for a transaction has what all has that is staged for it
pub staged_has : (P : List (Item × ℤ) → Type 0) (s : SiteState) (t : Txn) (ps : List (Item × ℤ)) → staged_of s t ≡ Some ps → AllByRecursion (λ (e : Txn × List (Item × ℤ)). is_txn t e.0 ≡ true → P e.1) s.staged → P ps
staged_has P s t ps q a = go s.staged q a
  where
    go : (es : List (Txn × List (Item × ℤ))) → option_map (λ (e : Txn × List (Item × ℤ)). e.1) (find (λ (e : Txn × List (Item × ℤ)). is_txn t e.0) es) ≡ Some ps → AllByRecursion (λ (e : Txn × List (Item × ℤ)). is_txn t e.0 ≡ true → P e.1) es → P ps
    go [] q a = absurd (nothing q)
    go (e ∷ es) q a = here (is_txn t e.0) refl q (λ q. go es q a.1)
      where
        here : (b : Bool) → is_txn t e.0 ≡ b → option_map (λ (e : Txn × List (Item × ℤ)). e.1) (if b then Some e else find (λ (e : Txn × List (Item × ℤ)). is_txn t e.0) es) ≡ Some ps →
            (option_map (λ (e : Txn × List (Item × ℤ)). e.1) (find (λ (e : Txn × List (Item × ℤ)). is_txn t e.0) es) ≡ Some ps → P ps) → P ps
        here true is q rest = subst P (something q) (a.0 is)
        here false is q rest = rest q
