-- Each line before the body keeps the rules, given that the lines before it did.
use Rattle.std.proofs.Common.{◌≡◌, ℕ, ◌+◌, Bool, true, false, cond, not, ◌&&◌, ◌||◌, eqb, leb, List, [], ◌∷◌, ◌++◌, length, Option, Some, None, Ok, refl, arith, subst, codes, inl, inr, ◌⊎◌}
use Rattle.std.specs.Prelude.{bytes_eq, is_some}
use Rattle.std.specs.List.{list_any, position_from}
use Rattle.std.proofs.lemmas.Bool.{le-leb, leb-false, ne_eqb, and_parts, cases_Bool}
use Rattle.std.proofs.lemmas.List.{length-append}
use Rattle.std.proofs.lemmas.List.Folds.{list_any-append}
use Rattle.raid_scan.specs.Words.{Word}
use Rattle.raid_tokens.specs.declared.fault.Fault.TheVariants as faults
use Rattle.raid_tokens.specs.Words.{keyword_at, name_at, number_at, value_at, end_at}
use Rattle.raid_tokens.proofs.Fits.{value_is}
use Rattle.raid_tokens.proofs.Takes.{bind_ok, ok_is, number_at_ok, name_at_ok, value_at_ok}
use Rattle.raid_workload.specs.Rules.{is_within, are_restarts, is_item, are_items}
use Rattle.raid_workload.specs.declared.workload.ItemLine.{ItemLine}
use Rattle.raid_text.specs.declared.state.State.{State}
use Rattle.raid_text.specs.declared.state.Place.TheVariants as places
use Rattle.raid_text.specs.Head.{version_of, with_version, version_line, after_sites, sites_line, restarts_line, holders_at, item_line}
use Rattle.raid_text.specs.Names.{names_of, place_of}
use Rattle.raid_text.specs.Said.{said_by, opening}
use Rattle.raid_text.proofs.Holders.{unless_ok, within, within_parts, holders_ok}
use Rattle.raid_text.proofs.States.{at_sites, at_restarts, at_items, Rules}

-- what is kept before the line of the sites, before the restarts, and while items may come
pub record IsSitesState (s : State) : Type 0 where
  pub is : s ≡ at_sites s.version
  pub version : is_within 1 2 s.version ≡ true

pub record IsRestartsState (s : State) : Type 0 where
  pub is : s ≡ at_restarts s.version s.sites s.together
  pub version : eqb s.version 2 ≡ true
  pub rules : Rules (said_by s)

pub record IsItemsState (s : State) : Type 0 where
  pub is : s ≡ at_items s.version s.restarts s.sites s.together s.items
  pub rules : Rules (said_by s)

-- ---- the version

some_version : (o : Option ℕ) (t : State) → with_version opening o ≡ Ok t → (v : ℕ) × (o ≡ Some v) × (at_sites v ≡ t)
some_version None t e = absurd cc
some_version (Some v) t e = (v, refl, ok_is (at_sites v) t e)

some_same : (a c : ℕ) → Some a ≡ Some c → a ≡ c
some_same a c h = cc

one_or_two : (b c d : Bool) (v : ℕ) → cond b (cond c (Some 1) (cond d (Some 2) None)) None ≡ Some v → is_within 1 2 v ≡ true
one_or_two true true d v e = subst (λ (n : ℕ). is_within 1 2 n ≡ true) (some_same 1 v e) refl
one_or_two true false true v e = subst (λ (n : ℕ). is_within 1 2 n ≡ true) (some_same 2 v e) refl
one_or_two true false false v e = absurd cc
one_or_two false c d v e = absurd cc

version_ok : (word : Word) (words : List Word) (v : ℕ) → version_of word words ≡ Some v → is_within 1 2 v ≡ true
unfolding version_of
version_ok word [] v e = absurd cc
version_ok word (version ∷ words) v e = one_or_two _ _ _ v e

pub version_keeps : (word : Word) (words : List Word) (t : State) → version_line opening word words ≡ Ok t → (t.place ≡ places.Sites) × IsSitesState t
unfolding version_line
version_keeps word words t e =
    let a = some_version (version_of word words) t e in
    subst (λ (u : State). (u.place ≡ places.Sites) × IsSitesState u) a.2 (refl, record { is = refl; version = version_ok word words a.0 a.1 })

-- ---- the sites and the restarts

-- what is kept after the line of the sites
abbrev pub IsAfterSites : State → Type 0
IsAfterSites t = ((t.place ≡ places.Restarts) × IsRestartsState t) ⊎ ((t.place ≡ places.Items) × IsItemsState t)

rules_opened : (version sites together : ℕ) → is_within 1 2 version ≡ true → is_within 1 8 sites ≡ true → is_within 1 16 together ≡ true → Rules (said_by (at_restarts version sites together))
rules_opened version sites together v s t = record { restarts = rw v (or_true (eqb version 2)); sites = s; together = t; few_items = refl; items = refl; few_switches = refl; switches = refl; few_events = refl; events = refl; few_programs = refl; programs = refl }
  where
    or_true : (b : Bool) → (b || true) ≡ true
    or_true true = refl
    or_true false = refl

either_place : (version sites together : ℕ) → is_within 1 2 version ≡ true → is_within 1 8 sites ≡ true → is_within 1 16 together ≡ true → IsAfterSites (record (at_sites version) { place = after_sites version; sites = sites; together = together })
either_place version sites together v s t =
    elim (cases_Bool (eqb version 2)) [
      | inl two ↦ rw two (inl (refl, record { is = refl; version = two; rules = rules_opened version sites together v s t }))
      | inr one ↦ rw one (inr (refl, record { is = refl; rules = rules_opened version sites together v s t }))
    ]

pub sites_keeps : (s : State) (words : List Word) (t : State) → IsSitesState s → sites_line s words ≡ Ok t → IsAfterSites t
unfolding sites_line
sites_keeps s words t kept e0 =
    let e : sites_line (at_sites s.version) words ≡ Ok t = subst (λ (u : State). sites_line u words ≡ Ok t) kept.is e0 in
    let a = bind_ok (number_at 1 8 faults.Range words) _ t e in
    let b = bind_ok (keyword_at (codes "together") a.0.1) _ t a.2 in
    let c = bind_ok (number_at 1 16 faults.Range b.0) _ t b.2 in
    let d = bind_ok (end_at c.0.1) _ t c.2 in
    let n = number_at_ok 1 8 faults.Range words a.0 a.1 in
    let m = number_at_ok 1 16 faults.Range b.0 c.0 c.1 in
    let made : State = record (at_sites s.version) { place = after_sites s.version; sites = a.0.0; together = c.0.0 } in
    subst IsAfterSites (ok_is made t d.2) (either_place s.version a.0.0 c.0.0 kept.version (within 1 8 a.0.0 n.0 n.1) (within 1 16 c.0.0 m.0 m.1))

pub restarts_keeps : (s : State) (words : List Word) (t : State) → IsRestartsState s → restarts_line s words ≡ Ok t → (t.place ≡ places.Items) × IsItemsState t
unfolding restarts_line
restarts_keeps s words t kept e0 =
    let e : restarts_line (at_restarts s.version s.sites s.together) words ≡ Ok t = subst (λ (u : State). restarts_line u words ≡ Ok t) kept.is e0 in
    let a = bind_ok (number_at 0 3 faults.Range words) _ t e in
    let b = bind_ok (end_at a.0.1) _ t a.2 in
    let n = number_at_ok 0 3 faults.Range words a.0 a.1 in
    let rules = kept.rules in
    let few : leb a.0.0 3 ≡ true = le-leb _ _ n.1 in
    let v = and_parts (is_within 1 2 s.version && leb s.restarts 3) (eqb s.version 2 || eqb s.restarts 0) rules.restarts in
    let w = and_parts (is_within 1 2 s.version) (leb s.restarts 3) v.0 in
    let allowed : are_restarts s.version a.0.0 ≡ true = rw (w.0, few, kept.version) refl in
    subst (λ (u : State). (u.place ≡ places.Items) × IsItemsState u) (ok_is (at_items s.version a.0.0 s.sites s.together []) t b.2)
    (refl, record { is = refl; rules = record { restarts = allowed; sites = rules.sites; together = rules.together; few_items = refl; items = refl; few_switches = refl; switches = refl; few_events = refl; events = refl; few_programs = refl; programs = refl } })

-- ---- items

not_found : (o : Option ℕ) → is_some o ≡ false → o ≡ None
not_found None h = refl
not_found (Some k) h = absurd cc

not_here : (b : Bool) (k : ℕ) (o : Option ℕ) → cond b (Some k) o ≡ None → (b ≡ false) × (o ≡ None)
not_here true k o h = absurd cc
not_here false k o h = (refl, h)

-- an item of a new name behind items
items_push : (sites k : ℕ) (items : List ItemLine) (item : ItemLine) → are_items sites items ≡ true → is_item sites item ≡ true → position_from (bytes_eq item.name) k (names_of items) ≡ None → are_items sites (items ++ item ∷ []) ≡ true
items_push sites k [] item are is new = rw is refl
items_push sites k (first ∷ items) item are is new =
    let a = and_parts (is_item sites first && not (list_any (λ (other : ItemLine). bytes_eq other.name first.name) items)) (are_items sites items) are in
    let b = and_parts (is_item sites first) (not (list_any (λ (other : ItemLine). bytes_eq other.name first.name) items)) a.0 in
    let n = not_here (bytes_eq item.name first.name) k (position_from (bytes_eq item.name) (k + 1) (names_of items)) new in
    let none : not (list_any (λ (other : ItemLine). bytes_eq other.name first.name) (items ++ item ∷ [])) ≡ true =
    rw (list_any-append (λ (other : ItemLine). bytes_eq other.name first.name) items (item ∷ []), n.0) (none_more _ b.1) in
    rw (b.0, none) (items_push sites (k + 1) items item a.1 is n.1)
  where
    none_more : (b : Bool) → not b ≡ true → not (b || false) ≡ true
    none_more true h = absurd cc
    none_more false h = refl

unplaced : (names : List Word) (name : Word) → place_of names name ≡ None → position_from (bytes_eq name) 0 names ≡ None
unfolding place_of
unplaced names name h = h

pub item_keeps : (s : State) (words : List Word) (t : State) → IsItemsState s → item_line s words ≡ Ok t → (t.place ≡ places.Items) × IsItemsState t
unfolding item_line
item_keeps s words t kept e0 =
    let rules = kept.rules in
    let items = s.items in
    let small = within_parts 1 8 s.sites rules.sites in
    let e : item_line (at_items s.version s.restarts s.sites s.together items) words ≡ Ok t = subst (λ (u : State). item_line u words ≡ Ok t) kept.is e0 in
    let a = unless_ok (leb 1024 (length items)) faults.Many _ t e in
    let b = bind_ok (name_at words) _ t a.1 in
    let c = unless_ok (is_some (place_of (names_of items) b.0.0)) faults.Twice _ t b.2 in
    let d = bind_ok (value_at b.0.1) _ t c.1 in
    let f = bind_ok (keyword_at (codes "at") d.0.1) _ t d.2 in
    let g = bind_ok (holders_at s.sites f.0) _ t f.2 in
    let item : ItemLine = record { name = b.0.0; value = d.0.0; holders = g.0 } in
    let held = holders_ok s.sites f.0 g.0 small.1 g.1 in
    let some : eqb (length g.0) 0 ≡ false = ne_eqb _ _ (λ z. omega (arith, held.1)) in
    let is : is_item s.sites item ≡ true = rw (name_at_ok words b.0 b.1, value_is d.0.0 (value_at_ok b.0.1 d.0 d.1), some, held.0) refl in
    let new = unplaced (names_of items) b.0.0 (not_found (place_of (names_of items) b.0.0) c.0) in
    let few : leb (length (items ++ item ∷ [])) 1024 ≡ true = le-leb _ _ (omega (arith, length-append items (item ∷ []), leb-false _ _ a.0)) in
    subst (λ (u : State). (u.place ≡ places.Items) × IsItemsState u) (ok_is (at_items s.version s.restarts s.sites s.together (items ++ item ∷ [])) t g.2)
    (refl, record { is = refl; rules = record { restarts = rules.restarts; sites = rules.sites; together = rules.together; few_items = few; items = items_push s.sites 0 items item rules.items is new; few_switches = refl; switches = refl; few_events = refl; events = refl; few_programs = refl; programs = refl } })
