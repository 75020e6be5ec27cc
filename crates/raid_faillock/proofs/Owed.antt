-- What tables say of owed acknowledgements after each entry.
use Rattle.std.proofs.Common.{◌≡◌, ℕ, ℤ, ◌<◌, ◌≤◌, ◌==◌, Bool, true, false, not, ◌&&◌, ◌||◌, if◌then◌else◌, List, [], ◌∷◌, ◌++◌, filter, map, length, slice_set, slice_index_or, get_or-set_other, get_or-set_same, true≢false, refl, sym, ap, subst, arith, ◌∙◌}
use Rattle.std.specs.List.{list_any}
use Rattle.std.proofs.lemmas.Bool.{eqb-true}
use Rattle.std.proofs.lemmas.List.Folds.{list_any-append}
use Rattle.std.proofs.lemmas.Map.Views.{any-filter_same}
use Rattle.raid_base.specs.declared.names.Txn.{Txn}
use Rattle.raid_base.specs.declared.names.Item.{Item}
use Rattle.raid_base.specs.declared.names.Site.{Site}
use Rattle.raid_base.specs.declared.request.Request.{Request}
use Rattle.raid_base.specs.declared.entry.Entry.TheVariants.{Commit, Ack, Down}
use Rattle.raid_base.specs.Names.{is_txn, is_item, is_site, has_txn, has_site, holds}
use Rattle.raid_rules.proofs.Push.{same_txn}
use Rattle.raid_faillock.specs.declared.debts.Debts.{Debts}
use Rattle.raid_faillock.specs.Debts.{owes_in, wrote_in, AreListed, DebtsTurn}
use Rattle.raid_faillock.proofs.Cells.{differ}

or_false : (a : Bool) → a ≡ (a || false)
or_false true = refl
or_false false = refl

first_true : (a b : Bool) → (a && b) ≡ true → a ≡ true
first_true true b h = refl
first_true false b h = h

-- a set that has a site isn't empty
not_empty : (set : List Site) (s : Site) → has_site set s ≡ true → (length set == 0) ≡ false
not_empty [] s h = absurd (true≢false (sym h))
not_empty (r ∷ set) s h = grind arith

-- what passes the test stays listed
stays : (ts : List Txn) (f : Txn → Bool) (t : Txn) → f t ≡ true → has_txn ts t ≡ true → has_txn (filter f ts) t ≡ true
stays ts f t passes there = any-filter_same (is_txn t) f true (λ u e. ap f (same_txn u t e) ∙ passes) ts ∙ there

-- those of whom a site owes an acknowledgement stay listed
still_listed : (d e : Debts) → AreListed d → ((s : Site) (t : Txn) → 1 ≤ s.0 → s.0 ≤ 8 → owes_in e s t ≡ true → owes_in d s t ≡ true) →
    e.unpaid.items ≡ filter (λ t. not (length (slice_index_or e.owed.items t.0 []) == 0)) d.unpaid.items → AreListed e
still_listed d e listed less is s t least most owes =
    ap (λ ts. has_txn ts t) is
    ∙ stays d.unpaid.items (λ t. not (length (slice_index_or e.owed.items t.0 []) == 0)) t (ap not (not_empty (slice_index_or e.owed.items t.0 []) s owes)) (listed s t least most (less s t least most owes))

pub acked : (d e : Debts) (t : Txn) (site : Site) → AreListed d → ((s : Site) (u : Txn) → owes_in e s u ≡ (owes_in d s u && not (is_txn u t && is_site s site))) → e.wrote ≡ d.wrote →
    e.unpaid.items ≡ filter (λ t. not (length (slice_index_or e.owed.items t.0 []) == 0)) d.unpaid.items → DebtsTurn d e (Ack t site)
acked d e t site listed owed wrote unpaid = record {
  owed = λ s u least most. owed s u;
  wrote = λ u x. ap (λ w. list_any (is_item x) (slice_index_or w.items u.0 [])) wrote ∙ or_false (wrote_in d u x);
  listed = still_listed d e listed (λ s u least most h. first_true _ _ (sym (owed s u) ∙ h)) unpaid;
}

pub downed : (d e : Debts) (site : Site) → AreListed d → ((s : Site) (u : Txn) → owes_in e s u ≡ (owes_in d s u && not (has_txn d.unpaid.items u && is_site s site))) → e.wrote ≡ d.wrote →
    e.unpaid.items ≡ filter (λ t. not (length (slice_index_or e.owed.items t.0 []) == 0)) d.unpaid.items → DebtsTurn d e (Down site)
downed d e site listed owed wrote unpaid = record {
  owed = λ s u least most. owed s u ∙ go (owes_in d s u) (has_txn d.unpaid.items u) (is_site s site) (listed s u least most);
  wrote = λ u x. ap (λ w. list_any (is_item x) (slice_index_or w.items u.0 [])) wrote ∙ or_false (wrote_in d u x);
  listed = still_listed d e listed (λ s u least most h. first_true _ _ (sym (owed s u) ∙ h)) unpaid;
}
  where
    go : (a b c : Bool) → (a ≡ true → b ≡ true) → (a && not (b && c)) ≡ (a && not c)
    go true b c h = ap (λ z. not (z && c)) (h refl)
    go false b c h = refl

-- a list that is put answers for its transaction
pub wrote_more : (lists : List (List Item)) (t u : Txn) (x : Item) (list : List Item) (writes : List (Item × ℤ)) → t.0 < length lists →
    list ≡ slice_index_or lists t.0 [] ++ map (λ p. p.0) writes →
    list_any (is_item x) (slice_index_or (slice_set lists t.0 list) u.0 []) ≡ (list_any (is_item x) (slice_index_or lists u.0 []) || (is_txn u t && holds x writes))
wrote_more lists t u x list writes below is = go (t.0 == u.0) refl
  where
    Says : ℕ → Type 0
    Says j = list_any (is_item x) (slice_index_or (slice_set lists t.0 list) j []) ≡ (list_any (is_item x) (slice_index_or lists j []) || holds x writes)

    items : (ws : List (Item × ℤ)) → list_any (is_item x) (map (λ p. p.0) ws) ≡ holds x ws
    items [] = refl
    items (w ∷ ws) = ap (λ b. is_item x w.0 || b) (items ws)

    here : Says t.0
    here = ap (λ l. list_any (is_item x) l) (get_or-set_same lists t.0 list [] below ∙ is) ∙ list_any-append (is_item x) (slice_index_or lists t.0 []) (map (λ p. p.0) writes) ∙ ap (λ b. list_any (is_item x) (slice_index_or lists t.0 []) || b) (items writes)

    go : (b : Bool) → (t.0 == u.0) ≡ b → list_any (is_item x) (slice_index_or (slice_set lists t.0 list) u.0 []) ≡ (list_any (is_item x) (slice_index_or lists u.0 []) || (b && holds x writes))
    go true q = subst Says (eqb-true t.0 u.0 q) here
    go false q = ap (λ l. list_any (is_item x) l) (get_or-set_other lists t.0 u.0 list [] (differ t.0 u.0 q)) ∙ or_false _

pub committed : (d e : Debts) (t : Txn) (request : Request) (applied : List Site) → AreListed d →
    ((s : Site) (u : Txn) → 1 ≤ s.0 → s.0 ≤ 8 → owes_in e s u ≡ (owes_in d s u || (is_txn u t && has_site applied s))) →
    ((u : Txn) (x : Item) → wrote_in e u x ≡ (wrote_in d u x || (is_txn u t && holds x request.writes))) →
    e.unpaid.items ≡ (if length applied == 0 then d.unpaid.items else d.unpaid.items ++ t ∷ []) → DebtsTurn d e (Commit t request applied)
committed d e t request applied listed owed wrote unpaid = record {
  owed = owed;
  wrote = wrote;
  listed = λ s u least most h. ap (λ ts. has_txn ts u) unpaid ∙ go s u (length applied == 0) (owes_in d s u) refl refl (listed s u least most) (sym (owed s u least most) ∙ h);
}
  where
    go : (s : Site) (u : Txn) (a b : Bool) → (length applied == 0) ≡ a → owes_in d s u ≡ b → (owes_in d s u ≡ true → has_txn d.unpaid.items u ≡ true) → (owes_in d s u || (is_txn u t && has_site applied s)) ≡ true →
        has_txn (if a then d.unpaid.items else d.unpaid.items ++ t ∷ []) u ≡ true
    go s u true true p q there h = there q
    go s u false true p q there h = list_any-append (is_txn u) d.unpaid.items (t ∷ []) ∙ ap (λ b. b || (is_txn u t || false)) (there q)
    go s u true false p q there h = absurd (true≢false (sym p ∙ not_empty applied s (second (is_txn u t) (has_site applied s) (sym (ap (λ b. b || (is_txn u t && has_site applied s)) q) ∙ h))))
      where
        second : (a b : Bool) → (a && b) ≡ true → b ≡ true
        second true b h = h
        second false b h = absurd (true≢false (sym h))
    go s u false false p q there h =
        list_any-append (is_txn u) d.unpaid.items (t ∷ []) ∙ ap (λ b. has_txn d.unpaid.items u || (b || false)) (first_true _ _ (sym (ap (λ b. b || (is_txn u t && has_site applied s)) q) ∙ h)) ∙ last (has_txn d.unpaid.items u)
      where
        last : (a : Bool) → (a || true) ≡ true
        last true = refl
        last false = refl
