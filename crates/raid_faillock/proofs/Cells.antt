-- Tables of sets of sites, of which one set is put.
use Rattle.std.proofs.Common.{◌≡◌, ◌≢◌, ℕ, ℤ, zero, suc, ◌+◌, ◌<◌, ◌≤◌, ◌==◌, nat_lt, Bool, true, false, not, ◌&&◌, ◌||◌, if◌then◌else◌, List, [], ◌∷◌, filter, length, take, set, get_or, get_or-set_other, get_or-set_same, slice_set, slice_index_or, true≢false, refl, sym, ap, subst, arith, ◌∙◌}
use Rattle.std.specs.List.{list_any, count_by}
use Rattle.std.proofs.lemmas.Bool.{eqb-true, eq-eqb}
use Rattle.std.proofs.lemmas.Grind.{common_steps}
use Rattle.std.proofs.lemmas.List.Folds.{list_any_more}
use Rattle.raid_base.specs.declared.names.Item.{Item}
use Rattle.raid_base.specs.declared.names.Site.{Site}
use Rattle.raid_base.specs.Names.{is_item, is_site, has_site, holds}
use Rattle.raid_base.specs.Sites.{all_sites}
use Rattle.raid_rules.proofs.Sources.{has_passed, has_kept}
use Rattle.raid_faillock.specs.Sets.{has_at}

-- a count is past 0 where one is counted
pub any_counted : {X : Type 0} (test : X → Bool) (xs : List X) → nat_lt 0 (count_by test xs) ≡ list_any test xs
any_counted test [] = refl
any_counted test (x ∷ xs) = grind (arith, common_steps, any_counted test xs)

turned : (a b : ℕ) (c : Bool) → (a == b) ≡ c → (b == a) ≡ c
turned a b true e = eq-eqb b a (sym (eqb-true a b e))
turned a b false e = go (b == a) refl
  where
    go : (c : Bool) → (b == a) ≡ c → c ≡ false
    go true h = sym (eq-eqb a b (sym (eqb-true b a h))) ∙ e
    go false h = refl

pub differ : (a b : ℕ) → (a == b) ≡ false → b ≢ a
differ a b e h = true≢false (sym (eq-eqb a b (sym h)) ∙ e)

-- one set is put: what the table has at a place
set_here : (table : List (List Site)) (k : ℕ) (set : List Site) (s : Site) → k < length table → has_at (slice_set table k set) k s ≡ has_site set s
set_here table k set s below = ap (λ z. has_site z s) (get_or-set_same table k set [] below)

set_there : (table : List (List Site)) (k j : ℕ) (set : List Site) (s : Site) → (k == j) ≡ false → has_at (slice_set table k set) j s ≡ has_at table j s
set_there table k j set s e = ap (λ z. has_site z s) (get_or-set_other table k j set [] (differ k j e))

-- two defaults make no difference below the end
pub found : {X : Type 0} (xs : List X) (k : ℕ) (d e : X) → k < length xs → get_or xs k d ≡ get_or xs k e
found [] k d e below = absurd (omega (arith, below))
found (x ∷ xs) zero d e below = refl
found (x ∷ xs) (suc k) d e below = found xs k d e (omega (arith, below))

-- a set that is put answers for its place, and the others for theirs
put_at : (table : List (List Site)) (k : ℕ) (set : List Site) (s : Site) (f : ℕ → Bool) → k < length table → has_site set s ≡ f k →
    (j : ℕ) → has_at (slice_set table k set) j s ≡ (if k == j then f j else has_at table j s)
put_at table k set s f below e j = go (k == j) refl
  where
    go : (b : Bool) → (k == j) ≡ b → has_at (slice_set table k set) j s ≡ (if b then f j else has_at table j s)
    go true q = subst (λ j. has_at (slice_set table k set) j s ≡ f j) (eqb-true k j q) (set_here table k set s below ∙ e)
    go false q = set_there table k j set s q

-- a write passed some holders by
pub passed : (holders table : List (List Site)) (item : Item) (set applied first d : List Site) → item.0 < length table → item.0 < length holders → first ≡ get_or holders item.0 d →
    set ≡ filter (λ s. has_site first s && not (has_site applied s)) all_sites →
    (x : Item) (s : Site) → 1 ≤ s.0 → s.0 ≤ 8 → has_at (slice_set table item.0 set) x.0 s ≡ (if is_item x item then has_at holders x.0 s && not (has_site applied s) else has_at table x.0 s)
passed holders table item set applied first d below there is e x s least most =
    put_at table item.0 set s (λ k. has_at holders k s && not (has_site applied s)) below
    (ap (λ z. has_site z s) e ∙ has_passed (λ r. has_site first r && not (has_site applied r)) s least most ∙ ap (λ z. has_site z s && not (has_site applied s)) (is ∙ found holders item.0 d [] there)) x.0

-- a site's copy was locked
pub locked : (holders table : List (List Site)) (item : Item) (site : Site) (set held first d : List Site) → item.0 < length table → item.0 < length holders → first ≡ get_or holders item.0 d →
    has_site first site ≡ true → held ≡ slice_index_or table item.0 [] → set ≡ filter (λ s. has_site held s || is_site site s) all_sites →
    (x : Item) (s : Site) → 1 ≤ s.0 → s.0 ≤ 8 → has_at (slice_set table item.0 set) x.0 s ≡ (has_at table x.0 s || (is_item x item && is_site s site && has_at holders x.0 s))
locked holders table item site set held first d below there is has was e x s least most =
    put_at table item.0 set s (λ k. has_at table k s || (is_site s site && has_at holders k s)) below
    (ap (λ z. has_site z s) e ∙ has_passed (λ r. has_site held r || is_site site r) s least most ∙ ap (λ z. has_site z s || is_site site s) was ∙ one (site.0 == s.0) refl) x.0
    ∙ out (is_item x item)
  where
    holds : has_at holders item.0 site ≡ true
    holds = ap (λ z. has_site z site) (sym (is ∙ found holders item.0 d [] there)) ∙ has

    one : (b : Bool) → (site.0 == s.0) ≡ b → (has_at table item.0 s || is_site site s) ≡ (has_at table item.0 s || (is_site s site && has_at holders item.0 s))
    one true q = ap (λ b. has_at table item.0 s || b) (turned site.0 s.0 true q ∙ sym (rw q (ap (λ k. has_at holders item.0 (let r : Site = record { 0 = k } in r)) (sym (eqb-true site.0 s.0 q)) ∙ holds)))
    one false q = ap (λ b. has_at table item.0 s || b) (turned site.0 s.0 false q ∙ sym (rw q refl))

    out : (b : Bool) → (if b then has_at table x.0 s || (is_site s site && has_at holders x.0 s) else has_at table x.0 s) ≡ (has_at table x.0 s || (b && is_site s site && has_at holders x.0 s))
    out true = refl
    out false = or_false (has_at table x.0 s)
      where
        or_false : (a : Bool) → a ≡ (a || false)
        or_false true = refl
        or_false false = refl

-- a site was taken out of a set
pub taken : (table : List (List Site)) (k : ℕ) (site : Site) (set held : List Site) → k < length table →
    held ≡ slice_index_or table k [] → set ≡ filter (λ r. not (is_site site r)) held →
    (j : ℕ) (s : Site) → has_at (slice_set table k set) j s ≡ (has_at table j s && not (is_site s site && (k == j)))
taken table k site set held below was e j s =
    put_at table k set s (λ j. has_at table j s && not (is_site s site)) below
    (ap (λ z. has_site z s) e ∙ has_kept (λ r. not (is_site site r)) s held ∙ ap (λ z. not (is_site site s) && has_site z s) was ∙ swap (is_site site s) (is_site s site) (has_at table k s) (sym (turned site.0 s.0 (is_site s site) refl))) j
    ∙ out (k == j) (is_site s site) (has_at table j s)
  where
    swap : (a b c : Bool) → b ≡ a → (not a && c) ≡ (c && not b)
    swap true true true h = refl
    swap true true false h = refl
    swap false false true h = refl
    swap false false false h = refl
    swap true false c h = absurd (true≢false (sym h))
    swap false true c h = absurd (true≢false h)

    out : (b d a : Bool) → (if b then a && not d else a) ≡ (a && not (d && b))
    out true true true = refl
    out true true false = refl
    out true false a = refl
    out false true true = refl
    out false true false = refl
    out false false true = refl
    out false false false = refl

-- sites were added to a set
pub joined : (table : List (List Site)) (k : ℕ) (set held more : List Site) → k < length table →
    held ≡ slice_index_or table k [] → set ≡ filter (λ s. has_site held s || has_site more s) all_sites →
    (j : ℕ) (s : Site) → 1 ≤ s.0 → s.0 ≤ 8 → has_at (slice_set table k set) j s ≡ (has_at table j s || ((k == j) && has_site more s))
joined table k set held more below was e j s least most =
    put_at table k set s (λ j. has_at table j s || has_site more s) below
    (ap (λ z. has_site z s) e ∙ has_passed (λ r. has_site held r || has_site more r) s least most ∙ ap (λ z. has_site z s || has_site more s) was) j
    ∙ out (k == j) (has_at table j s)
  where
    out : (b a : Bool) → (if b then a || has_site more s else a) ≡ (a || (b && has_site more s))
    out true a = refl
    out false true = refl
    out false false = refl

-- one more of the writes has been applied
pub more_writes : (x : Item) (writes : List (Item × ℤ)) (i : ℕ) (d : Item × ℤ) (old before passed now : Bool) → i < length writes →
    now ≡ (if is_item x (get_or writes i d).0 then passed else before) → before ≡ (if holds x (take i writes) then passed else old) →
    now ≡ (if holds x (take (i + 1) writes) then passed else old)
more_writes x writes i d old before passed now below e h =
    e ∙ ap (λ b. if is_item x (get_or writes i d).0 then passed else b) h ∙ either (holds x (take i writes)) (is_item x (get_or writes i d).0)
    ∙ ap (λ b. if b then passed else old) (sym (list_any_more (λ p. is_item x p.0) writes i d below))
  where
    either : (a b : Bool) → (if b then passed else if a then passed else old) ≡ (if a || b then passed else old)
    either true true = refl
    either true false = refl
    either false true = refl
    either false false = refl

pub in_order : (a b : Bool) → (a && b) ≡ (b && a)
in_order true true = refl
in_order true false = refl
in_order false true = refl
in_order false false = refl

-- one more set's sites are found
pub more_found : (sets : List (List Site)) (i : ℕ) (found set next : List Site) (s : Site) → 1 ≤ s.0 → s.0 ≤ 8 → i < length sets → set ≡ get_or sets i set → next ≡ filter (λ r. has_site found r || has_site set r) all_sites →
    has_site found s ≡ list_any (λ z. has_site z s) (take i sets) → has_site next s ≡ list_any (λ z. has_site z s) (take (i + 1) sets)
more_found sets i found set next s least most below is e before =
    ap (λ z. has_site z s) e ∙ has_passed (λ r. has_site found r || has_site set r) s least most ∙ ap (λ b. b || has_site set s) before
    ∙ ap (λ z. list_any (λ z. has_site z s) (take i sets) || has_site z s) is
    ∙ sym (list_any_more (λ z. has_site z s) sets i set below)
