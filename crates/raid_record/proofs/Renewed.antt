-- Which copies are asked for, item by item and site by site.
use Rattle.std.proofs.Common.{◌≡◌, ℕ, zero, suc, ◌+◌, ◌<◌, ◌≤◌, ◌==◌, Bool, true, false, not, ◌&&◌, ◌||◌, cond, if◌then◌else◌, List, [], ◌∷◌, ◌++◌, map, filter, length, append_assoc, append-nil, slice_get, Option, Some, None, true≢false, refl, ap, sym, subst, arith, ◌∙◌}
use Rattle.std.specs.Prelude.{flat_map, filter_map, option_map, option_to_list}
use Rattle.std.specs.List.{list_any, cons_option}
use Rattle.std.proofs.lemmas.Bool.{eqb-true}
use Rattle.std.proofs.lemmas.List.{map-append}
use Rattle.std.proofs.lemmas.List.Elements.{filter_map-append}
use Rattle.std.proofs.lemmas.List.Folds.{list_any-append}
use Rattle.raid_base.specs.declared.names.Item.{Item}
use Rattle.raid_base.specs.declared.names.Site.{Site}
use Rattle.raid_base.specs.declared.entry.Noted.{Noted}
use Rattle.raid_base.specs.Names.{is_item, is_site, has_site}
use Rattle.raid_base.specs.Sites.{site, all_sites}
use Rattle.raid_workload.specs.declared.workload.Workload.{Workload}
use Rattle.raid_workload.specs.Parts.{count_from, sites, placement}
use Rattle.raid_rules.specs.Sessions as rules
use Rattle.raid_rules.proofs.Sources.{is_known, has_passed}
use Rattle.raid_legal.specs.Seen.{is_locked, sources, is_up, vector}
use Rattle.raid_steps.specs.State.{Out, Copying}
use Rattle.raid_steps.specs.Sequencer.{copies_due, copy_out}
use Rattle.raid_faillock.specs.Stands.{is_any_locked, is_any_locked_at}
use Rattle.raid_copier.specs.declared.copiers.Copiers.{Copiers}
use Rattle.raid_copier.specs.Copiers as ways
use Rattle.raid_record.specs.Turns.{copy_due, Asked}
use Rattle.raid_record.proofs.Lists.{or_false, and_false}
use Rattle.raid_record.proofs.Rules.{few_sites}
use Rattle.raid_record.proofs.Sites.{count_more, sites_to}

abbrev pub item : ℕ → Item
item k = record { 0 = k }

abbrev pub copy : Site → Item → Site → Copying
copy s x r = record { target = s; item = x; source = r }

-- what is locked at a site is asked of the least source
pub least_source : (w : Workload) (p : List Noted) (s : Site) (x : Item) → 1 ≤ s.0 → s.0 ≤ 8 → is_locked w p s x ≡ true → rules.source_for (sources w p x) s ≡ slice_get (sources w p x) 0
least_source w p s x least most e = ap (λ b. if b then Some s else slice_get (sources w p x) 0) (has_passed (rules.is_source w.sites (placement w) p x) s least most ∙ none (has_site (rules.holders (placement w) x) s) (rules.is_site_up (vector w p) s) (rules.is_copy_locked p s x) e)
  where
    none : (h u c : Bool) → (h && c) ≡ true → (h && u && not c) ≡ false
    none true u true q = and_false u
    none true u false q = absurd (true≢false (sym q))
    none false u c q = absurd (true≢false (sym q))

-- more copies asked for
pub asked_more : (v : List ℕ) (c d : Copiers) (first between last : List Out) (out due more : List Copying) → Asked v c first between out due → Asked v d between last (out ++ due) more → Asked v d first last out (due ++ more)
asked_more v c d first between last out due more a b = record {
  copying = subst (λ (z : List Copying). ways.Stands d z) (append_assoc out due more) b.copying;
  outs =
      b.outs ∙ ap (λ os. os ++ map (copy_out v) more) a.outs ∙ append_assoc first (map (copy_out v) due) (map (copy_out v) more)
      ∙ ap (λ os. first ++ os) (sym (map-append (copy_out v) due more));
}

-- none asked for
pub asked_none : (v : List ℕ) (c : Copiers) (outs : List Out) (out : List Copying) → ways.Stands c out → Asked v c outs outs out []
asked_none v c outs out stands = record { copying = subst (λ (z : List Copying). ways.Stands c z) (sym (append-nil out)) stands; outs = sym (append-nil outs) }

pub asked_for : (v : List ℕ) (c : Copiers) (first last : List Out) (out due more : List Copying) → due ≡ more → Asked v c first last out due → Asked v c first last out more
asked_for v c first last out due more e a = subst (λ (z : List Copying). Asked v c first last out z) e a

-- the items up to a number
abbrev pub items_to : ℕ → List Item
items_to k = map item (count_from 0 k)

chosen_one : {X Y : Type 0} (f : X → Option Y) (x : X) → filter_map f (x ∷ []) ≡ option_to_list (f x)
chosen_one {X} {Y} f x = go (f x)
  where
    go : (o : Option Y) → cons_option o [] ≡ option_to_list o
    go None = refl
    go (Some y) = refl

pub chosen_more : {Y : Type 0} (f : Item → Option Y) (k : ℕ) → filter_map f (items_to (k + 1)) ≡ filter_map f (items_to k) ++ option_to_list (f (item k))
chosen_more f k =
    ap (λ ks. filter_map f (map item ks)) (count_more 0 k) ∙ ap (filter_map f) (map-append item (count_from 0 k) ((0 + k) ∷ []))
    ∙ filter_map-append f (items_to k) (item (0 + k) ∷ [])
    ∙ ap (λ ys. filter_map f (items_to k) ++ ys) (chosen_one f (item (0 + k)) ∙ ap (λ n. option_to_list (f (item n))) (let e : 0 + k ≡ k = omega arith in e))

-- copies of other items, or to other sites
apart : (b : Bool) (o : Option Site) (s t : Site) (x y : Item) → (is_site s t && is_item x y) ≡ false → list_any (ways.is_to s x) (option_to_list (if b then option_map (copy t y) o else None)) ≡ false
apart true (Some r) s t x y e = ap (λ b. b || false) e
apart true None s t x y e = refl
apart false o s t x y e = refl

any_cons : {X : Type 0} (g : X → Bool) (o : Option X) (xs : List X) → list_any g (cons_option o xs) ≡ (list_any g (option_to_list o) || list_any g xs)
any_cons g None xs = refl
any_cons g (Some x) xs = ap (λ b. b || list_any g xs) (sym (or_false (g x)))

none_among : (w : Workload) (p : List Noted) (out : List Copying) (s t : Site) (x : Item) (a n : ℕ) → ((k : ℕ) → k < a + n → (is_site s t && is_item x (item k)) ≡ false) →
    list_any (ways.is_to s x) (filter_map (copy_due w p out t) (map item (count_from a n))) ≡ false
none_among w p out s t x a zero h = refl
none_among w p out s t x a (suc n) h =
    any_cons (ways.is_to s x) (copy_due w p out t (item a)) (filter_map (copy_due w p out t) (map item (count_from (a + 1) n)))
    ∙ ap (λ b. b || list_any (ways.is_to s x) (filter_map (copy_due w p out t) (map item (count_from (a + 1) n))))
    (apart (is_locked w p t (item a) && not (list_any (λ c. is_site t c.target && is_item (item a) c.item) out)) (slice_get (sources w p (item a)) 0) s t x (item a) (h a (omega arith)))
    ∙ none_among w p out s t x (a + 1) n (λ k below. h k (omega (arith, below)))

-- those under way for an item, once earlier items are asked for
pub next_item : (w : Workload) (p : List Noted) (before out : List Copying) (s : Site) (k : ℕ) → list_any (ways.is_to s (item k)) out ≡ list_any (ways.is_to s (item k)) before →
    list_any (ways.is_to s (item k)) (out ++ filter_map (copy_due w p before s) (items_to k)) ≡ list_any (ways.is_to s (item k)) before
next_item w p before out s k e =
    list_any-append (ways.is_to s (item k)) out (filter_map (copy_due w p before s) (items_to k))
    ∙ ap (λ b. list_any (ways.is_to s (item k)) out || b) (none_among w p before s s (item k) 0 k (λ j below. ap (λ b. is_site s s && b) (let e : (j == k) ≡ false = grind (arith, below) in e) ∙ and_false (is_site s s)))
    ∙ or_false (list_any (ways.is_to s (item k)) out) ∙ e

-- what is due at a site where it is up
abbrev pub due_at : Workload → List Noted → List ℕ → List Copying → Site → List Copying
due_at w p v out s = if rules.is_site_up v s then copies_due w p out s else []

due_apart : (w : Workload) (p : List Noted) (v : List ℕ) (out : List Copying) (s t : Site) (x : Item) → (t.0 == s.0) ≡ false → list_any (ways.is_to s x) (due_at w p v out t) ≡ false
due_apart w p v out s t x e = go (rules.is_site_up v t)
  where
    go : (b : Bool) → list_any (ways.is_to s x) (if b then copies_due w p out t else []) ≡ false
    go true = none_among w p out s t x 0 (length w.items) (λ k below. ap (λ b. b && is_item x (item k)) e)
    go false = refl

none_before : (w : Workload) (p : List Noted) (v : List ℕ) (out : List Copying) (s : Site) (x : Item) (a n : ℕ) → a + n ≤ s.0 → list_any (ways.is_to s x) (flat_map (due_at w p v out) (map site (count_from a n))) ≡ false
none_before w p v out s x a zero most = refl
none_before w p v out s x a (suc n) most =
    list_any-append (ways.is_to s x) (due_at w p v out (site a)) (flat_map (due_at w p v out) (map site (count_from (a + 1) n)))
    ∙ ap (λ b. b || list_any (ways.is_to s x) (flat_map (due_at w p v out) (map site (count_from (a + 1) n)))) (due_apart w p v out s (site a) x (let e : (a == s.0) ≡ false = grind (arith, most) in e))
    ∙ none_before w p v out s x (a + 1) n (omega (arith, most))

-- those under way for a site, once earlier sites are asked for
pub next_site : (w : Workload) (p : List Noted) (v : List ℕ) (out : List Copying) (k : ℕ) (x : Item) →
    list_any (ways.is_to (site (k + 1)) x) (out ++ flat_map (due_at w p v out) (sites_to k)) ≡ list_any (ways.is_to (site (k + 1)) x) out
next_site w p v out k x =
    list_any-append (ways.is_to (site (k + 1)) x) out (flat_map (due_at w p v out) (sites_to k))
    ∙ ap (λ b. list_any (ways.is_to (site (k + 1)) x) out || b) (none_before w p v out (site (k + 1)) x 1 k (omega arith))
    ∙ or_false (list_any (ways.is_to (site (k + 1)) x) out)

-- what is made of those that pass
pub made_kept : {X Y : Type 0} (f : X → List Y) (test : X → Bool) (xs : List X) → flat_map (λ x. if test x then f x else []) xs ≡ flat_map f (filter test xs)
made_kept f test [] = refl
made_kept f test (x ∷ xs) = go (test x) (made_kept f test xs)
  where
    go : (b : Bool) → flat_map (λ x. if test x then f x else []) xs ≡ flat_map f (filter test xs) → (if b then f x else []) ++ flat_map (λ x. if test x then f x else []) xs ≡ flat_map f (cond b (x ∷ filter test xs) (filter test xs))
    go true h = ap (λ ys. f x ++ ys) h
    go false h = h

pub all_due : (w : Workload) (p : List Noted) (v : List ℕ) (out : List Copying) → v ≡ vector w p → flat_map (due_at w p v out) (sites w) ≡ flat_map (copies_due w p out) (filter (is_up w p) (sites w))
all_due w p v out is = ap (λ u. flat_map (due_at w p u out) (sites w)) is ∙ made_kept (copies_due w p out) (is_up w p) (sites w)

-- where no copy is locked none is due
record Neither (a b : Bool) : Type 0 where
  one : a ≡ false
  two : b ≡ false

neither : (a b : Bool) → (a || b) ≡ false → Neither a b
neither true b e = absurd (true≢false e)
neither false b e = record { one = refl; two = e }

same_site : (s r : Site) → is_site s r ≡ true → s ≡ r
same_site s r e = ap (λ k. site k) (sym (eqb-true r.0 s.0 e))

fails : (f : Site → Bool) (s : Site) (rs : List Site) → has_site rs s ≡ true → list_any f rs ≡ false → f s ≡ false
fails f s [] h e = absurd (true≢false (sym h))
fails f s (r ∷ rs) h e = let both = neither (f r) (list_any f rs) e in go (is_site s r) refl both.one h (λ k. fails f s rs k both.two)
  where
    go : (b : Bool) → is_site s r ≡ b → f r ≡ false → (b || has_site rs s) ≡ true → (has_site rs s ≡ true → f s ≡ false) → f s ≡ false
    go true q here k rest = ap f (same_site s r q) ∙ here
    go false q here k rest = rest k

unlocked : (w : Workload) (p : List Noted) (out : List Copying) (s : Site) (a n : ℕ) → has_site all_sites s ≡ true →
    list_any (λ k. list_any (λ r. rules.is_locked (placement w) p r (item k)) all_sites) (count_from a n) ≡ false → filter_map (copy_due w p out s) (map item (count_from a n)) ≡ []
unlocked w p out s a zero h e = refl
unlocked w p out s a (suc n) h e =
    let both = neither (list_any (λ r. rules.is_locked (placement w) p r (item a)) all_sites) (list_any (λ k. list_any (λ r. rules.is_locked (placement w) p r (item k)) all_sites) (count_from (a + 1) n)) e in
    ap
    (λ b. cons_option (if b && not (list_any (λ c. is_site s c.target && is_item (item a) c.item) out) then option_map (copy s (item a)) (slice_get (sources w p (item a)) 0) else None) (filter_map (copy_due w p out s) (map item (count_from (a + 1) n))))
    (fails (λ r. rules.is_locked (placement w) p r (item a)) s all_sites h both.one)
    ∙ unlocked w p out s (a + 1) n h both.two

none_made : {Y : Type 0} (f : Site → List Y) (test : Site → Bool) (a n : ℕ) → ((k : ℕ) → a ≤ k → k < a + n → f (site k) ≡ []) → flat_map f (filter test (map site (count_from a n))) ≡ []
none_made f test a zero h = refl
none_made {Y} f test a (suc n) h = go (test (site a)) (none_made f test (a + 1) n (λ k least below. h k (omega (arith, least)) (omega (arith, below))))
  where
    go : (b : Bool) → flat_map f (filter test (map site (count_from (a + 1) n))) ≡ [] → flat_map f (cond b (site a ∷ filter test (map site (count_from (a + 1) n))) (filter test (map site (count_from (a + 1) n)))) ≡ []
    go true q = ap (λ (ys : List Y). ys ++ flat_map f (filter test (map site (count_from (a + 1) n)))) (h a (omega arith) (omega arith)) ∙ q
    go false q = q

placed_count : {X Y : Type 0} (f : X → Y) (xs : List X) → length (map f xs) ≡ length xs
placed_count f [] = refl
placed_count f (x ∷ xs) = ap suc (placed_count f xs)

pub none_due : (w : Workload) (p : List Noted) (out : List Copying) → is_any_locked (placement w) p ≡ false → flat_map (copies_due w p out) (filter (is_up w p) (sites w)) ≡ []
none_due w p out e =
    none_made (copies_due w p out) (is_up w p) 1 w.sites
    (λ k least below.
    unlocked w p out (site k) 0 (length w.items) (is_known k least (omega (arith, below, few_sites w)))
    (ap (λ n. list_any (λ k. list_any (λ r. rules.is_locked (placement w) p r (item k)) all_sites) (count_from 0 n)) (sym (placed_count (λ line. line.holders) w.items)) ∙ e))

-- where a site has no locked copy none of its own is due
locked_nowhere : (w : Workload) (p : List Noted) (out : List Copying) (s : Site) (a n : ℕ) → list_any (λ k. rules.is_locked (placement w) p s (item k)) (count_from a n) ≡ false → filter_map (copy_due w p out s) (map item (count_from a n)) ≡ []
locked_nowhere w p out s a zero e = refl
locked_nowhere w p out s a (suc n) e =
    let both = neither (rules.is_locked (placement w) p s (item a)) (list_any (λ k. rules.is_locked (placement w) p s (item k)) (count_from (a + 1) n)) e in
    ap
    (λ b. cons_option (if b && not (list_any (λ c. is_site s c.target && is_item (item a) c.item) out) then option_map (copy s (item a)) (slice_get (sources w p (item a)) 0) else None) (filter_map (copy_due w p out s) (map item (count_from (a + 1) n))))
    both.one
    ∙ locked_nowhere w p out s (a + 1) n both.two

none_there : (w : Workload) (p : List Noted) (out : List Copying) (s : Site) → is_any_locked_at (placement w) p s ≡ false → copies_due w p out s ≡ []
none_there w p out s e =
    locked_nowhere w p out s 0 (length w.items)
    (ap (λ n. list_any (λ k. rules.is_locked (placement w) p s (item k)) (count_from 0 n)) (sym (placed_count (λ line. line.holders) w.items)) ∙ e)

pub idle_at : (w : Workload) (p : List Noted) (v : List ℕ) (out : List Copying) (s : Site) → is_any_locked_at (placement w) p s ≡ false → due_at w p v out s ≡ []
idle_at w p v out s e = go (rules.is_site_up v s)
  where
    go : (b : Bool) → (if b then copies_due w p out s else []) ≡ []
    go true = none_there w p out s e
    go false = refl

-- what is due for one copy
pub due_is : (w : Workload) (p : List Noted) (before : List Copying) (s : Site) (x : Item) (o : Option Site) → is_locked w p s x ≡ true → list_any (ways.is_to s x) before ≡ false → o ≡ slice_get (sources w p x) 0 →
    copy_due w p before s x ≡ option_map (copy s x) o
due_is w p before s x o locked idle from =
    ap (λ b. if b && not (list_any (ways.is_to s x) before) then option_map (copy s x) (slice_get (sources w p x) 0) else None) locked
    ∙ ap (λ b. if not b then option_map (copy s x) (slice_get (sources w p x) 0) else None) idle
    ∙ ap (option_map (copy s x)) (sym from)
