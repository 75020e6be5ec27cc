-- What a search with marks finds is what paths lead to.
use Rattle.std.proofs.Common.{◌≡◌, ℕ, zero, suc, ◌+◌, ◌<◌, ◌≤◌, ◌⊎◌, inl, inr, Bool, true, false, not, ◌&&◌, ◌||◌, ◌==◌, cond, List, [], ◌∷◌, ◌++◌, map, length, get_or, replicate, ℤ, arith, sym, ◌∙◌, ap, subst, refl, Some, None, set, sum_by}
use Rattle.std.specs.Prelude.{position, filter, flat_map}
use Rattle.std.specs.List.{list_any}
use Rattle.std.proofs.lemmas.Bool.{true≢false, cases_Bool, and_parts, and_from, or_left, eqb-true}
use Rattle.std.proofs.lemmas.List.{get_or-set_same, get_or-set_other, get_or-map, map-set, length-map}
use Rattle.std.proofs.lemmas.List.Sums.{sum_by-set}
use Rattle.std.proofs.lemmas.List.Quantifiers.{position-Some}
use Rattle.std.proofs.lemmas.List.Folds.{list_any-append}
use Rattle.std.proofs.lemmas.Iterator.Adapters.{position_from-zero}
use Rattle.std.proofs.lemmas.Grind.{common_steps}
use Rattle.raid_base.specs.declared.names.Txn.{Txn}
use Rattle.raid_base.specs.declared.names.Item.{Item}
use Rattle.raid_base.specs.declared.request.Request.{Request}
use Rattle.raid_base.specs.Names.{is_txn}
use Rattle.raid_rules.specs.Conflict.{Path, one, cons}
use Rattle.raid_rules.proofs.Push.{same_txn}
use Rattle.raid_rules.proofs.Reach.{IsPair, path_leads, leads_path}
use Rattle.raid_rules.proofs.Paths.{join}
use Rattle.raid_rules.proofs.Listing.{any_find}
use Rattle.raid_rules.proofs.Txns.{eq_self, not_true, or_right, off}
use Rattle.raid_waits.proofs.Removed.{none_from}
use Rattle.raid_waits.specs.declared.search.Mark.{Mark}
use Rattle.raid_waits.specs.declared.search.Mark.TheVariants.{Unseen, Followed}
use Rattle.raid_waits.specs.Waiting.{Test, is_among, edges_by, closes_by}
use Rattle.raid_waits.specs.Marks.{is_found, is_followed, mark_at, request_at, Begun}

-- tests over lists made of lists
any_cond : {X : Type 0} (p : X → Bool) (b : Bool) (x : X) (rest : List X) → list_any p (cond b (x ∷ rest) rest) ≡ ((b && p x) || list_any p rest)
any_cond p true x rest = refl
any_cond p false x rest = refl

any_filter : {X : Type 0} (p q : X → Bool) (xs : List X) → list_any p (filter q xs) ≡ list_any (λ x. q x && p x) xs
any_filter p q [] = refl
any_filter p q (x ∷ xs) = any_cond p (q x) x (filter q xs) ∙ ap (λ b. (q x && p x) || b) (any_filter p q xs)

any_map : {X Y : Type 0} (p : Y → Bool) (f : X → Y) (xs : List X) → list_any p (map f xs) ≡ list_any (λ x. p (f x)) xs
any_map p f [] = refl
any_map p f (x ∷ xs) = ap (λ b. p (f x) || b) (any_map p f xs)

any_flat : {X Y : Type 0} (p : Y → Bool) (f : X → List Y) (xs : List X) → list_any p (flat_map f xs) ≡ list_any (λ x. list_any p (f x)) xs
any_flat p f [] = refl
any_flat p f (x ∷ xs) = list_any-append p (f x) (flat_map f xs) ∙ ap (λ b. list_any p (f x) || b) (any_flat p f xs)

any_congr : {X : Type 0} (f g : X → Bool) → ((x : X) → f x ≡ g x) → (xs : List X) → list_any f xs ≡ list_any g xs
any_congr f g h [] = refl
any_congr f g h (x ∷ xs) = ap (λ b. b || list_any f xs) (h x) ∙ ap (λ b. g x || b) (any_congr f g h xs)

-- an edge of the list: of two requests
any_edge : (test : Test) (rs : List (Txn × Request)) (t u : Txn) →
    list_any (λ e. is_txn t e.0 && is_txn u e.1) (edges_by test rs) ≡ list_any (λ r. list_any (λ q. test q.0 r.0 r.1.writes && (is_txn t r.0 && is_txn u q.0)) rs) rs
any_edge test rs t u =
    any_flat (λ e. is_txn t e.0 && is_txn u e.1) (λ r. map (λ q. (r.0, q.0)) (filter (λ q. test q.0 r.0 r.1.writes) rs)) rs
    ∙ any_congr (λ r. list_any (λ e. is_txn t e.0 && is_txn u e.1) (map (λ q. (r.0, q.0)) (filter (λ q. test q.0 r.0 r.1.writes) rs))) (λ r. list_any (λ q. test q.0 r.0 r.1.writes && (is_txn t r.0 && is_txn u q.0)) rs)
    (λ r. any_map (λ e. is_txn t e.0 && is_txn u e.1) (λ q. (r.0, q.0)) (filter (λ q. test q.0 r.0 r.1.writes) rs)
    ∙ any_filter (λ q. is_txn t r.0 && is_txn u q.0) (λ q. test q.0 r.0 r.1.writes) rs) rs

same_self : (t : Txn) → is_txn t t ≡ true
same_self t = eq_self t.0 t.0 refl

nobody : Txn × Request
nobody = (record { 0 = 0 }, record { reads = []; writes = []; under = [] })

-- a test that one of the list passes is passed at a place, and the other way round
any_at : (f : Txn × Request → Bool) (rs : List (Txn × Request)) → list_any f rs ≡ true → (k : ℕ) × (k < length rs) × (f (request_at rs k) ≡ true)
any_at f [] e = absurd (true≢false (sym e))
any_at f (r ∷ rs) e = elim (cases_Bool (f r)) [
  | inl h ↦ (0, omega arith, h)
  | inr h ↦ let p = any_at f rs (grind (arith, common_steps, e, h)) in (suc p.0, omega (arith, p.1), p.2)
]

at_any : (f : Txn × Request → Bool) (rs : List (Txn × Request)) (k : ℕ) → k < length rs → f (request_at rs k) ≡ true → list_any f rs ≡ true
at_any f [] k below e = absurd (omega (arith, below))
at_any f (r ∷ rs) zero below e = or_left _ _ e
at_any f (r ∷ rs) (suc k) below e = or_right (f r) _ (at_any f rs k (omega (arith, below)) e)

at_none : {X : Type 0} (f : X → Bool) (xs : List X) (k : ℕ) (d : X) → list_any f xs ≡ false → k < length xs → f (get_or xs k d) ≡ false
at_none f [] k d e below = absurd (omega (arith, below))
at_none f (x ∷ xs) zero d e below = grind (arith, common_steps, e)
at_none f (x ∷ xs) (suc k) d e below = at_none f xs k d (grind (arith, common_steps, e)) (omega (arith, below))

-- a stranger is no transaction of the list
no_stranger : (rs : List (Txn × Request)) (t : Txn) (k : ℕ) → is_among rs t ≡ false → k < length rs → (request_at rs k).0 ≡ t → ⊥
no_stranger rs t k out below e = true≢false (sym (at_any (λ r. is_txn t r.0) rs k below (subst (λ u. is_txn t u ≡ true) (sym e) (same_self t))) ∙ out)

-- how a search stands: what is found is waited for, and what was followed leads to what is found
pub record Search (test : Test) (rs : List (Txn × Request)) (marks : List Mark) (t : Txn) (request : Request) : Type 0 where
  pub stranger : is_among rs t ≡ false
  pub itself : test t t request.writes ≡ false
  pub sound : (k : ℕ) → k < length rs → is_found (mark_at marks k) ≡ true → Path (IsPair (edges_by test (rs ++ (t, request) ∷ []))) t (request_at rs k).0
  pub first : (k : ℕ) → k < length rs → test (request_at rs k).0 t request.writes ≡ true → is_found (mark_at marks k) ≡ true
  pub onward : (j : ℕ) → j < length rs → is_followed (mark_at marks j) ≡ true → test t (request_at rs j).0 (request_at rs j).1.writes ≡ false
  pub closed : (j k : ℕ) → j < length rs → k < length rs → is_followed (mark_at marks j) ≡ true →
      test (request_at rs k).0 (request_at rs j).0 (request_at rs j).1.writes ≡ true → is_found (mark_at marks k) ≡ true

module _ (test : Test) (rs : List (Txn × Request)) (t : Txn) (request : Request) where
  abbrev all : List (Txn × Request)
  all = rs ++ (t, request) ∷ []

  abbrev Step : Txn → Txn → Type 0
  Step = IsPair (edges_by test all)

  -- one of all passes where the new one does, or one at a place
  all_any : (f : Txn × Request → Bool) → list_any f all ≡ (list_any f rs || f (t, request))
  all_any f = grind (arith, common_steps, list_any-append f rs ((t, request) ∷ []))

  last : (f : Txn × Request → Bool) → f (t, request) ≡ true → list_any f all ≡ true
  last f e = all_any f ∙ or_right (list_any f rs) _ e

  placed : (f : Txn × Request → Bool) (k : ℕ) → k < length rs → f (request_at rs k) ≡ true → list_any f all ≡ true
  placed f k below e = all_any f ∙ or_left _ _ (at_any f rs k below e)

  split : (f : Txn × Request → Bool) → list_any f all ≡ true → ((k : ℕ) × (k < length rs) × (f (request_at rs k) ≡ true)) ⊎ (f (t, request) ≡ true)
  split f e = go (cases_Bool (list_any f rs))
    where
      go : (list_any f rs ≡ true) ⊎ (list_any f rs ≡ false) → ((k : ℕ) × (k < length rs) × (f (request_at rs k) ≡ true)) ⊎ (f (t, request) ≡ true)
      go (inl h) = inl (any_at f rs h)
      go (inr h) = inr (grind (arith, common_steps, sym (all_any f) ∙ e, h))

  -- the test of an edge from one transaction to another
  abbrev joins : Txn → Txn → Txn × Request → Txn × Request → Bool
  joins v u r q = test q.0 r.0 r.1.writes && (is_txn v r.0 && is_txn u q.0)

  joins_own : (r q : Txn × Request) → test q.0 r.0 r.1.writes ≡ true → joins r.0 q.0 r q ≡ true
  joins_own r q e = and_from _ _ e (and_from _ _ (same_self r.0) (same_self q.0))

  -- edges: from the new one, between two that wait, and to the new one
  from_new : (k : ℕ) → k < length rs → test (request_at rs k).0 t request.writes ≡ true → Step t (request_at rs k).0
  from_new k below e =
      any_edge test all t (request_at rs k).0 ∙ last (λ r. list_any (joins t (request_at rs k).0 r) all) (placed (joins t (request_at rs k).0 (t, request)) k below (joins_own (t, request) (request_at rs k) e))

  between : (j k : ℕ) → j < length rs → k < length rs → test (request_at rs k).0 (request_at rs j).0 (request_at rs j).1.writes ≡ true → Step (request_at rs j).0 (request_at rs k).0
  between j k below there e =
      any_edge test all (request_at rs j).0 (request_at rs k).0
      ∙ placed (λ r. list_any (joins (request_at rs j).0 (request_at rs k).0 r) all) j below
      (placed (joins (request_at rs j).0 (request_at rs k).0 (request_at rs j)) k there (joins_own (request_at rs j) (request_at rs k) e))

  to_new : (j : ℕ) → j < length rs → test t (request_at rs j).0 (request_at rs j).1.writes ≡ true → Step (request_at rs j).0 t
  to_new j below e =
      any_edge test all (request_at rs j).0 t ∙ placed (λ r. list_any (joins (request_at rs j).0 t r) all) j below (last (joins (request_at rs j).0 t (request_at rs j)) (joins_own (request_at rs j) (t, request) e))

  -- the new one waits for itself at once
  pub at_once : test t t request.writes ≡ true → closes_by test rs t request ≡ true
  at_once e =
      path_leads (edges_by test all) t t (one (any_edge test all t t ∙ last (λ r. list_any (joins t t r) all) (last (joins t t (t, request)) (joins_own (t, request) (t, request) e))))

  -- a search that has begun stands
  pub begins : (marks : List Mark) → Begun test rs marks t request → Search test rs marks t request
  begins marks b = record {
    stranger = b.stranger;
    itself = b.itself;
    sound = λ k below f. one (from_new k below (sym (b.found k below) ∙ f));
    first = λ k below e. b.found k below ∙ e;
    onward = λ j below f. absurd (true≢false (sym f ∙ b.unfollowed j));
    closed = λ j k below there f e. absurd (true≢false (sym f ∙ b.unfollowed j));
  }

  -- a found one is followed
  pub follows : (marks more : List Mark) (j : ℕ) → Search test rs marks t request → j < length rs → is_found (mark_at marks j) ≡ true →
      test t (request_at rs j).0 (request_at rs j).1.writes ≡ false →
      ((k : ℕ) → is_followed (mark_at more k) ≡ ((k == j) || is_followed (mark_at marks k))) →
      ((k : ℕ) → k < length rs → is_found (mark_at more k) ≡ (is_found (mark_at marks k) || test (request_at rs k).0 (request_at rs j).0 (request_at rs j).1.writes)) →
      Search test rs more t request
  follows marks more j s below found free followed grown = record {
    stranger = s.stranger;
    itself = s.itself;
    sound = sound;
    first = λ k there e. grown k there ∙ or_left _ _ (s.first k there e);
    onward = onward;
    closed = closed;
  }
    where
      sound : (k : ℕ) → k < length rs → is_found (mark_at more k) ≡ true → Path Step t (request_at rs k).0
      sound k there f = go (cases_Bool (is_found (mark_at marks k)))
        where
          go : (is_found (mark_at marks k) ≡ true) ⊎ (is_found (mark_at marks k) ≡ false) → Path Step t (request_at rs k).0
          go (inl h) = s.sound k there h
          go (inr h) = join Step (s.sound j below found) (one (between j k below there (grind (arith, common_steps, sym (grown k there) ∙ f, h))))

      onward : (k : ℕ) → k < length rs → is_followed (mark_at more k) ≡ true → test t (request_at rs k).0 (request_at rs k).1.writes ≡ false
      onward k there f = go (cases_Bool (k == j))
        where
          go : ((k == j) ≡ true) ⊎ ((k == j) ≡ false) → test t (request_at rs k).0 (request_at rs k).1.writes ≡ false
          go (inl h) = subst (λ i. test t (request_at rs i).0 (request_at rs i).1.writes ≡ false) (sym (eqb-true k j h)) free
          go (inr h) = s.onward k there (grind (arith, common_steps, sym (followed k) ∙ f, h))

      closed : (i k : ℕ) → i < length rs → k < length rs → is_followed (mark_at more i) ≡ true →
          test (request_at rs k).0 (request_at rs i).0 (request_at rs i).1.writes ≡ true → is_found (mark_at more k) ≡ true
      closed i k here there f e = go (cases_Bool (i == j))
        where
          go : ((i == j) ≡ true) ⊎ ((i == j) ≡ false) → is_found (mark_at more k) ≡ true
          go (inl h) = grown k there ∙ or_right (is_found (mark_at marks k)) _ (subst (λ l. test (request_at rs k).0 (request_at rs l).0 (request_at rs l).1.writes ≡ true) (eqb-true i j h) e)
          go (inr h) = grown k there ∙ or_left _ _ (s.closed i k here there (grind (arith, common_steps, sym (followed i) ∙ f, h)) e)

  -- a found one waits for the new one
  pub comes_back : (marks : List Mark) (j : ℕ) → Search test rs marks t request → j < length rs → is_found (mark_at marks j) ≡ true →
      test t (request_at rs j).0 (request_at rs j).1.writes ≡ true → closes_by test rs t request ≡ true
  comes_back marks j s below found e = path_leads (edges_by test all) t t (join Step (s.sound j below found) (one (to_new j below e)))

  -- all found ones are followed: then none of them waits for the new one
  module _ (marks : List Mark) (s : Search test rs marks t request) (whole : (k : ℕ) → k < length rs → is_found (mark_at marks k) ≡ true → is_followed (mark_at marks k) ≡ true) where
    -- all requests of the transaction are found, and it isn't the new one
    abbrev IsFound : Txn → Type 0
    IsFound u = (u ≡ t → ⊥) × ((k : ℕ) → k < length rs → (request_at rs k).0 ≡ u → is_found (mark_at marks k) ≡ true)

    -- from the new one
    new_on : (u : Txn) → list_any (joins t u (t, request)) all ≡ true → IsFound u
    new_on u e = go (split (joins t u (t, request)) e)
      where
        go : ((k : ℕ) × (k < length rs) × (joins t u (t, request) (request_at rs k) ≡ true)) ⊎ (joins t u (t, request) (t, request) ≡ true) → IsFound u
        go (inr h) = absurd (true≢false (sym (and_parts (test t t request.writes) _ h).0 ∙ s.itself))
        go (inl p) =
            let q = and_parts (test (request_at rs p.0).0 t request.writes) _ p.2 in
            let same : (request_at rs p.0).0 ≡ u = same_txn (request_at rs p.0).0 u (and_parts (is_txn t t) _ q.1).1 in (
              λ h. no_stranger rs t p.0 s.stranger p.1 (same ∙ h),
              λ k below h. s.first k below (subst (λ z. test z t request.writes ≡ true) (same ∙ sym h) q.0),
            )

    -- from one that waits, at a place
    placed_on : (v u : Txn) (j : ℕ) → j < length rs → is_found (mark_at marks j) ≡ true → list_any (joins v u (request_at rs j)) all ≡ true → IsFound u
    placed_on v u j below found e = go (split (joins v u (request_at rs j)) e)
      where
        r : Txn × Request
        r = request_at rs j

        go : ((k : ℕ) × (k < length rs) × (joins v u r (request_at rs k) ≡ true)) ⊎ (joins v u r (t, request) ≡ true) → IsFound u
        go (inr h) = absurd (true≢false (sym (and_parts (test t r.0 r.1.writes) _ h).0 ∙ s.onward j below (whole j below found)))
        go (inl p) =
            let q = and_parts (test (request_at rs p.0).0 r.0 r.1.writes) _ p.2 in
            let same : (request_at rs p.0).0 ≡ u = same_txn (request_at rs p.0).0 u (and_parts (is_txn v r.0) _ q.1).1 in (
              λ h. no_stranger rs t p.0 s.stranger p.1 (same ∙ h),
              λ k there h. s.closed j k below there (whole j below found) (subst (λ z. test z r.0 r.1.writes ≡ true) (same ∙ sym h) q.0),
            )

    left : (v u : Txn) (r q : Txn × Request) → joins v u r q ≡ true → r.0 ≡ v
    left v u r q e = same_txn r.0 v (and_parts (is_txn v r.0) (is_txn u q.0) (and_parts (test q.0 r.0 r.1.writes) _ e).1).0

    from_of : (v u : Txn) (r : Txn × Request) → list_any (joins v u r) all ≡ true → r.0 ≡ v
    from_of v u r e = let q = any_find (joins v u r) all e in left v u r q.0 q.1

    -- one step
    steps : (v u : Txn) → Step v u → (v ≡ t) ⊎ IsFound v → IsFound u
    steps v u e f = go (split (λ r. list_any (joins v u r) all) (sym (any_edge test all v u) ∙ e)) f
      where
        go : ((j : ℕ) × (j < length rs) × (list_any (joins v u (request_at rs j)) all ≡ true)) ⊎ (list_any (joins v u (t, request)) all ≡ true) → (v ≡ t) ⊎ IsFound v → IsFound u
        go (inr h) g = new_on u (subst (λ z. list_any (joins z u (t, request)) all ≡ true) (sym (from_of v u (t, request) h)) h)
        go (inl p) (inl g) = absurd (no_stranger rs t p.0 s.stranger p.1 (from_of v u (request_at rs p.0) p.2 ∙ g))
        go (inl p) (inr g) = placed_on v u p.0 p.1 (g.1 p.0 p.1 (from_of v u (request_at rs p.0) p.2)) p.2

    walks : {v u : Txn} → Path Step v u → (v ≡ t) ⊎ IsFound v → IsFound u
    walks {v} {u} (one e) f = steps v u e f
    walks {v} {u} (cons {u = w} e p) f = walks p (inr (steps v w e f))

    pub ends_open : closes_by test rs t request ≡ false
    ends_open = not_true _ (λ e. (walks (leads_path (edges_by test all) t t e) (inl refl)).0 refl)

mapped : (ms : List Mark) (j : ℕ) → get_or (map is_followed ms) j false ≡ is_followed (mark_at ms j)
mapped [] j = refl
mapped (m ∷ ms) zero = refl
mapped (m ∷ ms) (suc j) = mapped ms j

-- one mark set
pub set_at : (marks : List Mark) (j k : ℕ) (m : Mark) → k < length marks → mark_at (set marks k m) j ≡ cond (j == k) m (mark_at marks j)
set_at marks j k m below = go (cases_Bool (j == k))
  where
    go : ((j == k) ≡ true) ⊎ ((j == k) ≡ false) → mark_at (set marks k m) j ≡ cond (j == k) m (mark_at marks j)
    go (inl h) = ap (λ i. get_or (set marks k m) i Unseen) (eqb-true j k h) ∙ get_or-set_same marks k m Unseen below ∙ sym (ap (λ b. cond b m (mark_at marks j)) h)
    go (inr h) = get_or-set_other marks k j m Unseen (λ e. true≢false (sym (eq_self j k e) ∙ h)) ∙ sym (ap (λ b. cond b m (mark_at marks j)) h)

-- one more looked at
pub looks_on : (marks before : List Mark) (reads : ℕ → Bool) (k : ℕ) (m : Mark) → k < length marks →
    ((j : ℕ) → j < k → is_found (mark_at marks j) ≡ (is_found (mark_at before j) || reads j)) → ((j : ℕ) → k ≤ j → mark_at marks j ≡ mark_at before j) →
    is_found m ≡ (is_found (mark_at marks k) || reads k) →
    (j : ℕ) → j < k + 1 → is_found (mark_at (set marks k m) j) ≡ (is_found (mark_at before j) || reads j)
looks_on marks before reads k m below found rest here j less = ap is_found (set_at marks j k m below) ∙ go (cases_Bool (j == k))
  where
    go : ((j == k) ≡ true) ⊎ ((j == k) ≡ false) → is_found (cond (j == k) m (mark_at marks j)) ≡ (is_found (mark_at before j) || reads j)
    go (inl h) =
        let e = eqb-true j k h in
        ap (λ b. is_found (cond b m (mark_at marks j))) h ∙ here ∙ ap (λ i. is_found i || reads k) (rest k (omega arith)) ∙ ap (λ i. is_found (mark_at before i) || reads i) (sym e)
    go (inr h) = ap (λ b. is_found (cond b m (mark_at marks j))) h ∙ found j (grind (arith, common_steps, less, h))

pub rest_on : (marks before : List Mark) (k : ℕ) (m : Mark) → k < length marks → ((j : ℕ) → k ≤ j → mark_at marks j ≡ mark_at before j) →
    (j : ℕ) → k + 1 ≤ j → mark_at (set marks k m) j ≡ mark_at before j
rest_on marks before k m below rest j more = get_or-set_other marks k j m Unseen (λ e. omega (arith, e, more)) ∙ rest j (omega (arith, more))

-- how many aren't followed
abbrev pub unfollowed : List Mark → ℕ
unfollowed marks = sum_by (λ b. cond b 0 1) (map is_followed marks)

pub fewer_unfollowed : (marks more : List Mark) (k : ℕ) → k < length marks → is_followed (mark_at marks k) ≡ false → map is_followed more ≡ map is_followed (set marks k Followed) → unfollowed more < unfollowed marks
fewer_unfollowed marks more k below here e =
    let f : Bool → ℕ = λ b. cond b 0 1 in
    let one : get_or (map is_followed marks) k false ≡ false = get_or-map is_followed marks k Unseen false below ∙ here in
    let s : sum_by f (set (map is_followed marks) k true) + f (get_or (map is_followed marks) k false) ≡ sum_by f (map is_followed marks) + 0 = sum_by-set f (map is_followed marks) k true false (omega (arith, below, length-map marks is_followed)) in
    let t : unfollowed more ≡ sum_by f (set (map is_followed marks) k true) = ap (sum_by f) (e ∙ map-set is_followed marks k Followed) in
    let w : f (get_or (map is_followed marks) k false) ≡ 1 = ap f one in
    omega (arith, s, t, w)

-- a place that is open
pub open_at : (marks : List Mark) (k : ℕ) → position (λ m. is_found m && not (is_followed m)) marks ≡ Some k → (k < length marks) × (is_found (mark_at marks k) ≡ true) × (is_followed (mark_at marks k) ≡ false)
open_at marks k e =
    let s = position-Some (λ m. is_found m && not (is_followed m)) marks k Unseen e in
    let q = and_parts (is_found (mark_at marks k)) (not (is_followed (mark_at marks k))) s.1 in
    (s.0, q.0, off _ q.1)

-- the marks after one was followed
pub followed_at : (marks more : List Mark) (k : ℕ) → k < length marks → map is_followed more ≡ map is_followed (set marks k Followed) → length more ≡ length marks →
    (j : ℕ) → is_followed (mark_at more j) ≡ ((j == k) || is_followed (mark_at marks j))
followed_at marks more k below e long j = sym (by_map more) ∙ ap (λ z. get_or z j false) e ∙ by_map (set marks k Followed) ∙ ap is_followed (set_at marks j k Followed below) ∙ choose (j == k)
  where
    by_map : (ms : List Mark) → get_or (map is_followed ms) j false ≡ is_followed (mark_at ms j)
    by_map ms = mapped ms j

    choose : (b : Bool) → is_followed (cond b Followed (mark_at marks j)) ≡ (b || is_followed (mark_at marks j))
    choose true = refl
    choose false = refl

pub found_at : (marks : List Mark) (k : ℕ) → k < length marks → is_found (mark_at marks k) ≡ true → (j : ℕ) → is_found (mark_at (set marks k Followed) j) ≡ is_found (mark_at marks j)
found_at marks k below found j = ap is_found (set_at marks j k Followed below) ∙ go (cases_Bool (j == k))
  where
    go : ((j == k) ≡ true) ⊎ ((j == k) ≡ false) → is_found (cond (j == k) Followed (mark_at marks j)) ≡ is_found (mark_at marks j)
    go (inl h) = ap (λ b. is_found (cond b Followed (mark_at marks j))) h ∙ sym (ap (λ i. is_found (mark_at marks i)) (eqb-true j k h) ∙ found)
    go (inr h) = ap (λ b. is_found (cond b Followed (mark_at marks j))) h

pub none_open : (marks : List Mark) → position (λ m. is_found m && not (is_followed m)) marks ≡ None → (k : ℕ) → k < length marks → is_found (mark_at marks k) ≡ true → is_followed (mark_at marks k) ≡ true
none_open marks e k below found =
    let none = none_from (λ m. is_found m && not (is_followed m)) 0 marks (sym (position_from-zero (λ m. is_found m && not (is_followed m)) marks) ∙ e) in
    let here = at_none (λ m. is_found m && not (is_followed m)) marks k Unseen none below in
    grind (arith, common_steps, here, found)

-- the marks of a search that has begun
unseen : (n k : ℕ) → mark_at (replicate n Unseen) k ≡ Unseen
unseen zero k = refl
unseen (suc n) zero = refl
unseen (suc n) (suc k) = unseen n k

pub has_begun : (test : Test) (rs : List (Txn × Request)) (marks : List Mark) (t : Txn) (request : Request) (writes : List (Item × ℤ)) (n : ℕ) →
    is_among rs t ≡ false → request.writes ≡ writes → test t t writes ≡ false → map is_followed marks ≡ map is_followed (replicate n Unseen) →
    ((k : ℕ) → k < length rs → is_found (mark_at marks k) ≡ (is_found (mark_at (replicate n Unseen) k) || test (request_at rs k).0 t writes)) →
    Begun test rs marks t request
has_begun test rs marks t request writes n stranger same itself followed found = record {
  stranger = stranger;
  itself = ap (λ z. test t t z) same ∙ itself;
  unfollowed = λ k. sym (mapped marks k) ∙ ap (λ z. get_or z k false) followed ∙ mapped (replicate n Unseen) k ∙ ap is_followed (unseen n k);
  found = λ k below. found k below ∙ ap (λ m. is_found m || test (request_at rs k).0 t writes) (unseen n k) ∙ ap (λ z. test (request_at rs k).0 t z) (sym same);
}
