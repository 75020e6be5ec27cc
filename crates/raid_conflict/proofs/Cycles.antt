-- Where an action closes a cycle.
use Rattle.std.proofs.Common.{◌≡◌, ◌↔◌, ◌⊎◌, inl, inr, ⊎_elim, ℕ, ℤ, ◌+◌, ◌<◌, ◌≤◌, max, Bool, true, false, ◌&&◌, List, [], ◌∷◌, fold, arith, sym, ◌∙◌, ap, subst, refl}
use Rattle.std.specs.List.{list_any, All, AllPairs}
use Rattle.std.proofs.lemmas.Bool.{true≢false, cases_Bool, and_parts, and_from, or_left, eqb-true}
use Rattle.std.proofs.lemmas.List.Folds.{Any-from_list_any, list_any_at}
use Rattle.std.proofs.lemmas.List.Elements.{All-cons}
use Rattle.std.proofs.lemmas.Grind.{common_steps}
use Rattle.raid_base.specs.declared.names.Txn.{Txn}
use Rattle.raid_base.specs.declared.names.Item.{Item}
use Rattle.raid_base.specs.declared.entry.Entry.{Entry}
use Rattle.raid_base.specs.declared.entry.Entry.TheVariants.{Read, Commit}
use Rattle.raid_base.specs.declared.entry.Noted.{Noted}
use Rattle.raid_base.specs.Names.{is_txn, is_item, has_txn, holds}
use Rattle.raid_rules.specs.declared.conflict.Action.{Action}
use Rattle.raid_rules.specs.Entries.{is_abort_of, is_end_of}
use Rattle.raid_rules.specs.History.{has_aborted, has_ended}
use Rattle.raid_rules.specs.Conflict.{Edge, Path, one, cons, clash, acts, edges}
use Rattle.raid_rules.specs.Last.{Star, NewEdge, acts_by}
use Rattle.raid_rules.specs.Verdicts.{Question, reading, writing, asker, as_entry, as_noted, last_number, with_action, closes_cycle}
use Rattle.raid_rules.proofs.Push.{same_txn}
use Rattle.raid_rules.proofs.Txns.{not_true, eq_self, or_right}
use Rattle.raid_rules.proofs.Reach.{any_mono}
use Rattle.raid_rules.proofs.Listing.{any_find}
use Rattle.raid_rules.proofs.Edges.{same_item, path_map, leads_iff}
use Rattle.raid_rules.proofs.Paths.{join}
use Rattle.raid_rules.proofs.Last.{edge_stays, edge_new, path_last}
use Rattle.raid_conflict.specs.declared.tables.Tables.{Tables}
use Rattle.raid_conflict.specs.Tables.{mark, all_actions, Tells}
use Rattle.raid_conflict.specs.Search.{Step, closes, has_acted, has_written}
use Rattle.raid_conflict.specs.Listed.{reaches_before}
use Rattle.raid_rules.specs.Conflict.{reached as reachable}
use Rattle.std.specs.Prelude.{nat_lt}
use Rattle.raid_rules.specs.History.{stamp}
use Rattle.raid_conflict.proofs.Lists.{any_same, any_swap, any_of}
use Rattle.raid_conflict.proofs.Lists.{any_filter, any_map, any_flat, any_congr, both_ways, from_any}
use Rattle.raid_conflict.proofs.Steps.{steps_lead}

-- the largest number of a view is no less than any
largest : (k : ℕ) (view : List Noted) → (k ≤ fold (λ k n. max k n.at) k view) × All (λ m. m.at ≤ fold (λ k n. max k n.at) k view) view
largest k [] = (omega arith, λ i d l. absurd (omega (arith, l)))
largest k (n ∷ ns) =
    let r = largest (max k n.at) ns in
    let most : ℕ = fold (λ k n. max k n.at) (max k n.at) ns in
    let a : k ≤ max k n.at = omega arith in
    let b : n.at ≤ max k n.at = omega arith in
    (omega (arith, a, r.0), All-cons (λ (m : Noted). m.at ≤ most) n ns (omega (arith, b, r.0)) r.1)

pub below_next : (view : List Noted) → All (λ m. m.at < last_number view + 1) view
below_next view k d l = omega (arith, (largest 0 view).1 k d l)

-- the action clashes with what is asked, if it is another's
abbrev pub against : Question → Action → Bool
against (reading t k x) a = is_item x a.item && a.writes
against (writing t k writes) a = list_any (λ p. is_item p.0 a.item) writes

turned : (x y : Item) → is_item x y ≡ true → is_item y x ≡ true
turned x y e = grind (arith, common_steps, e)

self_item : (x : Item) → is_item x x ≡ true
self_item x = eq_self x.0 x.0 refl

self_txn : (t : Txn) → is_txn t t ≡ true
self_txn t = eq_self t.0 t.0 refl

is_same : (x y : Item) → is_item x y ≡ true → y ≡ x
is_same x y e = same_item y x (eqb-true y.0 x.0 e)

-- an entry that clashes has an action against the question
clash_act : (m : Noted) (e : Entry) (u : Txn) (q : Question) (x : Item) → clash u (asker q) x e (as_entry q) ≡ true → list_any (λ a. is_txn u a.by && against q a) (acts m e) ≡ true
clash_act m (Commit v request applied) u (reading t k y) x c =
    let w : (is_txn u v && holds x request.writes) ≡ true = grind (arith, common_steps, c) in
    let i : is_item x y ≡ true = grind (arith, common_steps, c) in
    let p = and_parts (is_txn u v) (holds x request.writes) w in
    any_map (λ a. is_txn u a.by && against (reading t k y) a) (λ w. record { at = m.at; by = v; item = w.0; writes = true }) request.writes
    ∙ any_mono (λ w. is_item x w.0) (λ w. is_txn u v && (is_item y w.0 && true)) (λ w h. grind (arith, common_steps, p.0, i, h)) request.writes p.1
clash_act m (Commit v request applied) u (writing t k writes) x c =
    let w : (is_txn u v && holds x request.writes) ≡ true = grind (arith, common_steps, c) in
    let i : holds x writes ≡ true = grind (arith, common_steps, c) in
    let p = and_parts (is_txn u v) (holds x request.writes) w in
    any_map (λ a. is_txn u a.by && against (writing t k writes) a) (λ w. record { at = m.at; by = v; item = w.0; writes = true }) request.writes
    ∙ any_mono (λ w. is_item x w.0) (λ w. is_txn u v && list_any (λ p. is_item p.0 w.0) writes)
    (λ w h. and_from _ _ p.0 (any_mono (λ p. is_item x p.0) (λ p. is_item p.0 w.0) (λ p g. grind (arith, common_steps, h, g)) writes i)) request.writes p.1
clash_act m (Read v y s) u (reading t k z) x c = absurd (true≢false (sym c ∙ grind (arith, common_steps)))
clash_act m (Read v y s) u (writing t k writes) x c =
    let a : (is_txn u v && is_item x y) ≡ true = grind (arith, common_steps, c) in
    let i : holds x writes ≡ true = grind (arith, common_steps, c) in
    let p = and_parts (is_txn u v) (is_item x y) a in
    or_left _ _ (and_from _ _ p.0 (any_mono (λ p. is_item x p.0) (λ p. is_item p.0 y) (λ w g. grind (arith, common_steps, p.1, g)) writes i))
clash_act m other u (reading t k y) x c = absurd (true≢false (sym c))
clash_act m other u (writing t k writes) x c = absurd (true≢false (sym c))

-- and an entry with such an action clashes
act_clash : (m : Noted) (e : Entry) (u : Txn) (q : Question) → list_any (λ a. is_txn u a.by && against q a) (acts m e) ≡ true → (x : Item) × (clash u (asker q) x e (as_entry q) ≡ true)
act_clash m (Commit v request applied) u (reading t k y) l =
    let h : list_any (λ w. is_txn u v && (is_item y w.0 && true)) request.writes ≡ true = sym (any_map (λ a. is_txn u a.by && against (reading t k y) a) (λ w. record { at = m.at; by = v; item = w.0; writes = true }) request.writes) ∙ l in
    let mine : is_txn u v ≡ true = from_any (is_txn u v ≡ true) (λ (w : Item × ℤ). is_txn u v && (is_item y w.0 && true)) (λ w i. grind (arith, common_steps, i)) request.writes h in
    let there : holds y request.writes ≡ true = any_mono (λ (w : Item × ℤ). is_txn u v && (is_item y w.0 && true)) (λ w. is_item y w.0) (λ w i. grind (arith, common_steps, i)) request.writes h in
    (y, grind (arith, common_steps, mine, there, self_txn t, self_item y))
act_clash m (Commit v request applied) u (writing t k writes) l =
    let h : list_any (λ w. is_txn u v && list_any (λ p. is_item p.0 w.0) writes) request.writes ≡ true = sym (any_map (λ a. is_txn u a.by && against (writing t k writes) a) (λ w. record { at = m.at; by = v; item = w.0; writes = true }) request.writes) ∙ l in
    let f = any_find (λ (w : Item × ℤ). is_txn u v && list_any (λ p. is_item p.0 w.0) writes) request.writes h in
    let x : Item = (f.0).0 in
    let p = and_parts (is_txn u v) (list_any (λ p. is_item p.0 x) writes) f.1 in
    let there : holds x request.writes ≡ true = f.2 (λ w. is_item x w.0) (self_item x) in
    let here : holds x writes ≡ true = any_mono (λ (p : Item × ℤ). is_item p.0 x) (λ p. is_item x p.0) (λ p i. turned p.0 x i) writes p.1 in
    (x, grind (arith, common_steps, p.0, there, here, self_txn t))
act_clash m (Read v y s) u (reading t k z) l = absurd (true≢false (sym l ∙ grind (arith, common_steps)))
act_clash m (Read v y s) u (writing t k writes) l =
    let h : (is_txn u v && list_any (λ p. is_item p.0 y) writes) ≡ true = grind (arith, common_steps, l) in
    let p = and_parts (is_txn u v) (list_any (λ p. is_item p.0 y) writes) h in
    let here : holds y writes ≡ true = any_mono (λ (p : Item × ℤ). is_item p.0 y) (λ p. is_item y p.0) (λ p i. turned p.0 y i) writes p.1 in
    (y, grind (arith, common_steps, p.0, here, self_txn t, self_item y))
act_clash m other u (reading t k y) l = absurd (true≢false (sym l))
act_clash m other u (writing t k writes) l = absurd (true≢false (sym l))

module _ (view : List Noted) (q : Question) (k : ℕ) where
  abbrev hits : Txn → Bool
  hits u = list_any (λ a. is_txn u a.by && against q a) (all_actions view)

  hits_all : (u : Txn) → hits u ≡ list_any (λ n. list_any (λ a. is_txn u a.by && against q a) (acts n n.entry)) view
  hits_all u = any_flat (λ a. is_txn u a.by && against q a) (λ n. acts n n.entry) view

  -- a new edge comes from whoever has an action against the question
  edge_hit : (u : Txn) → NewEdge view (as_noted k q) (asker q) u → hits u ≡ true
  edge_hit u e =
      hits_all u ∙ list_any_at (λ n. list_any (λ a. is_txn u a.by && against q a) (acts n n.entry)) view e.in_first.0 e.first e.in_first.1
      (subst (λ n. list_any (λ a. is_txn u a.by && against q a) (acts n n.entry) ≡ true) (sym e.in_first.2) (clash_act e.first e.first.entry u q e.item e.clashing))

  hit_edge : (u : Txn) → hits u ≡ true → is_txn u (asker q) ≡ false → has_aborted view u ≡ false → NewEdge view (as_noted k q) (asker q) u
  hit_edge u h other goes =
      let f = Any-from_list_any (λ n. list_any (λ a. is_txn u a.by && against q a) (acts n n.entry)) view (sym (hits_all u) ∙ h) in
      let c = act_clash f.1 f.1.entry u q f.4 in
      record { first = f.1; item = c.0; in_first = (f.0, f.2, f.3); clashing = c.1; differ = other; stays = goes }

  -- what is found and has an action against the question
  module _ (t : Tables) (s : Tells t view) (found : List Txn) where
    writer_all : (x : Item) → list_any (has_written t x) found ≡ list_any (λ a. is_item x a.item && (a.writes && has_txn found a.by)) (all_actions view)
    writer_all x =
        any_congr (has_written t x) (λ v. list_any (λ a. is_txn v a.by && (a.writes && is_item x a.item)) (all_actions view))
        (λ v. ap (list_any (λ a. a.writes && is_item x a.item)) (s.own v) ∙ any_filter (λ a. a.writes && is_item x a.item) (λ a. is_txn v a.by) (all_actions view)) found
        ∙ any_swap (λ v a. is_txn v a.by && (a.writes && is_item x a.item)) found (all_actions view)
        ∙ any_congr (λ a. list_any (λ v. is_txn v a.by && (a.writes && is_item x a.item)) found) (λ a. is_item x a.item && (a.writes && has_txn found a.by))
        (λ a. any_of found a.by (a.writes && is_item x a.item) ∙ grind (arith, common_steps)) (all_actions view)

    found_all : (x : Item) → list_any (has_acted t x) found ≡ list_any (λ a. is_item x a.item && has_txn found a.by) (all_actions view)
    found_all x =
        any_congr (has_acted t x) (λ v. list_any (λ a. is_txn v a.by && is_item x a.item) (all_actions view))
        (λ v. ap (list_any (λ a. is_item x a.item)) (s.own v) ∙ any_filter (λ a. is_item x a.item) (λ a. is_txn v a.by) (all_actions view)) found
        ∙ any_swap (λ v a. is_txn v a.by && is_item x a.item) found (all_actions view)
        ∙ any_congr (λ a. list_any (λ v. is_txn v a.by && is_item x a.item) found) (λ a. is_item x a.item && has_txn found a.by)
        (λ a. any_of found a.by (is_item x a.item)) (all_actions view)

-- who is found and hits is what closes the cycle
closes_hit : (view : List Noted) (q : Question) (t : Tables) (s : Tells t view) (found : List Txn) (u : Txn) → has_txn found u ≡ true → hits view q 0 u ≡ true → closes t found q ≡ true
closes_hit view (reading w k x) t s found u i h =
    or_right (has_txn found w) _ (writer_all view (reading w k x) 0 t s found x
    ∙ any_mono (λ a. is_txn u a.by && (is_item x a.item && a.writes)) (λ a. is_item x a.item && (a.writes && has_txn found a.by))
    (λ a g. let p = and_parts (is_txn u a.by) (is_item x a.item && a.writes) g in
    let here : has_txn found a.by ≡ true = subst (λ z. has_txn found z ≡ true) (sym (same_txn a.by u p.0)) i in
    grind (arith, common_steps, p.1, here)) (all_actions view) h)
closes_hit view (writing w k writes) t s found u i h =
    let f = any_find (λ a. is_txn u a.by && list_any (λ p. is_item p.0 a.item) writes) (all_actions view) h in
    let a : Action = f.0 in
    let p = and_parts (is_txn u a.by) (list_any (λ p. is_item p.0 a.item) writes) f.1 in
    let here : has_txn found a.by ≡ true = subst (λ z. has_txn found z ≡ true) (sym (same_txn a.by u p.0)) i in
    let g = any_find (λ (p : Item × ℤ). is_item p.0 a.item) writes p.1 in
    or_right (has_txn found w) _
    (g.2 (λ p. list_any (has_acted t p.0) found)
    (found_all view (writing w k writes) 0 t s found (g.0).0 ∙ f.2 (λ b. is_item (g.0).0 b.item && has_txn found b.by) (and_from _ _ g.1 here)))

-- and the other way round
hit_closes : (view : List Noted) (q : Question) (t : Tables) (s : Tells t view) (found : List Txn) → closes t found q ≡ true → (has_txn found (asker q) ≡ true) ⊎ ((u : Txn) × (has_txn found u ≡ true) × (hits view q 0 u ≡ true))
hit_closes view (reading w k x) t s found c = elim (cases_Bool (has_txn found w)) [
  | inl e ↦ inl e
  | inr e ↦ let f = any_find (λ a. is_item x a.item && (a.writes && has_txn found a.by)) (all_actions view) (sym (writer_all view (reading w k x) 0 t s found x) ∙ grind (arith, common_steps, c, e)) in
      let a : Action = f.0 in
      let p = and_parts (is_item x a.item) (a.writes && has_txn found a.by) f.1 in
      let r = and_parts a.writes (has_txn found a.by) p.1 in
      inr (a.by, r.1, f.2 (λ b. is_txn a.by b.by && (is_item x b.item && b.writes)) (and_from _ _ (self_txn a.by) (and_from _ _ p.0 r.0)))
]
hit_closes view (writing w k writes) t s found c = elim (cases_Bool (has_txn found w)) [
  | inl e ↦ inl e
  | inr e ↦ let g = any_find (λ (p : Item × ℤ). list_any (has_acted t p.0) found) writes (grind (arith, common_steps, c, e)) in
      let y : Item = (g.0).0 in
      let f = any_find (λ a. is_item y a.item && has_txn found a.by) (all_actions view) (sym (found_all view (writing w k writes) 0 t s found y) ∙ g.1) in
      let a : Action = f.0 in
      let p = and_parts (is_item y a.item) (has_txn found a.by) f.1 in
      inr (a.by, p.1, f.2 (λ b. is_txn a.by b.by && list_any (λ p. is_item p.0 b.item) writes) (and_from _ _ (self_txn a.by) (g.2 (λ p. is_item p.0 a.item) p.0)))
]

-- who is reached isn't aborted
pub reached_stays : (view : List Noted) → {t u : Txn} → Path (Edge view) t u → has_aborted view u ≡ false
reached_stays view (one e) = e.stays_too
reached_stays view (cons e p) = reached_stays view p

pub not_aborted : (view : List Noted) (t : Txn) → has_ended view t ≡ false → has_aborted view t ≡ false
not_aborted view t h = not_true _ (λ a. true≢false (sym (any_mono (λ n. is_abort_of t n.entry) (λ n. is_end_of t n.entry) (λ n e. or_right _ _ e) view a) ∙ h))

asker_acts : (q : Question) → acts_by (asker q) (as_entry q) ≡ true
asker_acts (reading t k x) = or_left _ _ (self_txn t)
asker_acts (writing t k writes) = self_txn t

no_abort : (q : Question) (w : Txn) → is_abort_of w (as_entry q) ≡ false
no_abort (reading t k x) w = refl
no_abort (writing t k writes) w = refl

-- the answer of a search is that of the list
pub closes_is : (view : List Noted) (q : Question) (t : Tables) (s : Tells t view) (up : AllPairs (λ m n. m.at < n.at) view) (found : List Txn) → ((v : Txn) → (has_txn found v ≡ true) ↔ Path (Step t) (asker q) v) → has_ended view (asker q) ≡ false → closes t found q ≡ closes_cycle view q
closes_is view q t s up found reached goes_on = both_ways _ _ there back
  where
    k : ℕ
    k = last_number view + 1

    u : Txn
    u = asker q

    goes : has_aborted view u ≡ false
    goes = not_aborted view u goes_on

    to_path : (v : Txn) → has_txn found v ≡ true → Path (Edge view) u v
    to_path v i = (leads_iff view u v).0 ((steps_lead t view s up u v).0 ((reached v).0 i))

    of_path : (v : Txn) → Path (Edge view) u v → has_txn found v ≡ true
    of_path v p = (reached v).1 ((steps_lead t view s up u v).1 ((leads_iff view u v).1 p))

    kept : (v : Txn) → has_txn found v ≡ true → Path (Edge (with_action view q)) u v
    kept v i = path_map (edge_stays view (as_noted k q) (no_abort q)) (to_path v i)

    by_hit : (v : Txn) → has_txn found v ≡ true → hits view q 0 v ≡ true → Path (Edge (with_action view q)) u u
    by_hit v i h = elim (cases_Bool (is_txn v u)) [
      | inl e ↦ kept u (subst (λ z. has_txn found z ≡ true) (sym (same_txn u v e)) i)
      | inr e ↦ join (Edge (with_action view q)) (kept v i) (one (edge_new view (as_noted k q) u (asker_acts q) (below_next view) goes v (hit_edge view q k v h e (reached_stays view (to_path v i)))))
    ]

    there : closes t found q ≡ true → closes_cycle view q ≡ true
    there c = (leads_iff (with_action view q) u u).1 (⊎_elim (λ (i : has_txn found u ≡ true). kept u i) (λ (h : (v : Txn) × (has_txn found v ≡ true) × (hits view q 0 v ≡ true)). by_hit h.0 h.1 h.2) (hit_closes view q t s found c))

    from_start : (v : Txn) → NewEdge view (as_noted k q) u v → Star (Edge view) u v → has_txn found v ≡ true
    from_start v e (inl same) = absurd (true≢false (sym (subst (λ z. is_txn z u ≡ true) same (self_txn u)) ∙ e.differ))
    from_start v e (inr p) = of_path v p

    asker_found : (q : Question) → has_txn found (asker q) ≡ true → closes t found q ≡ true
    asker_found (reading w k x) i = or_left _ _ i
    asker_found (writing w k writes) i = or_left _ _ i

    back : closes_cycle view q ≡ true → closes t found q ≡ true
    back l =
        ⊎_elim
        (λ (p : Path (Edge view) u u). asker_found q (of_path u p))
        (λ (p : (v : Txn) × Star (Edge view) u v × NewEdge view (as_noted k q) u v × Star (Edge view) u u).
        closes_hit view q t s found p.0 (from_start p.0 p.2 p.1) (edge_hit view q k p.0 p.2))
        (path_last view (as_noted k q) u (asker_acts q) (below_next view) u u ((leads_iff (with_action view q) u u).0 l))

-- the least stamp that is reached
pub before_is : (view : List Noted) (t : Tables) (s : Tells t view) (up : AllPairs (λ m n. m.at < n.at) view) (found : List Txn) (u : Txn) (before : ℕ) → ((v : Txn) → (has_txn found v ≡ true) ↔ Path (Step t) u v) → list_any (λ v. nat_lt (mark t v).stamp before) found ≡ reaches_before view u before
before_is view t s up found u before reached =
    any_congr (λ v. nat_lt (mark t v).stamp before) (λ v. nat_lt (stamp view v) before) (λ v. ap (λ k. nat_lt k before) (s.stamps v)) found
    ∙ any_same (λ v. nat_lt (stamp view v) before) found (reachable (edges view) u)
    (λ v. both_ways _ _ (λ i. (steps_lead t view s up u v).0 ((reached v).0 i)) (λ l. (reached v).1 ((steps_lead t view s up u v).1 l)))
