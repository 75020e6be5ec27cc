-- The committed transactions by the tables: the listing, and a cycle where it isn't whole.
use Rattle.std.proofs.Common.{◌≡◌, ℕ, ◌<◌, Bool, true, false, not, ◌&&◌, ◌||◌, cond, List, [], ◌∷◌, ◌++◌, take, drop, Some, None, arith, sym, ◌∙◌, ap, subst, refl}
use Rattle.std.specs.Prelude.{find}
use Rattle.std.specs.List.{list_any, AllPairs}
use Rattle.std.proofs.lemmas.Bool.{true≢false, and_parts, and_from, or_left}
use Rattle.std.proofs.lemmas.Grind.{common_steps}
use Rattle.std.proofs.lemmas.List.{take-append-drop}
use Rattle.std.proofs.lemmas.List.Folds.{list_any-append}
use Rattle.raid_base.specs.declared.names.Txn.{Txn}
use Rattle.raid_base.specs.declared.entry.Noted.{Noted}
use Rattle.raid_base.specs.Names.{is_txn, is_item, has_txn}
use Rattle.raid_rules.specs.declared.conflict.Action.{Action}
use Rattle.raid_rules.specs.declared.order.Order.TheVariants.{Whole, Cyclic}
use Rattle.raid_rules.specs.History.{has_aborted}
use Rattle.raid_rules.specs.Conflict.{edges, precedes, committed, waits_for, is_next, listing}
use Rattle.raid_rules.specs.Committed.{Joins, IsCycle, IsOrderOf}
use Rattle.raid_rules.proofs.Push.{same_txn}
use Rattle.raid_rules.proofs.Txns.{eq_self, off, or_right, out, none_out, not_true}
use Rattle.raid_rules.proofs.Reach.{IsPair, any_mono}
use Rattle.raid_rules.proofs.Listing.{any_find, left_stuck, arranged_order}
use Rattle.raid_rules.proofs.Cycle.{cycle_map}
use Rattle.raid_conflict.specs.declared.tables.Tables.{Tables}
use Rattle.raid_conflict.specs.Found.{is_marked}
use Rattle.raid_conflict.specs.Tables.{chain_at, mark, all_actions, Tells}
use Rattle.raid_conflict.specs.Arrange.{IsLeft, is_ahead, is_behind, waits, is_ahead_of, is_kept_by, Joined}
use Rattle.raid_conflict.proofs.Lists.{any_filter, both_ways}
use Rattle.raid_conflict.proofs.Latest.{Orderly, filter_orderly, view_orderly}
use Rattle.raid_conflict.proofs.Earliest.{earliest_enough}
use Rattle.raid_conflict.proofs.Steps.{edge_to, edge_from, pair_all}

self_txn : (t : Txn) → is_txn t t ≡ true
self_txn t = eq_self t.0 t.0 refl

module _ (t : Tables) (view : List Noted) (s : Tells t view) (up : AllPairs (λ m n. m.at < n.at) view) where
  -- the action is one of the view
  abbrev Acts : Action → Type 0
  Acts a = (g : Action → Bool) → g a ≡ true → list_any g (all_actions view) ≡ true

  -- two actions that clash make an edge
  pair_from : (a b : Action) → Acts a → Acts b → precedes a b ≡ true → has_aborted view a.by ≡ false → has_aborted view b.by ≡ false → IsPair (edges view) a.by b.by
  pair_from a b i j p x y =
      pair_all t view s a.by b.by ∙ i (edge_from t view s a.by b.by)
      (and_from (not (has_aborted view a.by)) (edge_to t view s a.by b.by a) (ap not x)
      (j (λ c. not (has_aborted view c.by) && (precedes a c && (is_txn a.by a.by && is_txn b.by c.by)))
      (and_from _ _ (ap not y) (and_from _ _ p (and_from _ _ (self_txn a.by) (self_txn b.by))))))

  -- and an edge comes from two such
  record Edged (u v : Txn) : Type 0 where
    first : Action
    second : Action
    acts : Acts first
    acts_too : Acts second
    earlier : precedes first second ≡ true
    by : first.by ≡ u
    by_too : second.by ≡ v
    stays : has_aborted view first.by ≡ false
    stays_too : has_aborted view second.by ≡ false

  pair_to : (u v : Txn) → IsPair (edges view) u v → Edged u v
  pair_to u v e =
      let f = any_find (edge_from t view s u v) (all_actions view) (sym (pair_all t view s u v) ∙ e) in
      let p = and_parts (not (has_aborted view (f.0).by)) (edge_to t view s u v f.0) f.1 in
      let g = any_find (λ b. not (has_aborted view b.by) && (precedes f.0 b && (is_txn u (f.0).by && is_txn v b.by))) (all_actions view) p.1 in
      let q = and_parts (not (has_aborted view (g.0).by)) (precedes f.0 g.0 && (is_txn u (f.0).by && is_txn v (g.0).by)) g.1 in
      let r = and_parts (precedes f.0 g.0) (is_txn u (f.0).by && is_txn v (g.0).by) q.1 in
      let w = and_parts (is_txn u (f.0).by) (is_txn v (g.0).by) r.1 in
      record {
        first = f.0;
        second = g.0;
        acts = f.2;
        acts_too = g.2;
        earlier = r.0;
        by = same_txn (f.0).by u w.0;
        by_too = same_txn (g.0).by v w.1;
        stays = off _ p.0;
        stays_too = off _ q.0;
      }

  -- over all actions
  module _ (left : List Bool) where
    behind_all : (a : Action) (f : Action → Bool) → list_any f (chain_at t.items.items a.item.0) ≡ list_any (λ b. is_item a.item b.item && f b) (all_actions view)
    behind_all a f = ap (list_any f) (s.on a.item) ∙ any_filter f (λ b. is_item a.item b.item) (all_actions view)

    -- the front of a chain is enough
    front_all : (a : Action) → is_behind t left a ≡ list_any (λ b. is_item a.item b.item && is_ahead t left a b) (all_actions view)
    front_all a =
        earliest_enough a.at (is_ahead t left a) (λ b h. grind (arith, common_steps, h)) (chain_at t.items.items a.item.0)
        (λ k. subst (Orderly k) (sym (s.on a.item)) (filter_orderly k (λ b. is_item a.item b.item) (all_actions view) (view_orderly k view up)))
        ∙ behind_all a (is_ahead t left a)

    own_all : (u : Txn) (f : Action → Bool) → list_any f (chain_at t.own.items u.0) ≡ list_any (λ a. is_txn u a.by && f a) (all_actions view)
    own_all u f = ap (list_any f) (s.own u) ∙ any_filter f (λ a. is_txn u a.by) (all_actions view)

    -- what keeps a transaction back
    record Kept (v : Txn) : Type 0 where
      first : Action
      second : Action
      acts : Acts first
      acts_too : Acts second
      ahead : is_ahead t left second first ≡ true
      by_too : second.by ≡ v

    waits_kept : (v : Txn) → list_any (is_behind t left) (chain_at t.own.items v.0) ≡ true → Kept v
    waits_kept v e =
        let f = any_find (λ a. is_txn v a.by && is_behind t left a) (all_actions view) (sym (own_all v (is_behind t left)) ∙ e) in
        let p = and_parts (is_txn v (f.0).by) (is_behind t left f.0) f.1 in
        let g = any_find (λ b. is_item (f.0).item b.item && is_ahead t left f.0 b) (all_actions view) (sym (front_all f.0) ∙ p.1) in
        let q = and_parts (is_item (f.0).item (g.0).item) (is_ahead t left f.0 g.0) g.1 in
        record { first = g.0; second = f.0; acts = g.2; acts_too = f.2; ahead = q.1; by_too = same_txn (f.0).by v p.0 }

    ahead_parts : (a b : Action) → is_ahead t left a b ≡ true → (precedes b a ≡ true) × (has_aborted view b.by ≡ false) × (is_marked left b.by ≡ true)
    ahead_parts a b e =
        let p = and_parts (precedes b a) (not (mark t b.by).aborted && is_marked left b.by) e in
        let q = and_parts (not (mark t b.by).aborted) (is_marked left b.by) p.1 in
        (p.0, sym (s.aborted b.by) ∙ off _ q.0, q.1)

    -- who waits has an edge from one that is left
    waits_pair : (v : Txn) → waits t left v ≡ true → (u : Txn) × IsPair (edges view) u v × (is_marked left u ≡ true)
    waits_pair v e =
        let p = and_parts (not (mark t v).aborted) (list_any (is_behind t left) (chain_at t.own.items v.0)) e in
        let k = waits_kept v p.1 in
        let h = ahead_parts k.second k.first k.ahead in
        let goes : has_aborted view k.second.by ≡ false = ap (has_aborted view) k.by_too ∙ sym (s.aborted v) ∙ off _ p.0 in
        (k.first.by, subst (λ z. IsPair (edges view) k.first.by z) k.by_too (pair_from k.first k.second k.acts k.acts_too h.0 h.1 goes), h.2)

    same_place : (a b : Action) → precedes b a ≡ true → is_item a.item b.item ≡ true
    same_place a b e = grind (arith, common_steps, e)

    pair_waits : (u v : Txn) → IsPair (edges view) u v → is_marked left u ≡ true → waits t left v ≡ true
    pair_waits u v e m =
        let d = pair_to u v e in
        let marked : is_marked left d.first.by ≡ true = ap (is_marked left) d.by ∙ m in
        let ahead : is_ahead t left d.second d.first ≡ true = and_from _ _ d.earlier (and_from _ _ (ap not (s.aborted d.first.by ∙ d.stays)) marked) in
        let behind : is_behind t left d.second ≡ true = front_all d.second ∙ d.acts (λ b. is_item d.second.item b.item && is_ahead t left d.second b) (and_from _ _ (same_place d.second d.first d.earlier) ahead) in
        let mine : is_txn v d.second.by ≡ true = ap (is_txn v) d.by_too ∙ self_txn v in
        and_from _ _ (ap not (s.aborted v ∙ ap (has_aborted view) (sym d.by_too) ∙ d.stays_too))
        (own_all v (is_behind t left) ∙ d.acts_too (λ a. is_txn v a.by && is_behind t left a) (and_from _ _ mine behind))

    -- the edge that was found
    joined_pair : (u v : Txn) → Joined t left u v → IsPair (edges view) u v
    joined_pair u v j =
        let p = and_parts (not (mark t v).aborted) (is_kept_by t left u (chain_at t.own.items v.0)) j.0 in
        let f = any_find (λ a. is_txn v a.by && is_ahead_of t left u a (chain_at t.items.items a.item.0)) (all_actions view) (sym (own_all v (λ a. is_ahead_of t left u a (chain_at t.items.items a.item.0))) ∙ p.1) in
        let q = and_parts (is_txn v (f.0).by) (is_ahead_of t left u f.0 (chain_at t.items.items (f.0).item.0)) f.1 in
        let g = any_find (λ b. is_item (f.0).item b.item && (is_ahead t left f.0 b && is_txn u b.by)) (all_actions view) (sym (behind_all f.0 (λ b. is_ahead t left f.0 b && is_txn u b.by)) ∙ q.1) in
        let r = and_parts (is_item (f.0).item (g.0).item) (is_ahead t left f.0 g.0 && is_txn u (g.0).by) g.1 in
        let w = and_parts (is_ahead t left f.0 g.0) (is_txn u (g.0).by) r.1 in
        let h = ahead_parts f.0 g.0 w.0 in
        let second : (f.0).by ≡ v = same_txn (f.0).by v q.0 in
        let goes : has_aborted view (f.0).by ≡ false = ap (has_aborted view) second ∙ sym (s.aborted v) ∙ off _ p.0 in
        subst (λ z. IsPair (edges view) u z) second (subst (λ z. IsPair (edges view) z (f.0).by) (same_txn (g.0).by u w.1) (pair_from g.0 f.0 g.2 f.2 h.0 h.1 goes))

    -- who waits, as the list says
    module _ (all listed : List Txn) (l : IsLeft all left listed) where
      three_from : (a b c : Bool) → a ≡ true → (b && c) ≡ true → (a && b && c) ≡ true
      three_from true b c e f = f
      three_from false b c e f = absurd (true≢false (sym e))

      pub waits_is : (v : Txn) → waits t left v ≡ list_any (waits_for all listed v) (edges view)
      waits_is v = both_ways _ _ there back
        where
          there : waits t left v ≡ true → list_any (waits_for all listed v) (edges view) ≡ true
          there e =
              let w = waits_pair v e in
              let f = any_find (λ (e : Txn × Txn). is_txn w.0 e.0 && is_txn v e.1) (edges view) w.1 in
              let p = and_parts (is_txn w.0 (f.0).0) (is_txn v (f.0).1) f.1 in
              f.2 (waits_for all listed v)
              (three_from _ _ _ p.1 (ap (λ z. has_txn all z && not (has_txn listed z)) (same_txn (f.0).0 w.0 p.0) ∙ sym (l w.0) ∙ w.2))

          back : list_any (waits_for all listed v) (edges view) ≡ true → waits t left v ≡ true
          back e =
              let f = any_find (waits_for all listed v) (edges view) e in
              let p = split (is_txn v (f.0).1) _ _ f.1 in
              pair_waits (f.0).0 v (f.2 (λ e. is_txn (f.0).0 e.0 && is_txn v e.1) (and_from _ _ (self_txn (f.0).0) p.0)) (l (f.0).0 ∙ p.1)
            where
              split : (a b c : Bool) → (a && b && c) ≡ true → (a ≡ true) × ((b && c) ≡ true)
              split true b c e = (refl, e)
              split false b c e = absurd (true≢false (sym e))

-- searches by tests that agree on the list
find_members : (f g : Txn → Bool) (xs : List Txn) → ((x : Txn) → has_txn xs x ≡ true → f x ≡ g x) → find f xs ≡ find g xs
find_members f g [] h = refl
find_members f g (x ∷ xs) h =
    ap (λ b. cond b (Some x) (find f xs)) (h x (or_left _ _ (self_txn x)))
    ∙ ap (λ o. cond (g x) (Some x) o) (find_members f g xs (λ y i. h y (or_right _ _ i)))

-- the first that is left
pub left_is : (all : List Txn) (left : List Bool) (listed : List Txn) → IsLeft all left listed → find (λ t. is_marked left t) all ≡ find (out listed) all
left_is all left listed l = find_members (λ t. is_marked left t) (out listed) all (λ x i. l x ∙ ap (λ b. b && not (has_txn listed x)) i)

-- the first that is next
pub next_is : (t : Tables) (view : List Noted) (s : Tells t view) (up : AllPairs (λ m n. m.at < n.at) view) (all : List Txn) (left : List Bool) (listed : List Txn) → IsLeft all left listed →
    find (λ u. is_marked left u && not (waits t left u)) all ≡ find (is_next (edges view) all listed) all
next_is t view s up all left listed l =
    find_members (λ u. is_marked left u && not (waits t left u)) (is_next (edges view) all listed) all
    (λ x i. ap (λ b. b && not (waits t left x)) (l x ∙ ap (λ b. b && not (has_txn listed x)) i)
    ∙ ap (λ b. not (has_txn listed x) && not b) (waits_is t view s up left all listed l x))

-- where marks are only taken away, none of these is left afterwards
pub none_left : (before after : List Bool) (ts : List Txn) → ((t : Txn) → is_marked after t ≡ true → is_marked before t ≡ true) →
    list_any (λ t. is_marked before t) ts ≡ false → list_any (λ t. is_marked after t) ts ≡ false
none_left before after ts less none = not_true _ (λ e. true≢false (sym (any_mono (λ t. is_marked after t) (λ t. is_marked before t) less ts e) ∙ none))

-- a search for the next may begin past those of which none is left
pub past_none : (t : Tables) (left : List Bool) (all : List Txn) (first : ℕ) → list_any (λ u. is_marked left u) (take first all) ≡ false →
    find (λ u. is_marked left u && not (waits t left u)) (drop first all) ≡ find (λ u. is_marked left u && not (waits t left u)) all
past_none t left all first none = sym (past (take first all) none) ∙ ap (find (λ u. is_marked left u && not (waits t left u))) (take-append-drop first all)
  where
    both_off : (a b : Bool) → (a || b) ≡ false → (a ≡ false) × (b ≡ false)
    both_off true b e = absurd (true≢false e)
    both_off false b e = (refl, e)

    past : (ts : List Txn) → list_any (λ u. is_marked left u) ts ≡ false →
        find (λ u. is_marked left u && not (waits t left u)) (ts ++ drop first all) ≡ find (λ u. is_marked left u && not (waits t left u)) (drop first all)
    past [] n = refl
    past (u ∷ us) n =
        let q = both_off (is_marked left u) (list_any (λ u. is_marked left u) us) n in
        ap (λ b. cond (b && not (waits t left u)) (Some u) (find (λ u. is_marked left u && not (waits t left u)) (us ++ drop first all))) q.0 ∙ past us q.1

-- with one more listed
pub left_less : (all : List Txn) (left after : List Bool) (listed : List Txn) (u : Txn) → IsLeft all left listed → ((t : Txn) → is_marked after t ≡ (is_marked left t && not (is_txn t u))) → IsLeft all after (listed ++ u ∷ [])
left_less all left after listed u l h t = grind (arith, common_steps, l t, h t, list_any-append (is_txn t) listed (u ∷ []))

-- all that are left wait, where one is left
pub all_wait : (t : Tables) (view : List Noted) (s : Tells t view) (up : AllPairs (λ m n. m.at < n.at) view) (left : List Bool) (listed : List Txn) (u : Txn) → listed ≡ listing (edges view) (committed view) → IsLeft (committed view) left listed →
    find (λ t. is_marked left t) (committed view) ≡ Some u → (v : Txn) → is_marked left v ≡ true → waits t left v ≡ true
all_wait t view s up left listed u is l e v m =
    let q = and_parts (has_txn (committed view) v) (not (has_txn listed v)) (sym (l v) ∙ m) in
    waits_is t view s up left (committed view) listed l v
    ∙ (left_stuck (edges view) (committed view) listed u is (sym (left_is (committed view) left listed l) ∙ e)).0 v q.0 (off _ q.1)

-- the order is that of the list
pub whole_order : (view : List Noted) (left : List Bool) (listed : List Txn) → listed ≡ listing (edges view) (committed view) → IsLeft (committed view) left listed →
    find (λ t. is_marked left t) (committed view) ≡ None → IsOrderOf view (Whole listed)
whole_order view left listed is l e = arranged_order view (Whole listed) (is, none_out listed (committed view) (sym (left_is (committed view) left listed l) ∙ e))

pub cyclic_order : (t : Tables) (view : List Noted) (s : Tells t view) (up : AllPairs (λ m n. m.at < n.at) view) (left : List Bool) (listed cycle : List Txn) → IsLeft (committed view) left listed → IsCycle (Joined t left) cycle → IsOrderOf view (Cyclic cycle)
cyclic_order t view s up left listed cycle l c =
    arranged_order view (Cyclic cycle)
    (cycle_map (Joined t left) (Joins (edges view) (committed view))
    (λ u v j. (joined_pair t view s up left u v j, member u j.1, member v j.2)) cycle c)
  where
    member : (u : Txn) → is_marked left u ≡ true → has_txn (committed view) u ≡ true
    member u m = (and_parts (has_txn (committed view) u) (not (has_txn listed u)) (sym (l u) ∙ m)).0

-- before any is listed all are left
pub none_listed : (all : List Txn) (left : List Bool) → ((t : Txn) → is_marked left t ≡ has_txn all t) → IsLeft all left []
none_listed all left h t = h t ∙ sym (whole (has_txn all t))
  where
    whole : (b : Bool) → (b && true) ≡ b
    whole true = refl
    whole false = refl
