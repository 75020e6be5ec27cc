-- The serial order: it lists each committed transaction once, and no other, exactly where they have no cycle.
use Rattle.std.proofs.Common.{◌≡◌, ℕ, zero, suc, ◌<◌, ◌≤◌, ◌⊎◌, inl, inr, ⊎_elim, Bool, true, false, not, ◌&&◌, ◌||◌, ◌==◌, if◌then◌else◌, List, [], ◌∷◌, ◌++◌, length, map, fold, arith, sym, ◌∙◌, ap, subst, refl, Option, Some, None, append-nil}
use Rattle.std.specs.Prelude.{find, option_to_list}
use Rattle.std.specs.List.{list_any, list_all, filter, cons_option}
use Rattle.std.proofs.lemmas.Bool.{true≢false, cases_Bool, and_parts, and_from, or_left}
use Rattle.std.proofs.lemmas.Grind.{common_steps}
use Rattle.std.proofs.lemmas.List.Folds.{list_any-append}
use Rattle.raid_base.specs.declared.names.Txn.{Txn}
use Rattle.raid_base.specs.declared.request.Request.{Request}
use Rattle.raid_base.specs.declared.entry.Entry.{Entry}
use Rattle.raid_base.specs.declared.entry.Entry.TheVariants.{Commit}
use Rattle.raid_base.specs.declared.entry.Noted.{Noted}
use Rattle.raid_base.specs.Names.{is_txn, has_txn}
use Rattle.raid_rules.specs.Entries.{is_commit_of}
use Rattle.raid_rules.specs.History.{has_committed}
use Rattle.raid_rules.specs.Conflict.{Path, one, cons, edges, commits, committed, commit_of, waits_for, is_next, list_next, listing, serial_order}
use Rattle.raid_rules.specs.Committed.{CommittedEdge, AllOnce, is_before, IsSerialOrder, IsCycle, Joins, IsStuck, Arranges, IsOrderOf}
use Rattle.raid_rules.specs.declared.order.Order.TheVariants.{Whole, Cyclic}
use Rattle.raid_rules.specs.declared.order.Order.{Order}
use Rattle.raid_rules.proofs.Push.{same_txn}
use Rattle.raid_rules.proofs.Reach.{IsPair, many, many_below}
use Rattle.raid_rules.proofs.Edges.{pair_edge, edge_pair}
use Rattle.raid_rules.proofs.Txns.{not_true, eq_self, off, or_right, many_less, many_some, out, out_push, has_kept, has_end, all_in, each_in, found, not_found, once_push, before_push, before_last, before_self, before_before}
use Rattle.raid_rules.proofs.Cycle.{stuck, cycle_map}

zero_or : (n : ℕ) → (n ≡ 0) ⊎ (0 < n)
zero_or zero = inl refl
zero_or (suc n) = inr (omega arith)

-- who is committed
pub committed_has : (p : List Noted) (t : Txn) → has_txn (committed p) t ≡ has_committed p t
committed_has [] t = refl
committed_has (m ∷ ms) t = go m.entry (committed_has ms t)
  where
    go : (e : Entry) → has_txn (committed ms) t ≡ has_committed ms t → has_txn (map (λ c. c.0) (cons_option (commit_of e) (commits ms))) t ≡ (is_commit_of t e || has_committed ms t)
    go (Commit u request applied) h = ap (λ b. is_txn t u || b) h
    go other h = h

-- what was found passes the test, and gives any other test its answer
pub any_find : {X : Type 0} (f : X → Bool) (xs : List X) → list_any f xs ≡ true → (x : X) × (f x ≡ true) × ((g : X → Bool) → g x ≡ true → list_any g xs ≡ true)
any_find f [] e = absurd (true≢false (sym e))
any_find f (x ∷ xs) e = elim (cases_Bool (f x)) [
  | inl q ↦ (x, q, λ g h. or_left _ _ h)
  | inr q ↦ let r = any_find f xs (grind (arith, common_steps, e, q)) in (r.0, r.1, λ g h. or_right _ _ (r.2 g h))
]

three : (a b c : Bool) → (a && b && c) ≡ true → (a ≡ true) × (b ≡ true) × (c ≡ true)
three true true c e = (refl, refl, e)
three true false c e = absurd (true≢false (sym e))
three false b c e = absurd (true≢false (sym e))

three_from : (a b c : Bool) → a ≡ true → b ≡ true → c ≡ true → (a && b && c) ≡ true
three_from true true c e f g = g
three_from true false c e f g = absurd (true≢false (sym f))
three_from false b c e f g = absurd (true≢false (sym e))

-- who isn't listed and isn't next has such an edge
pub has_pred : (pairs : List (Txn × Txn)) (all listed : List Txn) (t : Txn) → has_txn listed t ≡ false → is_next pairs all listed t ≡ false → list_any (waits_for all listed t) pairs ≡ true
has_pred pairs all listed t h n = go (has_txn listed t) (list_any (waits_for all listed t) pairs) h n
  where
    go : (a b : Bool) → a ≡ false → (not a && not b) ≡ false → b ≡ true
    go true b e f = absurd (true≢false e)
    go false true e f = refl
    go false false e f = absurd (true≢false f)

module _ (pairs : List (Txn × Txn)) (all : List Txn) where
  -- the list after one more round
  abbrev round : List Txn → List Txn
  round listed = list_next pairs all listed

  -- where nobody is next, the rounds change nothing
  stays : (es listed : List Txn) → find (is_next pairs all listed) all ≡ None → fold (λ l t. list_next pairs all l) listed es ≡ listed
  stays [] listed n = refl
  stays (e ∷ es) listed n =
      let same : round listed ≡ listed = ap (λ o. listed ++ option_to_list o) n ∙ append-nil listed in
      ap (λ l. fold (λ l t. list_next pairs all l) l es) same ∙ stays es listed n

  -- so many rounds more
  abbrev rounds : List Txn → List Txn → List Txn
  rounds es listed = fold (λ l t. list_next pairs all l) listed es

  -- none is out of the list, or none is next
  abbrev IsDone : List Txn → Type 0
  IsDone listed = (many (out listed) all ≡ 0) ⊎ (find (is_next pairs all listed) all ≡ None)

  -- whoever is next isn't listed, and is one of them
  next_is : (listed : List Txn) (t : Txn) → find (is_next pairs all listed) all ≡ Some t → (has_txn listed t ≡ false) × (is_next pairs all listed t ≡ true) × (has_txn all t ≡ true)
  next_is listed t q =
      let f = found (is_next pairs all listed) all t q in
      (off _ (and_parts (not (has_txn listed t)) (not (list_any (waits_for all listed t) pairs)) f.0).0, f.0, f.1)

  -- one more round, and what the rounds after it come to
  ends_step : (es listed : List Txn) (o : Option Txn) → find (is_next pairs all listed) all ≡ o → many (out listed) all ≤ suc (length es) →
      ((l : List Txn) → many (out l) all ≤ length es → IsDone (rounds es l)) → IsDone (rounds es (listed ++ option_to_list o))
  ends_step es listed None q m more =
      inr (let same : rounds es (listed ++ []) ≡ listed = ap (λ l. rounds es l) (append-nil listed) ∙ stays es listed q in ap (λ l. find (is_next pairs all l) all) same ∙ q)
  ends_step es listed (Some t) q m more =
      let n = next_is listed t q in
      let less = many_less (out listed) (out (listed ++ t ∷ [])) (out_push listed t) t (ap not n.0) (ap not (has_end listed t)) all n.2 in
      more (listed ++ t ∷ []) (omega (arith, m, less))

  -- after as many rounds as there are transactions out of the list, it is done
  ends : (es listed : List Txn) → many (out listed) all ≤ length es → IsDone (rounds es listed)
  ends [] listed m = inl (omega (arith, m))
  ends (e ∷ es) listed m = ends_step es listed (find (is_next pairs all listed) all) refl m (λ l k. ends es l k)

  -- the rounds of a listing end with all of them, or where none is next
  pub listing_ends : (list_all (has_txn (listing pairs all)) all ≡ true) ⊎ (find (is_next pairs all (listing pairs all)) all ≡ None)
  listing_ends =
      ⊎_elim
      (λ (none : many (out (listing pairs all)) all ≡ 0). inl (all_in (listing pairs all) all none))
      (λ (end : find (is_next pairs all (listing pairs all)) all ≡ None). inr end)
      (ends all [] (many_below (out []) all))

  -- then whoever isn't listed has an edge from one that isn't
  pub not_listed : list_all (has_txn (listing pairs all)) all ≡ false → (t : Txn) → has_txn all t ≡ true → has_txn (listing pairs all) t ≡ false → list_any (waits_for all (listing pairs all) t) pairs ≡ true
  not_listed some t i h =
      ⊎_elim
      (λ (whole : list_all (has_txn (listing pairs all)) all ≡ true). absurd (true≢false (sym whole ∙ some)))
      (λ (end : find (is_next pairs all (listing pairs all)) all ≡ None). has_pred pairs all (listing pairs all) t h (not_found (is_next pairs all (listing pairs all)) all end t i))
      listing_ends

  -- where somebody isn't listed, the rest is stuck
  pub left_stuck : (listed : List Txn) (t : Txn) → listed ≡ listing pairs all → find (out listed) all ≡ Some t → IsStuck pairs all listed × (has_txn all t ≡ true) × (has_txn listed t ≡ false)
  left_stuck listed t s e =
      let f = found (out listed) all t e in
      let h = off _ f.0 in
      let some : list_all (has_txn (listing pairs all)) all ≡ false = ap (λ l. list_all (has_txn l) all) (sym s) ∙ not_true _ (λ w. true≢false (sym (each_in listed all t w f.1) ∙ h)) in
      (subst (IsStuck pairs all) (sym s) (not_listed some), f.1, h)

  -- an edge to whoever is next comes from one that is listed
  pub next_after : (listed : List Txn) (t u : Txn) → is_next pairs all listed t ≡ true → IsPair pairs u t → has_txn all u ≡ true → has_txn listed u ≡ true
  next_after listed t u n i c = elim (cases_Bool (has_txn listed u)) [
    | inl q ↦ q
    | inr q ↦ let f = any_find (λ (e : Txn × Txn). is_txn u e.0 && is_txn t e.1) pairs i in
        let r = and_parts (is_txn u (f.0).0) (is_txn t (f.0).1) f.1 in
        let s : (f.0).0 ≡ u = same_txn (f.0).0 u r.0 in
        let w : list_any (waits_for all listed t) pairs ≡ true = f.2 (waits_for all listed t) (three_from _ _ _ r.1 (ap (has_txn all) s ∙ c) (ap (out listed) s ∙ ap not q)) in
        absurd (true≢false (sym w ∙ off _ (and_parts (not (has_txn listed t)) (not (list_any (waits_for all listed t) pairs)) n).1))
  ]

module _ (p : List Noted) where
  -- what is listed so far: committed ones, each once, and after all that have an edge to them
  record Partial (listed : List Txn) : Type 0 where
    once : AllOnce listed
    sound : (t : Txn) → has_txn listed t ≡ true → has_txn (committed p) t ≡ true
    onward : (t u : Txn) → CommittedEdge p t u → has_txn listed u ≡ true → is_before listed t u ≡ true

  -- in a list with one more at its end it is that one, or was there before
  there : (listed : List Txn) (t u : Txn) → has_txn (listed ++ t ∷ []) u ≡ true → (has_txn listed u ≡ true) ⊎ (t ≡ u)
  there listed t u h = elim (cases_Bool (has_txn listed u)) [ inl q ↦ inl q | inr q ↦ inr (same_txn t u (grind (arith, common_steps, h, q, list_any-append (is_txn u) listed (t ∷ [])))) ]

  one_more : (listed : List Txn) (t : Txn) → Partial listed → (has_txn listed t ≡ false) × (is_next (edges p) (committed p) listed t ≡ true) × (has_txn (committed p) t ≡ true) → Partial (listed ++ t ∷ [])
  one_more listed t l n = record {
    once = once_push listed t l.once n.0;
    sound = λ u h. ⊎_elim (λ (q : has_txn listed u ≡ true). l.sound u q) (λ (s : t ≡ u). subst (λ z. has_txn (committed p) z ≡ true) s n.2) (there listed t u h);
    onward = λ u v e h.
        ⊎_elim
        (λ (q : has_txn listed v ≡ true). before_push listed u v t (l.onward u v e q))
        (λ (s : t ≡ v).
        subst (λ z. is_before (listed ++ t ∷ []) u z ≡ true) s
        (before_last listed u t (next_after (edges p) (committed p) listed t u n.1 (edge_pair p u t (subst (λ z. CommittedEdge p u z) (sym s) e).0) (committed_has p u ∙ e.1))))
        (there listed t v h);
  }

  partial_step : (listed : List Txn) (o : Option Txn) → find (is_next (edges p) (committed p) listed) (committed p) ≡ o → Partial listed → Partial (listed ++ option_to_list o)
  partial_step listed None q l = subst Partial (sym (append-nil listed)) l
  partial_step listed (Some t) q l = one_more listed t l (next_is (edges p) (committed p) listed t q)

  partial_all : (es listed : List Txn) → Partial listed → Partial (rounds (edges p) (committed p) es listed)
  partial_all [] listed l = l
  partial_all (e ∷ es) listed l = partial_all es (list_next (edges p) (committed p) listed) (partial_step listed (find (is_next (edges p) (committed p) listed) (committed p)) refl l)

  -- a listing of all of them is a serial order
  whole_serial : list_all (has_txn (listing (edges p) (committed p))) (committed p) ≡ true → IsSerialOrder p (listing (edges p) (committed p))
  whole_serial w =
      let l : Partial (listing (edges p) (committed p)) = partial_all (committed p) [] (record { once = tt; sound = λ t h. absurd (true≢false (sym h)); onward = λ t u e h. absurd (true≢false (sym h)) }) in
      let each : (t : Txn) → has_txn (committed p) t ≡ true → has_txn (listing (edges p) (committed p)) t ≡ true = λ t h. each_in (listing (edges p) (committed p)) (committed p) t w h in
      record {
        lists = λ t. (elim (cases_Bool (has_txn (committed p) t)) [
          | inl h ↦ each t h ∙ sym h ∙ committed_has p t
          | inr h ↦ not_true _ (λ q. true≢false (sym (l.sound t q) ∙ h)) ∙ sym h ∙ committed_has p t
        ]);
        once = l.once;
        onward = λ t u e. l.onward t u e (each u (committed_has p u ∙ e.2));
      }

  -- where there is a serial order, each path leads onward in it, so that none leads back
  onward_path : (order : List Txn) → IsSerialOrder p order → (t u : Txn) → Path (CommittedEdge p) t u → is_before order t u ≡ true
  onward_path order s t u (one e) = s.onward t u e
  onward_path order s t u (cons {u = v} e q) = before_before order t v u s.once (s.onward t v e) (onward_path order s v u q)

  pub serial_acyclic : (order : List Txn) → IsSerialOrder p order → (t : Txn) → Path (CommittedEdge p) t t → ⊥
  serial_acyclic order s t q = before_self order t s.once (onward_path order s t t q)

  -- where somebody isn't listed, there is a cycle
  module _ (some : list_all (has_txn (listing (edges p) (committed p))) (committed p) ≡ false) where
    -- those that aren't listed
    abbrev left : List Txn
    left = filter (out (listing (edges p) (committed p))) (committed p)

    in_left : (t : Txn) → has_txn left t ≡ true → (out (listing (edges p) (committed p)) t ≡ true) × (has_txn (committed p) t ≡ true)
    in_left t h = and_parts _ _ (sym (has_kept (out (listing (edges p) (committed p))) t (committed p)) ∙ h)

    first : (t : Txn) × (has_txn left t ≡ true)
    first =
        let some_out : 0 < many (out (listing (edges p) (committed p))) (committed p) =
        ⊎_elim
        (λ (none : many (out (listing (edges p) (committed p))) (committed p) ≡ 0). absurd (true≢false (sym (all_in (listing (edges p) (committed p)) (committed p) none) ∙ some)))
        (λ (l : 0 < many (out (listing (edges p) (committed p))) (committed p)). l)
        (zero_or (many (out (listing (edges p) (committed p))) (committed p))) in
        let f = many_some (out (listing (edges p) (committed p))) (committed p) some_out in
        (f.0, has_kept (out (listing (edges p) (committed p))) f.0 (committed p) ∙ and_from _ _ f.2 f.1)

    pred_of : (u : Txn) → has_txn left u ≡ true → (v : Txn) × (has_txn left v ≡ true) × CommittedEdge p v u
    pred_of u h =
        let k = in_left u h in
        let a = any_find (waits_for (committed p) (listing (edges p) (committed p)) u) (edges p) (not_listed (edges p) (committed p) some u k.1 (off _ k.0)) in
        let v : Txn = (a.0).0 in
        let q = three (is_txn u (a.0).1) (has_txn (committed p) v) (out (listing (edges p) (committed p)) v) a.1 in
        let pair : IsPair (edges p) v u = a.2 (λ e. is_txn v e.0 && is_txn u e.1) (and_from _ _ (eq_self v.0 v.0 refl) q.0) in
        (v, has_kept (out (listing (edges p) (committed p))) v (committed p) ∙ and_from _ _ q.2 q.1, (pair_edge p v u pair, sym (committed_has p v) ∙ q.1, sym (committed_has p u) ∙ k.1))

    pub unlisted_cycle : (z : Txn) × Path (CommittedEdge p) z z
    unlisted_cycle = stuck (CommittedEdge p) left pred_of first.0 first.1

  -- where the committed ones have no cycle, the serial order lists all of them
  pub order_lists : ((t : Txn) → Path (CommittedEdge p) t t → ⊥) → IsSerialOrder p (serial_order p)
  order_lists bar = elim (cases_Bool (list_all (has_txn (listing (edges p) (committed p))) (committed p))) [
    | inl w ↦ subst (IsSerialOrder p) (sym (ap (λ b. if b then listing (edges p) (committed p) else []) w)) (whole_serial w)
    | inr some ↦ let c = unlisted_cycle some in absurd (bar c.0 c.1)
  ]

  -- where they have one, it is empty
  pub order_empty : (t : Txn) → Path (CommittedEdge p) t t → serial_order p ≡ []
  order_empty t c = elim (cases_Bool (list_all (has_txn (listing (edges p) (committed p))) (committed p))) [
    | inl w ↦ absurd (serial_acyclic (listing (edges p) (committed p)) (whole_serial w) t c)
    | inr some ↦ ap (λ b. if b then listing (edges p) (committed p) else []) some
  ]

  -- what the edges and the committed ones give is the order of the view
  pub arranged_order : (o : Order) → Arranges (edges p) (committed p) o → IsOrderOf p o
  arranged_order (Whole order) a =
      let w : list_all (has_txn (listing (edges p) (committed p))) (committed p) ≡ true = subst (λ l. list_all (has_txn l) (committed p) ≡ true) a.0 a.1 in
      (a.0 ∙ sym (ap (λ b. if b then listing (edges p) (committed p) else []) w), subst (IsSerialOrder p) (sym a.0) (whole_serial w))
  arranged_order (Cyclic cycle) a = cycle_map (Joins (edges p) (committed p)) (CommittedEdge p) (λ t u j. (pair_edge p t u j.0, sym (committed_has p t) ∙ j.1, sym (committed_has p u) ∙ j.2)) cycle a

-- one more entry, and who is committed
pub committed_push : (p : List Noted) (n : Noted) → committed (p ++ n ∷ []) ≡ committed p ++ map (λ c. c.0) (option_to_list (commit_of n.entry))
committed_push [] n = go (commit_of n.entry)
  where
    go : (o : Option (Txn × Request)) → map (λ c. c.0) (cons_option o []) ≡ map (λ c. c.0) (option_to_list o)
    go None = refl
    go (Some c) = refl
committed_push (m ∷ ms) n = go (commit_of m.entry) (committed_push ms n)
  where
    go : (o : Option (Txn × Request)) → committed (ms ++ n ∷ []) ≡ committed ms ++ map (λ c. c.0) (option_to_list (commit_of n.entry)) →
        map (λ c. c.0) (cons_option o (commits (ms ++ n ∷ []))) ≡ map (λ c. c.0) (cons_option o (commits ms)) ++ map (λ c. c.0) (option_to_list (commit_of n.entry))
    go None h = h
    go (Some c) h = ap (λ xs. c.0 ∷ xs) h
