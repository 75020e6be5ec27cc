-- What each entry makes of the views in force.
use Rattle.std.proofs.Common.{◌≡◌, ℕ, ◌+◌, ◌<◌, ◌≤◌, ◌⊎◌, inl, inr, Bool, true, false, not, ◌&&◌, ◌||◌, ◌==◌, cond, if◌then◌else◌, nat_lt, List, [], ◌∷◌, ◌++◌, length, arith, sym, ◌∙◌, ap, subst, refl, Option, Some, None}
use Rattle.std.specs.Prelude.{is_some}
use Rattle.std.specs.List.{list_any, filter}
use Rattle.std.proofs.lemmas.Bool.{true≢false, and_parts, and_from, or_left}
use Rattle.std.proofs.lemmas.Grind.{common_steps}
use Rattle.raid_base.specs.declared.names.Txn.{Txn}
use Rattle.raid_base.specs.declared.entry.Entry.{Entry}
use Rattle.raid_base.specs.declared.entry.Entry.TheVariants.{Begin, Read, SwitchOn, SwitchEnd}
use Rattle.raid_base.specs.declared.entry.Noted.{Noted}
use Rattle.raid_base.specs.declared.verdict.Kind.{Kind}
use Rattle.raid_base.specs.declared.verdict.Method.{Method}
use Rattle.raid_base.specs.declared.verdict.Method.TheVariants.{Generic, Convert, Suffix}
use Rattle.raid_base.specs.Names.{has_txn}
use Rattle.raid_workload.specs.declared.workload.Workload.{Workload}
use Rattle.raid_workload.specs.Parts.{txns}
use Rattle.raid_rules.specs.Entries.{is_begin, is_read, is_end_of}
use Rattle.raid_rules.specs.History.{noted, add, next, has_begun, has_ended, is_running}
use Rattle.raid_rules.specs.Order.{is_of, is_seen}
use Rattle.raid_rules.specs.Views.{View, is_in, view_of, is_backward, aborts_backward, abort_list}
use Rattle.raid_rules.proofs.Push.{noted_push, same_txn}
use Rattle.raid_rules.proofs.ViewsOf.{view_push}
use Rattle.raid_legal.specs.Seen.{running}
use Rattle.raid_legal.specs.InForce.{InForce, in_force, controllers, newer, turn, turn_end, past, off_list, survivors}
use Rattle.raid_legal.specs.Legal.{Legal}
use Rattle.raid_legal.proofs.Push.{legal_push}
use Rattle.raid_control.specs.Carried.{is_start, carried}
use Rattle.raid_serial.proofs.Facts.{Fact, fact}
use Rattle.raid_serial.proofs.Force.{in_force_push}
use Rattle.raid_serial.proofs.Grants.{has_split}
use Rattle.raid_serial.proofs.Ordered.{Ordered, legal_ordered}
use Rattle.raid_serial.proofs.Real.{filter_has, has_filter, true_lt, lt_true}
use Rattle.raid_serial.proofs.Tamed.{find_none, legal_stands}
use Rattle.raid_serial.proofs.Translate.{Has, any_has, has_any, not_true, cases_true, eq_self}
use Rattle.raid_serial.proofs.Views.{same_tests, backward_over_view}
use Rattle.raid_switch.specs.Force.{grown, without, turns_nothing}
use Rattle.raid_switch.proofs.Kept.{Kept, legal_kept, starts, starts_own, bounded, begun_of, runs_on, survives, survivor_runs, filter_txn}
use Rattle.raid_switch.proofs.Together.{both}

-- what is in force after one more entry
turned : (w : Workload) (h : List Entry) (e : Entry) → in_force w (noted (h ++ e ∷ [])) ≡ turn w (noted h) (in_force w (noted h)) (length (noted h) + 1) e
turned w h e = ap (in_force w) (noted_push h e) ∙ in_force_push w (noted h) e

at_turn : (w : Workload) (h : List Entry) (e : Entry) →
    controllers (in_force w (noted (h ++ e ∷ []))) (noted (h ++ e ∷ [])) ≡ controllers (turn w (noted h) (in_force w (noted h)) (length (noted h) + 1) e) (noted (h ++ e ∷ []))
at_turn w h e = ap (λ f. controllers f (noted (h ++ e ∷ []))) (turned w h e)

none_of : (next : Option (Kind × ℕ)) → is_some next ≡ false → next ≡ None
none_of None e = refl
none_of (Some c) e = absurd (true≢false e)

pub the_fact : (w : Workload) (h : List Entry) (e : Entry) → Legal w (h ++ e ∷ []) → Fact w (noted h) e
the_fact w h e l = fact w (noted h) e ((legal_push w h e).0 l).1

pub before : (w : Workload) (h : List Entry) (e : Entry) → Legal w (h ++ e ∷ []) → Legal w h
before w h e l = ((legal_push w h e).0 l).0

-- a generic switch
pub generic_turns : (w : Workload) (h : List Entry) (j : ℕ) (to : Kind) → Legal w (h ++ SwitchOn j to Generic ∷ []) →
    controllers (in_force w (noted (h ++ SwitchOn j to Generic ∷ []))) (noted (h ++ SwitchOn j to Generic ∷ [])) ≡ (to, view_of (in_force w (noted h)).view (noted (h ++ SwitchOn j to Generic ∷ []))) ∷ []
generic_turns w h j to l =
    at_turn w h (SwitchOn j to Generic)
    ∙ ap (λ x. (to, view_of (in_force w (noted h)).view (noted (h ++ SwitchOn j to Generic ∷ []))) ∷ newer (noted (h ++ SwitchOn j to Generic ∷ [])) x) (none_of (in_force w (noted h)).next (the_fact w h (SwitchOn j to Generic) l).1)

-- the view past the last number is empty
past_in : (k : ℕ) (at : ℕ) (e : Entry) → at ≤ k → (nat_lt k at || is_begin (has_txn []) e || is_read (λ t x s. has_txn [] t) e) ≡ false
past_in k at (Begin t home) l = grind arith
past_in k at other l = grind arith

filter_none : (f : Noted → Bool) (p : List Noted) → ((m : Noted) → Has m p → f m ≡ false) → filter f p ≡ []
filter_none f [] h = refl
filter_none f (m ∷ ms) h = ap (λ b. cond b (m ∷ filter f ms) (filter f ms)) (h m (inl refl)) ∙ filter_none f ms (λ n i. h n (inr i))

empty_past : (p : List Noted) (o : Ordered p) (e : Entry) → view_of (past (length p + 1)) (add p e) ≡ []
empty_past p o e = filter_none (is_in (past (length p + 1))) (add p e) (λ m i. past_in (length p + 1) m.at m.entry (low m (has_split p m (next p e) i)))
  where
    low : (m : Noted) → Has m p ⊎ (m ≡ next p e) → m.at ≤ length p + 1
    low m (inl x) = let b = bounded p o m x in omega (arith, b)
    low m (inr x) = let q : m.at ≡ length p + 1 = ap (λ z. z.at) x in omega (arith, q)

pub suffix_turns : (w : Workload) (h : List Entry) (j : ℕ) (to : Kind) → Legal w (h ++ SwitchOn j to Suffix ∷ []) →
    controllers (in_force w (noted (h ++ SwitchOn j to Suffix ∷ []))) (noted (h ++ SwitchOn j to Suffix ∷ []))
    ≡ ((in_force w (noted h)).kind, view_of (in_force w (noted h)).view (noted (h ++ SwitchOn j to Suffix ∷ []))) ∷ (to, []) ∷ []
suffix_turns w h j to l =
    at_turn w h (SwitchOn j to Suffix)
    ∙ ap (λ v. ((in_force w (noted h)).kind, view_of (in_force w (noted h)).view (noted (h ++ SwitchOn j to Suffix ∷ []))) ∷ (to, v) ∷ [])
    (ap (view_of (past (length (noted h) + 1))) (noted_push h (SwitchOn j to Suffix)) ∙ empty_past (noted h) (legal_ordered w h (before w h (SwitchOn j to Suffix) l)) (SwitchOn j to Suffix))

-- the end of a suffix switch
pub end_turns : (w : Workload) (h : List Entry) (j : ℕ) (c : Kind × ℕ) → (in_force w (noted h)).next ≡ Some c →
    controllers (in_force w (noted (h ++ SwitchEnd j ∷ []))) (noted (h ++ SwitchEnd j ∷ [])) ≡ (c.0, view_of (past c.1) (noted (h ++ SwitchEnd j ∷ []))) ∷ []
end_turns w h j c e = at_turn w h (SwitchEnd j) ∙ ap (λ x. controllers (turn_end (in_force w (noted h)) x) (noted (h ++ SwitchEnd j ∷ []))) e

-- other entries
calm_turn : (w : Workload) (p : List Noted) (f : InForce) (k : ℕ) (e : Entry) → turns_nothing e ≡ true → turn w p f k e ≡ f
calm_turn w p f k (SwitchOn j to method) c = absurd (true≢false (sym c))
calm_turn w p f k (SwitchEnd j) c = absurd (true≢false (sym c))
calm_turn w p f k other c = refl

pub grow : (v : View) (p : List Noted) (e : Entry) → v.cut ≤ length p → view_of v (add p e) ≡ view_of v p ++ next p e ∷ []
grow v p e l =
    view_push v p (next p e)
    ∙ ap (λ b. view_of v p ++ (if (b || is_begin (has_txn v.keep) e || is_read (λ t x s. has_txn v.keep t) e) then next p e ∷ [] else [])) (lt_true v.cut (length p + 1) (omega (arith, l)))

grow_each : (p : List Noted) (e : Entry) (f : InForce) → f.view.cut ≤ length p → ((c : Kind × ℕ) → f.next ≡ Some c → c.1 ≤ length p) → controllers f (add p e) ≡ grown (next p e) (controllers f p)
grow_each p e f l m = ap (λ v. (f.kind, v) ∷ newer (add p e) f.next) (grow f.view p e l) ∙ ap (λ cs. (f.kind, view_of f.view p ++ next p e ∷ []) ∷ cs) (go f.next m)
  where
    go : (x : Option (Kind × ℕ)) → ((c : Kind × ℕ) → x ≡ Some c → c.1 ≤ length p) → newer (add p e) x ≡ grown (next p e) (newer p x)
    go None m = refl
    go (Some c) m = ap (λ v. (c.0, v) ∷ []) (grow (past c.1) p e (m c refl))

pub others_grow : (w : Workload) (h : List Entry) (e : Entry) → Legal w (h ++ e ∷ []) → turns_nothing e ≡ true →
    controllers (in_force w (noted (h ++ e ∷ []))) (noted (h ++ e ∷ [])) ≡ grown (next (noted h) e) (controllers (in_force w (noted h)) (noted h))
others_grow w h e l c =
    let K : Kept (noted h) (in_force w (noted h)) = legal_kept w h (before w h e l) in
    at_turn w h e
    ∙ ap (λ f. controllers f (noted (h ++ e ∷ []))) (calm_turn w (noted h) (in_force w (noted h)) (length (noted h) + 1) e c)
    ∙ ap (controllers (in_force w (noted h))) (noted_push h e)
    ∙ grow_each (noted h) e (in_force w (noted h)) K.cut (λ d s. (K.apart d s).0)

-- whom a switch aborts
same_filter_txn : (f g : Txn → Bool) (ts : List Txn) → ((t : Txn) → has_txn ts t ≡ true → f t ≡ g t) → filter f ts ≡ filter g ts
same_filter_txn f g [] h = refl
same_filter_txn f g (u ∷ ts) h =
    ap (λ b. cond b (u ∷ filter f ts) (filter f ts)) (h u (or_left _ _ (eq_self u.0 u.0 refl)))
    ∙ ap (λ us. cond (g u) (u ∷ us) us) (same_filter_txn f g ts (λ t i. h t (grind (arith, common_steps, i))))

pub whom_aborted : (w : Workload) (h : List Entry) (j : ℕ) (to : Kind) (method : Method) → Legal w (h ++ SwitchOn j to method ∷ []) →
    abort_list method to (view_of (in_force w (noted h)).view (noted h)) (running w (noted h)) ≡ off_list w (noted h) method to
whom_aborted w h j to method l =
    same_filter_txn (λ t. aborts_backward method to && is_backward (view_of (in_force w (noted h)).view (noted h)) t) (λ t. aborts_backward method to && is_backward (noted h) t) (running w (noted h))
    (λ t i. (let run = (filter_txn (is_running (noted h)) (txns w) t i).0 in
    ap (λ b. aborts_backward method to && b) (backward_over_view w h (before w h (SwitchOn j to method) l) t run (not_true (has_txn (in_force w (noted h)).off t) (find_none (is_running (noted h)) (in_force w (noted h)).off t run (the_fact w h (SwitchOn j to method) l).0)))))

-- a conversion
same_filter_has : (f g : Noted → Bool) (p : List Noted) → ((m : Noted) → Has m p → f m ≡ g m) → filter f p ≡ filter g p
same_filter_has f g [] h = refl
same_filter_has f g (m ∷ ms) h = ap (λ b. cond b (m ∷ filter f ms) (filter f ms)) (h m (inl refl)) ∙ ap (λ xs. cond (g m) (m ∷ xs) xs) (same_filter_has f g ms (λ n i. h n (inr i)))

not_below : (a c : ℕ) → nat_lt a c ≡ false → c ≤ a
not_below a c e = grind arith

-- who is of the list, from the entry's side
eq_turned : (a b : ℕ) → (a == b) ≡ (b == a)
eq_turned a b = grind (arith, common_steps)

turned_any : (us : List Txn) (t : Txn) → list_any (λ u. t.0 == u.0) us ≡ has_txn us t
turned_any [] t = refl
turned_any (u ∷ us) t = ap (λ b. b || list_any (λ z. t.0 == z.0) us) (eq_turned t.0 u.0) ∙ ap (λ b. (u.0 == t.0) || b) (turned_any us t)

or_none : (b : Bool) → (b || false) ≡ b
or_none true = refl
or_none false = refl

nothing : (a b : Bool) → ((a && false) && b) ≡ false
nothing true b = refl
nothing false b = refl

-- a Begin or Read, and whose it is
record StartOf (e : Entry) : Type 0 where
  who : Txn
  own : starts who e ≡ true
  all : (f : Txn → Bool) → is_start f e ≡ f who
  names : (us : List Txn) → list_any (λ u. is_of u e) us ≡ has_txn us who

start_of : (e : Entry) → StartOf e ⊎ ((f : Txn → Bool) → is_start f e ≡ false)
start_of (Begin t home) = inl (record { who = t; own = or_left _ _ (eq_self t.0 t.0 refl); all = λ f. or_none (f t); names = λ us. turned_any us t })
start_of (Read t x site) = inl (record { who = t; own = eq_self t.0 t.0 refl; all = λ f. refl; names = λ us. turned_any us t })
start_of other = inr (λ f. refl)

-- such an entry is in a view past its cut, or where its transaction is kept
seen_in : (v : View) (t : Txn) (at : ℕ) (e : Entry) → starts t e ≡ true → (v.cut < at) ⊎ (has_txn v.keep t ≡ true) → (nat_lt v.cut at || is_begin (has_txn v.keep) e || is_read (λ t x s. has_txn v.keep t) e) ≡ true
seen_in v t at (Begin u home) s x = elim x [
  | inl l ↦ (let q = lt_true v.cut at l in grind (arith, common_steps, q))
  | inr k ↦ (let q : has_txn v.keep u ≡ true = ap (has_txn v.keep) (same_txn u t (sym (or_none (u.0 == t.0)) ∙ s)) ∙ k in grind (arith, common_steps, q))
]
seen_in v t at (Read u y site) s x = elim x [
  | inl l ↦ (let q = lt_true v.cut at l in grind (arith, common_steps, q))
  | inr k ↦ (let q : has_txn v.keep u ≡ true = ap (has_txn v.keep) (same_txn u t s) ∙ k in grind (arith, common_steps, q))
]
seen_in v t at other s x = absurd (true≢false (sym s))

in_cases : (v : View) (t : Txn) (at : ℕ) (e : Entry) → starts t e ≡ true → (nat_lt v.cut at || is_begin (has_txn v.keep) e || is_read (λ t x s. has_txn v.keep t) e) ≡ true → (v.cut < at) ⊎ (has_txn v.keep t ≡ true)
in_cases v t at (Begin u home) s h = elim (cases_true (nat_lt v.cut at)) [
  | inl l ↦ inl (true_lt v.cut at l)
  | inr l ↦ inr (sym (ap (has_txn v.keep) (same_txn u t (sym (or_none (u.0 == t.0)) ∙ s))) ∙ grind (arith, common_steps, h, l))
]
in_cases v t at (Read u y site) s h = elim (cases_true (nat_lt v.cut at)) [
  | inl l ↦ inl (true_lt v.cut at l)
  | inr l ↦ inr (sym (ap (has_txn v.keep) (same_txn u t s)) ∙ grind (arith, common_steps, h, l))
]
in_cases v t at other s h = absurd (true≢false (sym s))

has_left : (p : List Noted) (n m : Noted) → Has m p → Has m (p ++ n ∷ [])
has_left [] n m i = absurd i
has_left (a ∷ ms) n m (inl e) = inl e
has_left (a ∷ ms) n m (inr i) = inr (has_left ms n m i)

module _ (w : Workload) (p : List Noted) (o : Ordered p) (known : (t : Txn) → has_begun p t ≡ true → has_txn (txns w) t ≡ true) (K : Kept p (in_force w p)) (j : ℕ) (to : Kind)
    (quiet : (t : Txn) → is_running p t ≡ true → has_txn (in_force w p).off t ≡ false) where
  abbrev e : Entry
  e = SwitchOn j to Convert

  abbrev v : View
  v = (in_force w p).view

  abbrev off : List Txn
  off = off_list w p Convert to

  abbrev keep : List Txn
  keep = survivors w p Convert to

  -- the entries of the new view, and what is carried
  abbrev new_in : Noted → Bool
  new_in m = is_in (record { cut = length p + 1; keep = keep }) m

  abbrev kept_in : Noted → Bool
  kept_in m = (is_in v m && is_start (λ t. not (has_ended (view_of v (add p e)) t)) m.entry) && not (list_any (λ t. is_of t m.entry) off)

  -- whether a transaction with such an entry survives
  module _ (t : Txn) (m : Noted) (i : Has m p) (s : starts t m.entry ≡ true) where
    into : has_txn keep t ≡ true → ((is_in v m && not (has_ended (view_of v (add p e)) t)) && not (has_txn off t)) ≡ true
    into k =
        let r = survivor_runs w p Convert to t k in
        let out : has_ended (view_of v (add p e)) t ≡ false = not_true (has_ended (view_of v (add p e)) t) (λ h. ended_not (any_has (λ n. is_end_of t n.entry) (view_of v (add p e)) h) r.0) in
        and_from _ _ (and_from _ _ (in_seen (K.seen t r.0 (quiet t r.0) m i s)) (ap not out)) (ap not r.1)
      where
        in_seen : (v.cut < m.at) ⊎ (has_txn v.keep t ≡ true) → is_in v m ≡ true
        in_seen x = seen_in v t m.at m.entry s x

        ended_not : (n : Noted) × Has n (view_of v (add p e)) × (is_end_of t n.entry ≡ true) → is_running p t ≡ true → ⊥
        ended_not n r = elim (has_split p n.0 (next p e) (filter_has (is_in v) (add p e) n.0 n.1).0) [
          | inl x ↦ true≢false (sym (has_any (λ z. is_end_of t z.entry) p n.0 x n.2) ∙ runs_on p t r)
          | inr x ↦ true≢false (sym (subst (λ (z : Noted). is_end_of t z.entry ≡ true) x n.2))
        ]

    back : ((is_in v m && not (has_ended (view_of v (add p e)) t)) && not (has_txn off t)) ≡ true → has_txn keep t ≡ true
    back h =
        let a = and_parts (is_in v m && not (has_ended (view_of v (add p e)) t)) (not (has_txn off t)) h in
        let b = and_parts (is_in v m) (not (has_ended (view_of v (add p e)) t)) a.0 in
        let begun = begun_of p o t m i (starts_own t m.entry s) in
        survives w p o known Convert to t (and_from _ _ begun (ap not (not_true (has_ended p t) (λ d. going (any_has (λ n. is_end_of t n.entry) p d) b.0 b.1)))) (grind (arith, common_steps, a.1))
      where
        going : (n : Noted) × Has n p × (is_end_of t n.entry ≡ true) → is_in v m ≡ true → not (has_ended (view_of v (add p e)) t) ≡ true → ⊥
        going n here goes = elim (cases_true (nat_lt v.cut (n.0).at)) [
          | inl late ↦ true≢false (sym (has_any (λ z. is_end_of t z.entry) (view_of v (add p e)) n.0 (has_filter (is_in v) (add p e) n.0 (has_left p (next p e) n.0 n.1) (grind (arith, common_steps, late))) n.2) ∙ grind (arith, common_steps, goes))
          | inr early ↦ elim (in_cases v t m.at m.entry s here) [
            | inl l ↦ (let q = K.before t m n.0 i n.1 s n.2 in let z = not_below v.cut (n.0).at early in omega (arith, l, q, z))
            | inr k ↦ (let q = K.ended t n.0 n.1 n.2 k in let z = not_below v.cut (n.0).at early in omega (arith, q, z))
          ]
        ]

  old_at : (m : Noted) → Has m p → new_in m ≡ kept_in m
  old_at m i = go (start_of m.entry)
    where
      low : nat_lt (length p + 1) m.at ≡ false
      low = let b = bounded p o m i in grind (arith, common_steps, b)

      go : StartOf m.entry ⊎ ((f : Txn → Bool) → is_start f m.entry ≡ false) → new_in m ≡ kept_in m
      go (inl S) =
          let t : Txn = S.who in
          let a : new_in m ≡ has_txn keep t = ap (λ b. b || is_begin (has_txn keep) m.entry || is_read (λ t x s. has_txn keep t) m.entry) low ∙ S.all (has_txn keep) in
          let b : kept_in m ≡ ((is_in v m && not (has_ended (view_of v (add p e)) t)) && not (has_txn off t)) = ap (λ b. (is_in v m && b) && not (list_any (λ t. is_of t m.entry) off)) (S.all (λ t. not (has_ended (view_of v (add p e)) t))) ∙ ap (λ b. (is_in v m && not (has_ended (view_of v (add p e)) t)) && not b) (S.names off) in
          a ∙ same_tests (has_txn keep t) ((is_in v m && not (has_ended (view_of v (add p e)) t)) && not (has_txn off t)) (into t m i S.own) (back t m i S.own) ∙ sym b
      go (inr N) =
          ap (λ b. b || is_begin (has_txn keep) m.entry || is_read (λ t x s. has_txn keep t) m.entry) low
          ∙ N (has_txn keep)
          ∙ sym (ap (λ b. (is_in v m && b) && not (list_any (λ t. is_of t m.entry) off)) (N (λ t. not (has_ended (view_of v (add p e)) t))) ∙ nothing (is_in v m) (not (list_any (λ t. is_of t m.entry) off)))

  new_out : new_in (next p e) ≡ false
  new_out = grind arith

  kept_out : kept_in (next p e) ≡ false
  kept_out = nothing (is_in v (next p e)) (not (list_any (λ t. is_of t e) off))

  same_at : (m : Noted) → Has m (add p e) → new_in m ≡ kept_in m
  same_at m i = elim (has_split p m (next p e) i) [
    | inl x ↦ old_at m x
    | inr x ↦ subst (λ (z : Noted). new_in z ≡ kept_in z) (sym x) (new_out ∙ sym kept_out)
  ]

  pub convert_view : view_of (record { cut = length p + 1; keep = keep }) (add p e) ≡ without off (carried (view_of v (add p e)))
  convert_view =
      same_filter_has new_in kept_in (add p e) same_at
      ∙ sym (ap (without off) (both (λ m. is_start (λ t. not (has_ended (view_of v (add p e)) t)) m.entry) (is_in v) (add p e))
      ∙ both (λ m. not (list_any (λ t. is_of t m.entry) off)) (λ m. is_in v m && is_start (λ t. not (has_ended (view_of v (add p e)) t)) m.entry) (add p e))

  -- what is in the new view is of running transactions
  pub view_runs : (t : Txn) → is_seen (view_of (record { cut = length p + 1; keep = keep }) (add p e)) t ≡ true → is_running (add p e) t ≡ true
  view_runs t h = go (any_has (λ n. is_of t n.entry) (filter new_in (add p e)) h)
    where
      runs : (m : Noted) → Has m p → new_in m ≡ true → is_of t m.entry ≡ true → StartOf m.entry ⊎ ((f : Txn → Bool) → is_start f m.entry ≡ false) → is_running (add p e) t ≡ true
      runs m i inside own (inl S) =
          let b = bounded p o m i in
          let k : has_txn keep S.who ≡ true = sym (S.all (has_txn keep)) ∙ grind (arith, common_steps, inside, b) in
          let mine : ((t.0 == S.who.0) || false) ≡ true = sym (S.names (t ∷ [])) ∙ or_left _ _ own in
          let r = (survivor_runs w p Convert to t (subst (λ z. has_txn keep z ≡ true) (sym (same_txn t S.who (sym (or_none (t.0 == S.who.0)) ∙ mine))) k)).0 in
          grind (arith, common_steps, r)
      runs m i inside own (inr N) = let b = bounded p o m i in let none = N (has_txn keep) in absurd (true≢false (sym inside ∙ grind (arith, common_steps, none, b)))

      go : (m : Noted) × Has m (filter new_in (add p e)) × (is_of t m.entry ≡ true) → is_running (add p e) t ≡ true
      go m = let i = filter_has new_in (add p e) m.0 m.1 in elim (has_split p m.0 (next p e) i.0) [
        | inl x ↦ runs m.0 x i.1 m.2 (start_of (m.0).entry)
        | inr x ↦ absurd (true≢false (sym i.1 ∙ ap new_in x ∙ new_out))
      ]

quiet_off : (w : Workload) (h : List Entry) (j : ℕ) (to : Kind) (method : Method) → Legal w (h ++ SwitchOn j to method ∷ []) → (t : Txn) → is_running (noted h) t ≡ true → has_txn (in_force w (noted h)).off t ≡ false
quiet_off w h j to method l t run = not_true (has_txn (in_force w (noted h)).off t) (find_none (is_running (noted h)) (in_force w (noted h)).off t run (the_fact w h (SwitchOn j to method) l).0)

known_in : (w : Workload) (h : List Entry) → Legal w h → (t : Txn) → has_begun (noted h) t ≡ true → has_txn (txns w) t ≡ true
known_in w h l = (legal_stands w h l).known

pub convert_turns : (w : Workload) (h : List Entry) (j : ℕ) (to : Kind) → Legal w (h ++ SwitchOn j to Convert ∷ []) →
    controllers (in_force w (noted (h ++ SwitchOn j to Convert ∷ []))) (noted (h ++ SwitchOn j to Convert ∷ []))
    ≡ (to, without (off_list w (noted h) Convert to) (carried (view_of (in_force w (noted h)).view (noted (h ++ SwitchOn j to Convert ∷ []))))) ∷ []
convert_turns w h j to l =
    let was = before w h (SwitchOn j to Convert) l in
    at_turn w h (SwitchOn j to Convert)
    ∙ ap (λ x. (to, view_of (record { cut = length (noted h) + 1; keep = survivors w (noted h) Convert to }) (noted (h ++ SwitchOn j to Convert ∷ []))) ∷ newer (noted (h ++ SwitchOn j to Convert ∷ [])) x) (none_of (in_force w (noted h)).next (the_fact w h (SwitchOn j to Convert) l).1)
    ∙ ap (λ u. (to, u) ∷ []) (subst (λ q. view_of (record { cut = length (noted h) + 1; keep = survivors w (noted h) Convert to }) q ≡ without (off_list w (noted h) Convert to) (carried (view_of (in_force w (noted h)).view q))) (sym (noted_push h (SwitchOn j to Convert)))
    (convert_view w (noted h) (legal_ordered w h was) (known_in w h was) (legal_kept w h was) j to (quiet_off w h j to Convert l)))

pub convert_runs : (w : Workload) (h : List Entry) (j : ℕ) (to : Kind) → Legal w (h ++ SwitchOn j to Convert ∷ []) → (t : Txn) →
    is_seen (view_of (in_force w (noted (h ++ SwitchOn j to Convert ∷ []))).view (noted (h ++ SwitchOn j to Convert ∷ []))) t ≡ true → is_running (noted (h ++ SwitchOn j to Convert ∷ [])) t ≡ true
convert_runs w h j to l t seen =
    let was = before w h (SwitchOn j to Convert) l in
    subst (λ q. is_running q t ≡ true) (sym (noted_push h (SwitchOn j to Convert)))
    (view_runs w (noted h) (legal_ordered w h was) (known_in w h was) (legal_kept w h was) j to (quiet_off w h j to Convert l) t
    (subst (λ q. is_seen (view_of (record { cut = length (noted h) + 1; keep = survivors w (noted h) Convert to }) q) t ≡ true) (noted_push h (SwitchOn j to Convert)) (sym (ap (λ (f : InForce). is_seen (view_of f.view (noted (h ++ SwitchOn j to Convert ∷ []))) t) (turned w h (SwitchOn j to Convert))) ∙ seen)))
