-- What acts later stands at the end, where numbers ascend.
use Rattle.std.proofs.Common.{◌≡◌, ℕ, zero, suc, ◌-◌, ◌<◌, ◌≤◌, nat_lt, Bool, true, false, ◌||◌, if◌then◌else◌, cond, List, [], ◌∷◌, ◌++◌, map, fold, length, get_or, take, drop, append-nil, ℤ, arith, refl, sym, ap, subst, ◌∙◌, inl, inr}
use Rattle.std.specs.Prelude.{⊤}
use Rattle.std.specs.List.{list_any, list_all, filter, All, AllPairs}
use Rattle.std.proofs.lemmas.Bool.{true≢false, cases_Bool, and_parts, and_from, ltb-true, lt-ltb}
use Rattle.std.proofs.lemmas.List.Folds.{list_any-append, list_all-append}
use Rattle.std.proofs.lemmas.List.Sums.{fold-append}
use Rattle.std.proofs.Math.Seq.{take-suc, drop-cons}
use Rattle.std.proofs.lemmas.List.{append_assoc}
use Rattle.raid_base.specs.declared.entry.Entry.{Entry}
use Rattle.raid_base.specs.declared.entry.Entry.TheVariants.{Read, Commit}
use Rattle.raid_base.specs.declared.entry.Noted.{Noted}
use Rattle.raid_rules.specs.declared.conflict.Action.{Action}
use Rattle.raid_rules.specs.Conflict.{acts}
use Rattle.raid_rules.proofs.Txns.{not_true}
use Rattle.raid_base.specs.declared.names.Item.{Item}
use Rattle.raid_conflict.specs.Tables.{all_actions}
use Rattle.raid_conflict.specs.Search.{latest}

abbrev pub later : ℕ → Action → Bool
later at b = nat_lt at b.at

-- after an action with a larger number all have larger ones
abbrev pub Orderly : ℕ → List Action → Type 0
Orderly at [] = ⊤
Orderly at (a ∷ xs) = (later at a ≡ true → list_all (later at) xs ≡ true) × Orderly at xs

module _ (at : ℕ) where
  all_kept : (p : Action → Bool) (xs : List Action) → list_all (later at) xs ≡ true → list_all (later at) (filter p xs) ≡ true
  all_kept p [] h = refl
  all_kept p (a ∷ xs) h = let q = and_parts (later at a) (list_all (later at) xs) h in go (p a) q.0 (all_kept p xs q.1)
    where
      go : (b : Bool) → later at a ≡ true → list_all (later at) (filter p xs) ≡ true → list_all (later at) (cond b (a ∷ filter p xs) (filter p xs)) ≡ true
      go true e r = and_from (later at a) _ e r
      go false e r = r

  pub filter_orderly : (p : Action → Bool) (xs : List Action) → Orderly at xs → Orderly at (filter p xs)
  filter_orderly p [] o = tt
  filter_orderly p (a ∷ xs) o = go (p a) (filter_orderly p xs o.1)
    where
      go : (b : Bool) → Orderly at (filter p xs) → Orderly at (cond b (a ∷ filter p xs) (filter p xs))
      go true r = (λ e. all_kept p xs (o.0 e), r)
      go false r = r

  append_orderly : (xs ys : List Action) → Orderly at xs → Orderly at ys → (list_any (later at) xs ≡ true → list_all (later at) ys ≡ true) → Orderly at (xs ++ ys)
  append_orderly [] ys o r h = r
  append_orderly (a ∷ xs) ys o r h = (
    λ e. list_all-append (later at) xs ys ∙ and_from _ _ (o.0 e) (h (ap (λ b. b || list_any (later at) xs) e)),
    append_orderly xs ys o.1 r (λ e. h (or_second (later at a) e)),
  )
    where
      or_second : (b : Bool) {c : Bool} → c ≡ true → (b || c) ≡ true
      or_second true e = refl
      or_second false e = e

  -- the actions of an entry have its number
  record Alike (number : ℕ) (xs : List Action) : Type 0 where
    orderly : Orderly at xs
    any : list_any (later at) xs ≡ true → nat_lt at number ≡ true
    all : nat_lt at number ≡ true → list_all (later at) xs ≡ true

  none_alike : (number : ℕ) → Alike number []
  none_alike number = record { orderly = tt; any = λ e. absurd (true≢false (sym e)); all = λ e. refl }

  more_alike : (a : Action) (xs : List Action) → Alike a.at xs → Alike a.at (a ∷ xs)
  more_alike a xs r = record {
    orderly = (λ e. r.all e, r.orderly);
    any = λ e. either (nat_lt at a.at) e r.any;
    all = λ e. and_from (later at a) _ e (r.all e);
  }
    where
      either : (b : Bool) {c : Bool} → (b || c) ≡ true → (c ≡ true → b ≡ true) → b ≡ true
      either true e f = refl
      either false e f = f e

  acts_alike : (n : Noted) (e : Entry) → Alike n.at (acts n e)
  acts_alike n (Read t x site) = more_alike (record { at = n.at; by = t; item = x; writes = false }) [] (none_alike n.at)
  acts_alike n (Commit t request applied) = go request.writes
    where
      go : (ws : List (Item × ℤ)) → Alike n.at (map (λ p. record { at = n.at; by = t; item = p.0; writes = true }) ws)
      go [] = none_alike n.at
      go (w ∷ ws) = more_alike (record { at = n.at; by = t; item = w.0; writes = true }) (map (λ p. record { at = n.at; by = t; item = p.0; writes = true }) ws) (go ws)
  acts_alike n other = none_alike n.at

  -- what follows an entry with a larger number has larger numbers
  all_after : (number : ℕ) (view : List Noted) → All (λ m. number < m.at) view → nat_lt at number ≡ true → list_all (later at) (all_actions view) ≡ true
  all_after number [] h e = refl
  all_after number (n ∷ ns) h e =
      let l : at < n.at = omega (arith, ltb-true at number e, h 0 n (omega arith)) in
      list_all-append (later at) (acts n n.entry) (all_actions ns)
      ∙ and_from _ _ ((acts_alike n n.entry).all (lt-ltb at n.at l)) (all_after number ns (λ k d w. h (suc k) d (omega (arith, w))) e)

  pub view_orderly : (view : List Noted) → AllPairs (λ m n. m.at < n.at) view → Orderly at (all_actions view)
  view_orderly [] up = tt
  view_orderly (n ∷ ns) up =
      let a = acts_alike n n.entry in
      append_orderly (acts n n.entry) (all_actions ns) a.orderly (view_orderly ns (λ i j d l w. up (suc i) (suc j) d (omega (arith, l)) (omega (arith, w))))
      (λ e. all_after n.at ns (λ k d w. up 0 (suc k) d (omega arith) (omega (arith, w))) (a.any e))

  -- what is found at the end, where only actions with larger numbers pass the test
  abbrev keep : List Action → Action → List Action
  keep late b = if nat_lt at b.at then late ++ b ∷ [] else []

  all_added : (late xs : List Action) → list_all (later at) xs ≡ true → fold keep late xs ≡ late ++ xs
  all_added late [] h = sym (append-nil late)
  all_added late (a ∷ xs) h =
      let q = and_parts (later at a) (list_all (later at) xs) h in
      ap (λ b. fold keep (cond b (late ++ a ∷ []) []) xs) q.0 ∙ all_added (late ++ a ∷ []) xs q.1 ∙ append_assoc late (a ∷ []) xs

  enough : (p : Action → Bool) → ((b : Action) → p b ≡ true → later at b ≡ true) → (late xs : List Action) → Orderly at xs → (list_any p late ≡ true → list_all (later at) xs ≡ true) → list_any p (fold keep late xs) ≡ (list_any p late || list_any p xs)
  enough p l late [] o h = sym (or_false (list_any p late))
    where
      or_false : (b : Bool) → (b || false) ≡ b
      or_false true = refl
      or_false false = refl
  enough p l late (a ∷ xs) o h = elim (cases_Bool (later at a)) [
    | inl q ↦ ap (λ b. list_any p (fold keep (cond b (late ++ a ∷ []) []) xs)) q
        ∙ ap (list_any p) (all_added (late ++ a ∷ []) xs (o.0 q)) ∙ ap (list_any p) (append_assoc late (a ∷ []) xs) ∙ list_any-append p late (a ∷ xs)
    | inr q ↦
        let none : list_any p late ≡ false = not_true _ (λ e. true≢false (sym (and_parts (later at a) (list_all (later at) xs) (h e)).0 ∙ q)) in
        let not_this : p a ≡ false = not_true _ (λ e. true≢false (sym (l a e) ∙ q)) in
        ap (λ b. list_any p (fold keep (cond b (late ++ a ∷ []) []) xs)) q
        ∙ enough p l [] xs o.1 (λ e. absurd (true≢false (sym e)))
        ∙ ap (λ b. b || list_any p xs) (sym not_this) ∙ ap (λ b. b || (p a || list_any p xs)) (sym none)
  ]

  pub latest_enough : (p : Action → Bool) → ((b : Action) → p b ≡ true → later at b ≡ true) → (xs : List Action) → Orderly at xs → list_any p (latest at xs) ≡ list_any p xs
  latest_enough p l xs o = enough p l [] xs o (λ e. absurd (true≢false (sym e)))

  -- the end of a list, one action after another from the back
  pub latest_more : (xs : List Action) (k : ℕ) (d : Action) → k < length xs → at < (get_or xs k d).at →
      latest at (take (suc k) xs) ++ drop (suc k) xs ≡ latest at (take k xs) ++ drop k xs
  latest_more xs k d l e =
      let a : Action = get_or xs k d in
      ap (λ z. latest at z ++ drop (suc k) xs) (take-suc xs k d l)
      ∙ ap (λ z. z ++ drop (suc k) xs) (fold-append keep [] (take k xs) (a ∷ []) ∙ ap (λ b. cond b (latest at (take k xs) ++ a ∷ []) []) (lt-ltb at a.at e))
      ∙ append_assoc (latest at (take k xs)) (a ∷ []) (drop (suc k) xs)
      ∙ ap (λ z. latest at (take k xs) ++ z) (sym (drop-cons xs k d l))

  pub latest_stops : (xs : List Action) (k : ℕ) (d : Action) → k < length xs → (get_or xs k d).at ≤ at → latest at (take (suc k) xs) ≡ []
  latest_stops xs k d l e =
      let a : Action = get_or xs k d in
      ap (latest at) (take-suc xs k d l) ∙ fold-append keep [] (take k xs) (a ∷ [])
      ∙ ap (λ b. cond b (latest at (take k xs) ++ a ∷ []) []) (not_true (nat_lt at a.at) (λ t. absurd (omega (arith, e, ltb-true at a.at t))))

  an_action : Action
  an_action = record { at = 0; by = record { 0 = 0 }; item = record { 0 = 0 }; writes = false }

  pub latest_back : (xs : List Action) (start : ℕ) → 0 < start → start ≤ length xs → ((d : Action) → at < (get_or xs (start - 1) d).at) →
      latest at (take start xs) ++ drop start xs ≡ latest at (take (start - 1) xs) ++ drop (start - 1) xs
  latest_back xs start l w h =
      let e : suc (start - 1) ≡ start = omega (arith, l) in
      subst (λ z. latest at (take z xs) ++ drop z xs ≡ latest at (take (start - 1) xs) ++ drop (start - 1) xs) e (latest_more xs (start - 1) an_action (omega (arith, l, w)) (h an_action))

  pub latest_front : (xs : List Action) (start : ℕ) → start ≤ length xs → ((d : Action) → 0 < start → (get_or xs (start - 1) d).at ≤ at) → latest at (take start xs) ≡ []
  latest_front xs zero w h = refl
  latest_front xs (suc k) w h =
      let e : suc k - 1 ≡ k = omega arith in
      latest_stops xs k an_action (omega (arith, w)) (subst (λ z. (get_or xs z an_action).at ≤ at) e (h an_action (omega arith)))
