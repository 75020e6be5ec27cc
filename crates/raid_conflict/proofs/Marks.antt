-- How many are marked.
use Rattle.std.proofs.Common.{◌≡◌, ℕ, zero, suc, ◌+◌, ◌<◌, ◌≤◌, Bool, true, false, List, [], ◌∷◌, ◌++◌, ◌&&◌, ◌||◌, ◌==◌, if◌then◌else◌, inl, inr, not, length, length-append, get_or, set, cond, arith, refl, sym, ◌∙◌, ap, subst}
use Rattle.std.specs.List.{count_by}
use Rattle.std.proofs.lemmas.List.Sums.{count_by-le-length, sum_by-set, sum_by-append}
use Rattle.std.proofs.lemmas.Grind.{common_steps}
use Rattle.raid_base.specs.declared.names.Txn.{Txn}
use Rattle.raid_base.specs.Names.{is_txn, has_txn}
use Rattle.raid_conflict.specs.Found.{is_marked, Agrees, Longer}
use Rattle.std.proofs.lemmas.Bool.{cases_Bool, true≢false}
use Rattle.raid_rules.specs.Committed.{AllOnce}
use Rattle.raid_rules.proofs.Push.{same_txn}
use Rattle.std.proofs.lemmas.List.{get_or_append_left}

abbrev pub marked : List Bool → ℕ
marked marks = count_by (λ b. b) marks

-- what one adds to the count
abbrev weight : Bool → ℕ
weight b = cond b 1 0

one_at_most : (b : Bool) → cond b 1 0 ≤ 1
one_at_most true = omega arith
one_at_most false = omega arith

more_marked : (m : Bool) (ms : List Bool) → marked (m ∷ ms) ≡ weight m + marked ms
more_marked m ms = let z : 0 + weight m ≡ weight m = omega arith in sum_by-append weight (m ∷ []) ms ∙ ap (λ k. k + marked ms) z

-- where one isn't marked, not all are
pub count_below : (marks : List Bool) (k : ℕ) → k < length marks → get_or marks k false ≡ false → marked marks < length marks
count_below [] k l e = absurd (omega (arith, l))
count_below (m ∷ ms) zero l e =
    let a : weight m ≡ 0 = ap weight e in
    omega (arith, a, more_marked m ms, count_by-le-length (λ b. b) ms)
count_below (m ∷ ms) (suc k) l e = omega (arith, one_at_most m, more_marked m ms, count_below ms k (omega (arith, l)) e)

-- one more is marked
pub count_set : (marks : List Bool) (k : ℕ) → k < length marks → get_or marks k false ≡ false → marked (set marks k true) ≡ marked marks + 1
count_set marks k l e =
    let a : weight (get_or marks k false) ≡ 0 = ap weight e in
    omega (arith, a, sum_by-set weight marks k true false l)

-- none is marked
pub count_none : (marks : List Bool) → ((k : ℕ) → get_or marks k false ≡ false) → marked marks ≡ 0
count_none [] h = refl
count_none (m ∷ ms) h =
    let a : weight m ≡ 0 = ap weight (h zero) in
    omega (arith, a, more_marked m ms, count_none ms (λ k. h (suc k)))

-- a mark that was read is the one there
pub read_mark : (marks : List Bool) (k : ℕ) (b : Bool) → b ≡ get_or marks k b → b ≡ false → get_or marks k false ≡ false
read_mark marks k b e f = sym (subst (λ z. z ≡ get_or marks k z) f e)

-- the list has fewer than there are places, where one isn't marked
pub list_below : (marks : List Bool) (list : List Txn) (t : Txn) → Agrees marks list → t.0 < length marks → is_marked marks t ≡ false → length list < length marks
list_below marks list t a l e = omega (arith, a.counted, count_below marks t.0 l e)

-- one more is marked and listed
pub agrees_more : (marks : List Bool) (list : List Txn) (t : Txn) → Agrees marks list → t.0 < length marks → is_marked marks t ≡ false → Agrees (set marks t.0 true) (list ++ t ∷ [])
agrees_more marks list t a l e = record {
  marked = λ u. grind (arith, common_steps, a.marked u, l);
  counted = omega (arith, a.counted, count_set marks t.0 l e, length-append list (t ∷ []));
}

-- nothing is listed, where all marks of the list were taken away
pub agrees_none : (marks after : List Bool) (list : List Txn) → Agrees marks list → ((t : Txn) → is_marked after t ≡ (is_marked marks t && not (has_txn list t))) → Agrees after []
agrees_none marks after list a h =
    let none : (t : Txn) → is_marked after t ≡ false = λ t. grind (arith, common_steps, h t, a.marked t) in
    record { marked = none; counted = sym (count_none after (λ k. none (record { 0 = k }))) }

-- a list in which each stands once has as many as are marked, where just those are
pub once_marked : (ts : List Txn) (marks : List Bool) → AllOnce ts → ((t : Txn) → is_marked marks t ≡ has_txn ts t) → length ts ≡ marked marks
once_marked [] marks o h = sym (count_none marks (λ k. h (record { 0 = k })))
once_marked (t ∷ ts) marks o h =
    let here : get_or marks t.0 false ≡ true = h t ∙ grind (arith, common_steps) in
    let l : t.0 < length marks = marked_below marks t.0 here in
    let a : weight (get_or marks t.0 false) ≡ 1 = ap weight here in
    let rest = once_marked ts (set marks t.0 false) o.1 (λ u. elim (cases_Bool (t.0 == u.0)) [
      | inl q ↦ let s = same_txn t u q in
          let gone : get_or (set marks t.0 false) t.0 false ≡ false = grind (arith, common_steps, l) in
          subst (λ z. get_or (set marks t.0 false) z.0 false ≡ has_txn ts z) s (gone ∙ sym o.0)
      | inr q ↦ grind (arith, common_steps, h u, q)
    ]) in
    omega (arith, a, rest, sum_by-set weight marks t.0 false false l)
  where
    marked_below : (ms : List Bool) (k : ℕ) → get_or ms k false ≡ true → k < length ms
    marked_below [] k e = absurd (true≢false (sym e))
    marked_below (m ∷ ms) zero e = omega arith
    marked_below (m ∷ ms) (suc k) e = omega (arith, marked_below ms k e)

-- who is in a list after one was added, if it wasn't there
pub has_added : (list : List Txn) (t u : Txn) → has_txn (if has_txn list t then list else list ++ t ∷ []) u ≡ (has_txn list u || is_txn u t)
has_added list t u = go (has_txn list t) refl
  where
    go : (b : Bool) → has_txn list t ≡ b → has_txn (if b then list else list ++ t ∷ []) u ≡ (has_txn list u || is_txn u t)
    go false e = grind (arith, common_steps)
    go true e = elim (cases_Bool (t.0 == u.0)) [
      | inl q ↦ let h : has_txn list u ≡ true = subst (λ z. has_txn list z ≡ true) (same_txn t u q) e in grind (arith, common_steps, h)
      | inr q ↦ grind (arith, common_steps, q)
    ]

-- the list begins as it did
pub longer_added : (list : List Txn) (t : Txn) → Longer list (if has_txn list t then list else list ++ t ∷ [])
longer_added list t = go (has_txn list t)
  where
    go : (b : Bool) → Longer list (if b then list else list ++ t ∷ [])
    go true = record { no_less = omega arith; same = λ k d l. refl }
    go false = record { no_less = omega (arith, length-append list (t ∷ [])); same = λ k d l. get_or_append_left list (t ∷ []) d k l }

-- and once more
pub longer_on : (xs ys zs : List Txn) → Longer xs ys → Longer ys zs → Longer xs zs
longer_on xs ys zs a b = record {
  no_less = omega (arith, a.no_less, b.no_less);
  same = λ k d l. b.same k d (omega (arith, l, a.no_less)) ∙ a.same k d l;
}
