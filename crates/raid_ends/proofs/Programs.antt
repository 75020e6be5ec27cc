-- What putting and taking away programs does to sums over those that run, and to the count of a site's transactions that may be taken up.
use Rattle.std.proofs.Common.{◌≡◌, ℕ, zero, suc, ◌+◌, ◌*◌, ◌<◌, ◌≤◌, ◌==◌, nat_lt, Bool, true, false, not, ◌&&◌, ◌||◌, List, [], ◌∷◌, length, filter, map, Some, if◌then◌else◌, arith, sym, subst, ap, ◌∙◌, refl}
use Rattle.std.specs.Prelude.{count_by}
use Rattle.std.specs.List.{AllByRecursion, list_any, sum_by}
use Rattle.std.proofs.lemmas.Bool.{true≢false, eqb-true}
use Rattle.std.proofs.lemmas.Grind.{common_steps}
use Rattle.std.proofs.lemmas.List.Sums.{sum_by-cons}
use Rattle.raid_base.specs.declared.names.Txn.{Txn}
use Rattle.raid_base.specs.declared.names.Site.{Site}
use Rattle.raid_base.specs.Names.{is_txn, is_site, has_txn}
use Rattle.raid_workload.specs.declared.workload.Workload.{Workload}
use Rattle.raid_workload.specs.Parts.{count_from, txns, home}
use Rattle.raid_base.specs.declared.entry.Noted.{Noted}
use Rattle.raid_rules.specs.History.{has_begun}
use Rattle.raid_rules.proofs.Push.{same_txn}
use Rattle.raid_steps.specs.State.{Running}
use Rattle.raid_steps.specs.Programs.{put_running}
use Rattle.raid_moves.specs.Moves.{Ascend}
use Rattle.raid_moves.proofs.Places.{nothing, something, all_found, IsBehind, not_less, self, program_of, found_txn}
use Rattle.raid_measure.proofs.Sums.{sum_grows, sum_of_sums, one_if}

-- A sum over programs.

module _ (f : Running → ℕ) where
  -- a program takes the place of the one that was found
  pub put_sum : (r : Running) (rs : List Running) (old : Running) → Ascend rs → program_of r.txn rs ≡ Some old → sum_by f (put_running r rs) + f old ≡ sum_by f rs + f r
  put_sum r [] old a q = absurd (nothing q)
  put_sum r (x ∷ xs) old a q = go (x.txn.0 == r.txn.0) (nat_lt r.txn.0 x.txn.0) refl q (put_sum r xs old a.1)
    where
      go : (b c : Bool) → nat_lt r.txn.0 x.txn.0 ≡ c → (if b then Some x else program_of r.txn xs) ≡ Some old → (program_of r.txn xs ≡ Some old → sum_by f (put_running r xs) + f old ≡ sum_by f xs + f r) →
          sum_by f (if b then r ∷ xs else if c then r ∷ x ∷ xs else x ∷ put_running r xs) + f old ≡ sum_by f (x ∷ xs) + f r
      go true c l q rest = let same : f x ≡ f old = ap f (something q) in omega (arith, same, sum_by-cons f r xs, sum_by-cons f x xs)
      go false true l q rest = let above = all_found (IsBehind x.txn) (λ (p : Running). is_txn r.txn p.txn) xs old a.0 q in absurd (true≢false (sym l ∙ late old above q))
        where
          late : (old : Running) → x.txn.0 < old.txn.0 → program_of r.txn xs ≡ Some old → nat_lt r.txn.0 x.txn.0 ≡ false
          late old above q = not_less r.txn.0 x.txn.0 (subst (λ t. x.txn.0 < t.0) (found_txn r.txn xs old q) above)
      go false false l q rest = let more = rest q in omega (arith, more, sum_by-cons f x (put_running r xs), sum_by-cons f x xs)

  -- it is put beside the others, or takes some place: it adds its own at most
  pub put_most : (r : Running) (rs : List Running) → sum_by f (put_running r rs) ≤ sum_by f rs + f r
  put_most r [] = omega (arith, sum_by-cons f r [])
  put_most r (x ∷ xs) = go (x.txn.0 == r.txn.0) (nat_lt r.txn.0 x.txn.0) (put_most r xs)
    where
      go : (b c : Bool) → sum_by f (put_running r xs) ≤ sum_by f xs + f r → sum_by f (if b then r ∷ xs else if c then r ∷ x ∷ xs else x ∷ put_running r xs) ≤ sum_by f (x ∷ xs) + f r
      go true c rest = omega (arith, sum_by-cons f r xs, sum_by-cons f x xs)
      go false true rest = omega (arith, sum_by-cons f r (x ∷ xs), sum_by-cons f x xs)
      go false false rest = omega (arith, rest, sum_by-cons f x (put_running r xs), sum_by-cons f x xs)

  -- some are left
  pub kept_sum : (test : Running → Bool) (rs : List Running) → sum_by f (filter test rs) ≤ sum_by f rs
  kept_sum test [] = omega arith
  kept_sum test (x ∷ xs) = go (test x) (kept_sum test xs)
    where
      go : (b : Bool) → sum_by f (filter test xs) ≤ sum_by f xs → sum_by f (if b then x ∷ filter test xs else filter test xs) ≤ sum_by f (x ∷ xs)
      go true rest = omega (arith, rest, sum_by-cons f x (filter test xs), sum_by-cons f x xs)
      go false rest = omega (arith, rest, sum_by-cons f x xs)

-- Who runs.

abbrev pub runs : List Running → Txn → Bool
runs rs t = list_any (λ (r : Running). is_txn t r.txn) rs

runs_cons : (r : Running) (rs : List Running) (t : Txn) (b : Bool) → (r.txn.0 == t.0) ≡ b → runs (r ∷ rs) t ≡ (b || runs rs t)
runs_cons r rs t b q = ap (λ c. c || runs rs t) q

-- who runs still does after one was put, and that one does
pub runs_put : (r : Running) (rs : List Running) (t : Txn) → runs rs t ≡ true → runs (put_running r rs) t ≡ true
runs_put r [] t q = absurd (true≢false (sym q))
runs_put r (x ∷ xs) t q = go (x.txn.0 == r.txn.0) refl (nat_lt r.txn.0 x.txn.0) (x.txn.0 == t.0) refl q (runs_put r xs t)
  where
    go : (b : Bool) → (x.txn.0 == r.txn.0) ≡ b → (c : Bool) (d : Bool) → (x.txn.0 == t.0) ≡ d → (d || runs xs t) ≡ true → (runs xs t ≡ true → runs (put_running r xs) t ≡ true) → runs (if b then r ∷ xs else if c then r ∷ x ∷ xs else x ∷ put_running r xs) t ≡ true
    go true same c d e q rest = ap (λ n. (n == t.0) || runs xs t) (sym (eqb-true x.txn.0 r.txn.0 same)) ∙ ap (λ b. b || runs xs t) e ∙ q
    go false same true d e q rest = behind (r.txn.0 == t.0) ((x.txn.0 == t.0) || runs xs t) (ap (λ b. b || runs xs t) e ∙ q)
      where
        behind : (a b : Bool) → b ≡ true → (a || b) ≡ true
        behind true b q = refl
        behind false b q = q
    go false same false true e q rest = ap (λ b. b || runs (put_running r xs) t) e
    go false same false false e q rest = ap (λ b. b || runs (put_running r xs) t) e ∙ rest q

pub runs_new : (r : Running) (rs : List Running) → runs (put_running r rs) r.txn ≡ true
runs_new r [] = ap (λ b. b || false) (self r.txn.0)
runs_new r (x ∷ xs) = go (x.txn.0 == r.txn.0) (nat_lt r.txn.0 x.txn.0) (runs_new r xs)
  where
    first : (rs : List Running) → runs (r ∷ rs) r.txn ≡ true
    first rs = ap (λ b. b || runs rs r.txn) (self r.txn.0)

    later : (a b : Bool) → b ≡ true → (a || b) ≡ true
    later true b q = refl
    later false b q = q

    go : (b c : Bool) → runs (put_running r xs) r.txn ≡ true → runs (if b then r ∷ xs else if c then r ∷ x ∷ xs else x ∷ put_running r xs) r.txn ≡ true
    go true c rest = first xs
    go false true rest = first (x ∷ xs)
    go false false rest = later (x.txn.0 == r.txn.0) (runs (put_running r xs) r.txn) rest

-- all but one transaction's are left
pub runs_kept : (t : Txn) (rs : List Running) (u : Txn) → (t.0 == u.0) ≡ false → runs rs u ≡ true → runs (filter (λ (r : Running). not (is_txn t r.txn)) rs) u ≡ true
runs_kept t [] u other q = absurd (true≢false (sym q))
runs_kept t (x ∷ xs) u other q = go (x.txn.0 == t.0) refl (x.txn.0 == u.0) refl q (runs_kept t xs u other)
  where
    left : List Running
    left = filter (λ (r : Running). not (is_txn t r.txn)) xs

    go : (b : Bool) → (x.txn.0 == t.0) ≡ b → (c : Bool) → (x.txn.0 == u.0) ≡ c → (c || runs xs u) ≡ true → (runs xs u ≡ true → runs left u ≡ true) → runs (if not b then x ∷ left else left) u ≡ true
    go true e true d q rest = absurd (true≢false (sym d ∙ ap (λ n. n == u.0) (eqb-true x.txn.0 t.0 e) ∙ other))
    go true e false d q rest = rest q
    go false e true d q rest = ap (λ b. b || runs left u) d
    go false e false d q rest = ap (λ b. b || runs left u) d ∙ rest q

-- Counts of transactions.

-- where one passes no more, fewer do
pub count_less : (f g : Txn → Bool) (t : Txn) → ((u : Txn) → one_if (f u) ≤ one_if (g u)) → f t ≡ false → g t ≡ true → (ts : List Txn) → has_txn ts t ≡ true → count_by f ts + 1 ≤ count_by g ts
count_less f g t each fails passes [] q = absurd (true≢false (sym q))
count_less f g t each fails passes (u ∷ us) q = go (u.0 == t.0) refl q (count_less f g t each fails passes us)
  where
    all : count_by f us ≤ count_by g us
    all = sum_grows (λ u. one_if (f u)) (λ u. one_if (g u)) each us

    go : (b : Bool) → (u.0 == t.0) ≡ b → (b || has_txn us t) ≡ true → (has_txn us t ≡ true → count_by f us + 1 ≤ count_by g us) → count_by f (u ∷ us) + 1 ≤ count_by g (u ∷ us)
    go true e q rest =
        let none : one_if (f u) ≡ 0 = ap one_if (ap f (same_txn u t e) ∙ fails) in
        let one : one_if (g u) ≡ 1 = ap one_if (ap g (same_txn u t e) ∙ passes) in
        omega (arith, all, none, one, sum_by-cons (λ u. one_if (f u)) u us, sum_by-cons (λ u. one_if (g u)) u us)
    go false e q rest = let more = rest q in let here = each u in omega (arith, more, here, sum_by-cons (λ u. one_if (f u)) u us, sum_by-cons (λ u. one_if (g u)) u us)

-- each transaction of a workload is once among them
past_txns : (t : Txn) (k n : ℕ) → t.0 < k → count_by (is_txn t) (map (λ k. let u : Txn = record { 0 = k } in u) (count_from k n)) ≡ 0
past_txns t k zero l = refl
past_txns t k (suc n) l =
    let rest = past_txns t (k + 1) n (omega arith) in
    let first : one_if (k == t.0) ≡ 0 = grind (arith, common_steps, l) in
    omega (arith, rest, first, sum_by-cons (λ u. one_if (is_txn t u)) (let u : Txn = record { 0 = k } in u) (map (λ k. let u : Txn = record { 0 = k } in u) (count_from (k + 1) n)))

one_txn : (t : Txn) (k n : ℕ) → count_by (is_txn t) (map (λ k. let u : Txn = record { 0 = k } in u) (count_from k n)) ≤ 1
one_txn t k zero = omega arith
one_txn t k (suc n) = go (k == t.0) refl (one_txn t (k + 1) n)
  where
    rest : ℕ
    rest = count_by (is_txn t) (map (λ k. let u : Txn = record { 0 = k } in u) (count_from (k + 1) n))

    all : count_by (is_txn t) (map (λ k. let u : Txn = record { 0 = k } in u) (count_from k (suc n))) ≡ one_if (k == t.0) + rest
    all = sum_by-cons (λ u. one_if (is_txn t u)) (let u : Txn = record { 0 = k } in u) (map (λ k. let u : Txn = record { 0 = k } in u) (count_from (k + 1) n))

    above : (a b : ℕ) → (a == b) ≡ true → b < a + 1
    above a b q = grind (arith, common_steps, q)

    go : (b : Bool) → (k == t.0) ≡ b → rest ≤ 1 → count_by (is_txn t) (map (λ k. let u : Txn = record { 0 = k } in u) (count_from k (suc n))) ≤ 1
    go true e more = let none : rest ≡ 0 = past_txns t (k + 1) n (above k t.0 e) in let first : one_if (k == t.0) ≡ 1 = ap one_if e in omega (arith, all, none, first)
    go false e more = let first : one_if (k == t.0) ≡ 0 = ap one_if e in omega (arith, all, more, first)

module _ (w : Workload) (p : List Noted) (s : Site) where
  -- the transaction may be taken up at the site, where these programs run
  abbrev pub may_take_up : List Running → Txn → Bool
  may_take_up rs t = is_site s (home w t) && not (has_begun p t) && not (runs rs t)

  abbrev pub idle : List Running → ℕ
  idle rs = count_by (may_take_up rs) (txns w)

  fewer_by : (a b c : Bool) → (b ≡ true → c ≡ true) → one_if (a && not c) ≤ one_if (a && not b)
  fewer_by a true c more = let e : one_if (a && not c) ≤ one_if (a && not true) = subst (λ c. one_if (a && not c) ≤ one_if (a && false)) (sym (more refl)) (omega arith) in e
  fewer_by true false true more = omega arith
  fewer_by true false false more = omega arith
  fewer_by false false c more = omega arith

  -- where more run, fewer may be taken up
  pub idle_less : (rs qs : List Running) → ((t : Txn) → runs rs t ≡ true → runs qs t ≡ true) → idle qs ≤ idle rs
  idle_less rs qs more = sum_grows (λ t. one_if (may_take_up qs t)) (λ t. one_if (may_take_up rs t)) (λ t. fewer_by (is_site s (home w t) && not (has_begun p t)) (runs rs t) (runs qs t) (more t)) (txns w)

  pub idle_put : (r : Running) (rs : List Running) → idle (put_running r rs) ≤ idle rs
  idle_put r rs = idle_less rs (put_running r rs) (runs_put r rs)

  -- one is taken up
  pub idle_new : (r : Running) (rs : List Running) → has_txn (txns w) r.txn ≡ true → may_take_up rs r.txn ≡ true → idle (put_running r rs) + 1 ≤ idle rs
  idle_new r rs known may =
      count_less (may_take_up (put_running r rs)) (may_take_up rs) r.txn (λ t. fewer_by (is_site s (home w t) && not (has_begun p t)) (runs rs t) (runs (put_running r rs) t) (runs_put r rs t))
      (hides (is_site s (home w r.txn) && not (has_begun p r.txn)) (runs (put_running r rs) r.txn) (runs_new r rs)) may (txns w) known
    where
      hides : (a b : Bool) → b ≡ true → (a && not b) ≡ false
      hides true b q = ap not q
      hides false b q = refl

  -- one that has begun is over here
  pub idle_over : (t : Txn) (rs : List Running) → has_begun p t ≡ true → idle (filter (λ (r : Running). not (is_txn t r.txn)) rs) ≤ idle rs
  idle_over t rs begun = sum_grows (λ u. one_if (may_take_up (filter (λ (r : Running). not (is_txn t r.txn)) rs) u)) (λ u. one_if (may_take_up rs u)) each (txns w)
    where
      left : List Running
      left = filter (λ (r : Running). not (is_txn t r.txn)) rs

      none : (a b c : Bool) → b ≡ true → one_if (a && not b && not c) ≤ 0
      none true true c q = omega arith
      none false b c q = omega arith
      none true false c q = absurd (true≢false (sym q))

      each : (u : Txn) → one_if (may_take_up left u) ≤ one_if (may_take_up rs u)
      each u = go (t.0 == u.0) refl
        where
          go : (b : Bool) → (t.0 == u.0) ≡ b → one_if (may_take_up left u) ≤ one_if (may_take_up rs u)
          go true e = let nobody = none (is_site s (home w u)) (has_begun p u) (runs left u) (ap (has_begun p) (sym (same_txn t u e)) ∙ begun) in omega (arith, nobody)
          go false e = fewer_by (is_site s (home w u) && not (has_begun p u)) (runs rs u) (runs left u) (runs_kept t rs u e)

  -- with their programs gone, as many more may be taken up
  pub idle_lost : (rs : List Running) → idle [] ≤ idle rs + length rs
  idle_lost [] = omega arith
  idle_lost (r ∷ rs) =
      let rest = idle_lost rs in
      let each = sum_grows (λ t. one_if (may_take_up rs t)) (λ t. one_if (may_take_up (r ∷ rs) t) + one_if (is_txn r.txn t)) one (txns w) in
      let both = sum_of_sums (λ t. one_if (may_take_up (r ∷ rs) t)) (λ t. one_if (is_txn r.txn t)) (txns w) in
      let once = one_txn r.txn 1 (length w.programs * (w.restarts + 1)) in
      omega (arith, rest, each, both, once)
    where
      more : (a b c d : Bool) → (c ≡ true → d ≡ true) → one_if (a && not b) ≤ one_if (a && not (c || b)) + one_if d
      more a b true d q = let one : one_if d ≡ 1 = ap one_if (q refl) in let few = most (a && not b) in omega (arith, one, few)
        where
          most : (b : Bool) → one_if b ≤ 1
          most true = omega arith
          most false = omega arith
      more a b false d q = omega arith

      turned : (a b : ℕ) → (a == b) ≡ true → (b == a) ≡ true
      turned a b q = grind (arith, common_steps, q)

      one : (t : Txn) → one_if (may_take_up rs t) ≤ one_if (may_take_up (r ∷ rs) t) + one_if (is_txn r.txn t)
      one t = more (is_site s (home w t) && not (has_begun p t)) (runs rs t) (r.txn.0 == t.0) (t.0 == r.txn.0) (turned r.txn.0 t.0)

  -- programs of different transactions, all at home here, are no more than these transactions
  abbrev pub IsAtHome : Running → Type 0
  IsAtHome r = (has_txn (txns w) r.txn ≡ true) × (is_site s (home w r.txn) ≡ true)

  pub few_run : (rs : List Running) → Ascend rs → AllByRecursion IsAtHome rs → length rs ≤ count_by (λ t. is_site s (home w t) && runs rs t) (txns w)
  few_run [] a own = omega arith
  few_run (r ∷ rs) a own =
      let rest = few_run rs a.1 own.1 in
      let less = count_less (λ t. is_site s (home w t) && runs rs t) (λ t. is_site s (home w t) && runs (r ∷ rs) t) r.txn each fails passes (txns w) own.0.0 in
      omega (arith, rest, less)
    where
      behind : (rs : List Running) → AllByRecursion (IsBehind r.txn) rs → runs rs r.txn ≡ false
      behind [] a = refl
      behind (q ∷ qs) a = ap (λ b. b || runs qs r.txn) (other r.txn.0 q.txn.0 a.0) ∙ behind qs a.1
        where
          other : (a b : ℕ) → a < b → (b == a) ≡ false
          other a b q = grind (arith, q)

      fails : (is_site s (home w r.txn) && runs rs r.txn) ≡ false
      fails = ap (λ b. b && runs rs r.txn) own.0.1 ∙ behind rs a.0

      passes : (is_site s (home w r.txn) && runs (r ∷ rs) r.txn) ≡ true
      passes = ap (λ b. b && runs (r ∷ rs) r.txn) own.0.1 ∙ ap (λ b. b || runs rs r.txn) (self r.txn.0)

      more : (a b c : Bool) → one_if (a && b) ≤ one_if (a && (c || b))
      more true true true = omega arith
      more true false true = omega arith
      more true b false = omega arith
      more false b c = omega arith

      each : (t : Txn) → one_if (is_site s (home w t) && runs rs t) ≤ one_if (is_site s (home w t) && runs (r ∷ rs) t)
      each t = more (is_site s (home w t)) (runs rs t) (r.txn.0 == t.0)
