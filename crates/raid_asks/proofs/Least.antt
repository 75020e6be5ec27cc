-- The first number of a range that passes a test, the next transaction of a home, and the next attempt at a program.
use Rattle.std.proofs.Common.{◌≡◌, ◌⊎◌, inl, inr, ℕ, zero, suc, ◌+◌, ◌-◌, ◌*◌, ◌/◌, ◌%◌, ◌<◌, ◌≤◌, ◌==◌, nat_lt, Bool, true, false, not, ◌&&◌, ◌||◌, length, map, find, Option, Some, None, if◌then◌else◌, arith, sym, subst, ap, ◌∙◌, refl}
use Rattle.std.specs.Option.{option_map_or}
use Rattle.std.specs.Prelude.{slice_get}
use Rattle.std.proofs.Math.Nat.{add-div_right, add-mod_right, div-lt_iff_lt-mul}
use Rattle.std.proofs.lemmas.Bool.{and_parts, and_from, eqb-true, true≢false}
use Rattle.std.proofs.lemmas.Grind.{common_steps}
use Rattle.raid_base.specs.declared.names.Txn.{Txn}
use Rattle.raid_base.specs.declared.names.Site.{Site}
use Rattle.raid_base.specs.Names.{is_site, has_txn}
use Rattle.raid_base.specs.Sites.{site}
use Rattle.raid_workload.specs.declared.workload.Workload.{Workload}
use Rattle.raid_workload.specs.declared.workload.Homed.{Homed}
use Rattle.raid_workload.specs.Parts.{count_from, txns, home}
use Rattle.raid_legal.specs.Seen.{attempt, previous}
use Rattle.raid_steps.specs.Programs.{following, next_attempt}

abbrev pub txn : ℕ → Txn
txn k = record { 0 = k }

-- the first that passes the test, among the transactions from one number on, as many as that
pub record Found (test : Txn → Bool) (first many : ℕ) (t : Txn) : Type 0 where
  pub low : first ≤ t.0
  pub high : t.0 < first + many
  pub yes : test t ≡ true
  pub before : (j : ℕ) → first ≤ j → j < t.0 → test (txn j) ≡ false

abbrev pub Least : (Txn → Bool) → ℕ → ℕ → Option Txn → Type 0
Least test first many None = (k : ℕ) → first ≤ k → k < first + many → test (txn k) ≡ false
Least test first many (Some t) = Found test first many t

pub least : (test : Txn → Bool) (first many : ℕ) → Least test first many (find test (map txn (count_from first many)))
least test first zero = λ k low high. absurd (omega (arith, low, high))
least test first (suc many) = go (test (txn first)) refl (find test (map txn (count_from (first + 1) many))) (least test (first + 1) many)
  where
    low : (b : Bool) → test (txn first) ≡ b → (k : ℕ) → first ≤ k → k < first + 1 → test (txn k) ≡ b
    low b q k l h = subst (λ j. test (txn j) ≡ b) (let e : first ≡ k = omega (arith, l, h) in e) q

    either : (P : ℕ → Type 0) (k : ℕ) → first ≤ k → (k < first + 1 → P k) → (first + 1 ≤ k → P k) → P k
    either P k l here there = step (nat_lt k (first + 1)) refl
      where
        lt : (a b : ℕ) → nat_lt a b ≡ true → a < b
        lt a b q = grind (arith, q)

        ge : (a b : ℕ) → nat_lt a b ≡ false → b ≤ a
        ge a b q = grind (arith, q)

        step : (b : Bool) → nat_lt k (first + 1) ≡ b → P k
        step true q = here (lt k (first + 1) q)
        step false q = there (ge k (first + 1) q)

    go : (b : Bool) → test (txn first) ≡ b → (o : Option Txn) → Least test (first + 1) many o → Least test first (suc many) (if b then Some (txn first) else o)
    go true q o rest = record { low = omega arith; high = omega arith; yes = q; before = λ j l h. absurd (omega (arith, l, h)) }
    go false q None rest = λ k l h. either (λ k. test (txn k) ≡ false) k l (low false q k l) (λ m. rest k m (omega (arith, h)))
    go false q (Some t) rest = record {
      low = (let l = rest.low in omega (arith, l));
      high = (let h = rest.high in omega (arith, h));
      yes = rest.yes;
      before = λ j m i. either (λ j. test (txn j) ≡ false) j m (low false q j m) (λ n. rest.before j n i);
    }

-- the numbers that are there
has_range : (first many k : ℕ) → first ≤ k → k < first + many → has_txn (map txn (count_from first many)) (txn k) ≡ true
has_range first zero k l h = absurd (omega (arith, l, h))
has_range first (suc many) k l h = go (first == k) refl (λ l. has_range (first + 1) many k l (omega (arith, h)))
  where
    after : (first == k) ≡ false → first + 1 ≤ k
    after q = grind (arith, q, l)

    go : (b : Bool) → (first == k) ≡ b → (first + 1 ≤ k → has_txn (map txn (count_from (first + 1) many)) (txn k) ≡ true) → (b || has_txn (map txn (count_from (first + 1) many)) (txn k)) ≡ true
    go true q rest = refl
    go false q rest = rest (after q)

range_has : (first many k : ℕ) → has_txn (map txn (count_from first many)) (txn k) ≡ true → (first ≤ k) × (k < first + many)
range_has first zero k q = absurd (true≢false (sym q))
range_has first (suc many) k q = go (first == k) refl q (λ q. range_has (first + 1) many k q)
  where
    go : (b : Bool) → (first == k) ≡ b → (b || has_txn (map txn (count_from (first + 1) many)) (txn k)) ≡ true → (has_txn (map txn (count_from (first + 1) many)) (txn k) ≡ true → (first + 1 ≤ k) × (k < first + 1 + many)) → (first ≤ k) × (k < first + suc many)
    go true e r rest = (let same = eqb-true first k e in (omega (arith, same), omega (arith, same)))
    go false e r rest = (let found = rest r in (let a = found.0 in omega (arith, a), let b = found.1 in omega (arith, b)))

module _ (w : Workload) where
  abbrev many : ℕ
  many = length w.programs * (w.restarts + 1)

  pub txn_known : (k : ℕ) → 1 ≤ k → k < 1 + many → has_txn (txns w) (txn k) ≡ true
  txn_known k l h = has_range 1 many k l h

  pub known_txn : (t : Txn) → has_txn (txns w) t ≡ true → (1 ≤ t.0) × (t.0 < 1 + many)
  known_txn t q = range_has 1 many t.0 q

  module _ (s : Site) where
    -- the transaction is one of the workload's, at this home
    pub record Ours (t : Txn) : Type 0 where
      pub known : has_txn (txns w) t ≡ true
      pub at : is_site s (home w t) ≡ true

    -- the number is of a first attempt there, or 0 for none
    pub record IsFirst (t : Txn) : Type 0 where
      pub ours : Ours t
      pub first : (attempt w t == 0) ≡ true

    abbrev pub IsNext : ℕ → Type 0
    IsNext n = (n ≡ 0) ⊎ (((n == 0) ≡ false) × IsFirst (txn n))

    not_zero : (n : ℕ) → 1 ≤ n → (n == 0) ≡ false
    not_zero n q = grind (arith, q)

    -- what follows a number: a first attempt, the least with a larger number
    abbrev later : ℕ → Txn → Bool
    later n t = nat_lt n t.0 && attempt w t == 0 && is_site s (home w t)

    later_parts : (n : ℕ) (t : Txn) → later n t ≡ true → (nat_lt n t.0 ≡ true) × ((attempt w t == 0) ≡ true) × (is_site s (home w t) ≡ true)
    later_parts n t q = (let a = and_parts (nat_lt n t.0 && attempt w t == 0) (is_site s (home w t)) q in let b = and_parts (nat_lt n t.0) (attempt w t == 0) a.0 in (b.0, b.1, a.1))

    earlier : (n : ℕ) (t : Txn) → IsFirst t → later n t ≡ false → nat_lt n t.0 ≡ false
    earlier n t f q = go (nat_lt n t.0) refl
      where
        go : (b : Bool) → nat_lt n t.0 ≡ b → b ≡ false
        go true e = absurd (true≢false (sym (and_from (nat_lt n t.0 && attempt w t == 0) (is_site s (home w t)) (and_from (nat_lt n t.0) (attempt w t == 0) e f.first) f.ours.at) ∙ q))
        go false e = refl

    -- those up to a number are those before what follows it
    pub following_is : (n : ℕ) → IsNext (following w s n) × ((t : Txn) → IsFirst t → (following w s n == 0 || nat_lt t.0 (following w s n)) ≡ not (nat_lt n t.0))
    following_is n = go (find (later n) (txns w)) (least (later n) 1 many)
      where
        up_to : (n t k : ℕ) → nat_lt n t ≡ false → nat_lt n k ≡ true → (k == 0 || nat_lt t k) ≡ not (nat_lt n t)
        up_to n t k q r = grind (arith, common_steps, q, r)

        from_on : (n t k : ℕ) → nat_lt n t ≡ true → (k == 0) ≡ false → k ≤ t → (k == 0 || nat_lt t k) ≡ not (nat_lt n t)
        from_on n t k q r l = grind (arith, common_steps, q, r, l)

        below : (a b : ℕ) → nat_lt a b ≡ true → a < b
        below a b q = grind (arith, q)

        at_least : (a b : ℕ) → nat_lt a b ≡ false → b ≤ a
        at_least a b q = grind (arith, q)

        go : (o : Option Txn) → Least (later n) 1 many o → IsNext (option_map_or (λ (t : Txn). t.0) o 0) × ((t : Txn) → IsFirst t → (option_map_or (λ (t : Txn). t.0) o 0 == 0 || nat_lt t.0 (option_map_or (λ (t : Txn). t.0) o 0)) ≡ not (nat_lt n t.0))
        go None rest = (inl refl, λ t f. (let r = known_txn t f.ours.known in sym (ap not (earlier n t f (rest t.0 r.0 r.1)))))
        go (Some u) found =
            let parts = later_parts n u found.yes in
            (inr (not_zero u.0 found.low, record { ours = record { known = txn_known u.0 found.low found.high; at = parts.2 }; first = parts.1 }), λ t f. each t f (nat_lt t.0 u.0) refl)
          where
            each : (t : Txn) → IsFirst t → (b : Bool) → nat_lt t.0 u.0 ≡ b → (u.0 == 0 || nat_lt t.0 u.0) ≡ not (nat_lt n t.0)
            each t f true q = (let r = known_txn t f.ours.known in up_to n t.0 u.0 (earlier n t f (found.before t.0 r.0 (below t.0 u.0 q))) (later_parts n u found.yes).0)
            each t f false q = (let l = at_least t.0 u.0 q in let m = (later_parts n u found.yes).0 in from_on n t.0 u.0 (larger n u.0 t.0 m l) (not_zero u.0 found.low) l)
              where
                larger : (n k t : ℕ) → nat_lt n k ≡ true → k ≤ t → nat_lt n t ≡ true
                larger n k t m l = grind (arith, m, l)

  -- the next attempt
  plenty : (n t : ℕ) → 1 ≤ t → t < 1 + n * (w.restarts + 1) → 1 ≤ n
  plenty zero t l h = absurd (omega (arith, l, h))
  plenty (suc n) t l h = omega arith

  shifted : (t n : ℕ) → 1 ≤ t → t + n - 1 ≡ (t - 1) + n
  shifted t n q = omega (arith, q)

  pub attempt_next : (t : Txn) → has_txn (txns w) t ≡ true → attempt w (next_attempt w t) ≡ attempt w t + 1
  attempt_next t q =
      let r = known_txn t q in
      ap (λ k. k / length w.programs) (shifted t.0 (length w.programs) r.0) ∙ add-div_right (t.0 - 1) (plenty (length w.programs) t.0 r.0 r.1)

  pub home_next : (t : Txn) → has_txn (txns w) t ≡ true → home w (next_attempt w t) ≡ home w t
  home_next t q =
      let r = known_txn t q in
      ap (λ k. option_map_or (λ (h : Homed). h.home) (slice_get w.programs (1 + k % length w.programs - 1)) (site 0)) (shifted t.0 (length w.programs) r.0)
      ∙ ap (λ k. option_map_or (λ (h : Homed). h.home) (slice_get w.programs (1 + k - 1)) (site 0)) (add-mod_right (t.0 - 1) (length w.programs))

  pub previous_next : (t : Txn) → previous w (next_attempt w t) ≡ t
  previous_next t = ap txn (back t.0 (length w.programs))
    where
      back : (a b : ℕ) → a + b - b ≡ a
      back a b = omega arith

  pub known_next : (t : Txn) → has_txn (txns w) t ≡ true → attempt w t < w.restarts → has_txn (txns w) (next_attempt w t) ≡ true
  known_next t q more =
      let r = known_txn t q in
      let some = plenty (length w.programs) t.0 r.0 r.1 in
      let short = (div-lt_iff_lt-mul some).0 more in
      txn_known (t.0 + length w.programs) (let l = r.0 in omega (arith, l)) (room (t.0) (length w.programs) w.restarts r.0 short)
    where
      room : (t n k : ℕ) → 1 ≤ t → t - 1 < k * n → t + n < 1 + n * (k + 1)
      room t n k l h = grind (arith, l, h)

  pub ours_next : (s : Site) (t : Txn) → Ours s t → attempt w t < w.restarts → Ours s (next_attempt w t)
  ours_next s t o more = record { known = known_next t o.known more; at = ap (is_site s) (home_next t o.known) ∙ o.at }
