-- Which transaction a home begins next, program by program, and after a Begin.
use Rattle.std.proofs.Common.{◌≡◌, ℕ, zero, suc, ◌+◌, ◌-◌, ◌*◌, ◌/◌, ◌%◌, ◌<◌, ◌≤◌, ◌==◌, nat_lt, Bool, true, false, not, ◌&&◌, ◌||◌, cond, if◌then◌else◌, List, [], ◌∷◌, ◌++◌, map, length, Some, slice_get, slice_set, slice_index, get_or, get_or-set_other, get_or-set_same, true≢false, arith, ap, sym, subst, ◌∙◌, refl}
use Rattle.std.specs.Prelude.{find}
use Rattle.std.proofs.lemmas.Bool.{and_parts, eqb-true, eq-eqb}
use Rattle.std.specs.Option.{option_map_or}
use Rattle.std.proofs.lemmas.Grind.{common_steps}
use Rattle.raid_base.specs.declared.names.Txn.{Txn}
use Rattle.raid_base.specs.declared.names.Site.{Site}
use Rattle.raid_base.specs.declared.entry.Noted.{Noted}
use Rattle.raid_base.specs.Names.{is_site, has_txn}
use Rattle.raid_base.specs.declared.entry.Entry.TheVariants.{Begin}
use Rattle.raid_workload.specs.declared.workload.Workload.{Workload}
use Rattle.raid_workload.specs.declared.workload.Homed.{Homed}
use Rattle.raid_base.specs.Sites.{site}
use Rattle.raid_workload.specs.Parts.{count_from, home, txns}
use Rattle.raid_rules.specs.History.{has_begun, add, next}
use Rattle.raid_rules.proofs.Push.{has_begun_push}
use Rattle.raid_legal.specs.Seen.{attempt}
use Rattle.raid_steps.specs.Sequencer.{next_number}
use Rattle.raid_record.specs.Keeps.{next_past, AreNext}
use Rattle.raid_record.proofs.First.{txn, count, number, first_of, first_from, skip, none_by, here, skip_to, same_from, without, same_default}
use Rattle.raid_record.proofs.Rules.{from_one, IsSite, home_among}

-- the home may begin the transaction next; and it is one past a number
abbrev pub may_be_next : Workload → List Noted → Site → Txn → Bool
may_be_next w p s t = attempt w t == 0 && is_site s (home w t) && not (has_begun p t)

abbrev pub is_past : Workload → List Noted → Site → ℕ → Txn → Bool
is_past w p s after t = nat_lt after t.0 && (attempt w t == 0 && is_site s (home w t) && not (has_begun p t))

-- no number up to the given one passes
pub begins_after : (w : Workload) (p : List Noted) (s : Site) (after : ℕ) → first_from (is_past w p s after) (count w) (after + 1) ≡ next_past w p s after
begins_after w p s after = skip_to (is_past w p s after) (count w) after (λ b h. ap (λ c. c && (attempt w (txn b) == 0 && is_site s (home w (txn b)) && not (has_begun p (txn b)))) (let e : nat_lt after b ≡ false = grind (arith, h) in e))

-- a first attempt is of the program of its number
quotient : (k n : ℕ) → k < n → k / n ≡ 0
quotient k n below = grind (arith, below)

first_attempt : (w : Workload) (k : ℕ) → k < length w.programs → attempt w (txn (k + 1)) ≡ 0
first_attempt w k below = let e : k + 1 - 1 ≡ k = omega arith in rw e (quotient k (length w.programs) below)

later_attempt : (w : Workload) (b : ℕ) → length w.programs < b → 0 < length w.programs → (attempt w (txn b) == 0) ≡ false
later_attempt w b above some = grind (arith, above, some)

home_at : (w : Workload) (k : ℕ) (h : Homed) → slice_get w.programs k ≡ Some h → k < length w.programs → home w (txn (k + 1)) ≡ h.home
home_at w k h at below =
    let n = length w.programs in
    let e : 1 + (k + 1 - 1) % n - 1 ≡ k = grind (arith, below) in
    ap (λ j. option_map_or (λ (g : Homed). g.home) (slice_get w.programs j) (record { 0 = 0 })) e ∙ ap (λ o. option_map_or (λ (g : Homed). g.home) o (record { 0 = 0 })) at

-- what is asked of the program of a number
test_at : (w : Workload) (p : List Noted) (s : Site) (after k : ℕ) (h : Homed) → slice_get w.programs k ≡ Some h → k < length w.programs → after ≤ k →
    is_past w p s after (txn (k + 1)) ≡ (is_site s h.home && not (has_begun p (txn (k + 1))))
test_at w p s after k h at below from =
    let later : nat_lt after (k + 1) ≡ true = grind (arith, from) in
    rw (later, first_attempt w k below, home_at w k h at below) refl

-- a program that doesn't pass is passed, and one that does is the next
pub passes : (w : Workload) (p : List Noted) (s : Site) (after k : ℕ) (h : Homed) → slice_get w.programs k ≡ Some h → k < length w.programs → after ≤ k →
    (is_site s h.home && not (has_begun p (txn (k + 1)))) ≡ false → first_from (is_past w p s after) (count w) (k + 1 + 1) ≡ first_from (is_past w p s after) (count w) (k + 1)
passes w p s after k h at below from other = sym (skip (is_past w p s after) (count w) (k + 1) (test_at w p s after k h at below from ∙ other))

within_all : (k n r : ℕ) → k < n → k + 1 ≤ n * (r + 1)
within_all k n r below = omega (arith, below)

pub is_next : (w : Workload) (p : List Noted) (s : Site) (after k : ℕ) (h : Homed) → slice_get w.programs k ≡ Some h → k < length w.programs → after ≤ k →
    (is_site s h.home && not (has_begun p (txn (k + 1)))) ≡ true → first_from (is_past w p s after) (count w) (k + 1) ≡ k + 1
is_next w p s after k h at below from this =
    here (is_past w p s after) (count w) (k + 1) (within_all k (length w.programs) w.restarts below) (test_at w p s after k h at below from ∙ this)

-- no program is left
none_count : (w : Workload) (p : List Noted) (s : Site) (after k n : ℕ) → length w.programs ≡ n → n ≤ k → first_from (is_past w p s after) (count w) (k + 1) ≡ 0
none_count w p s after k zero is all =
    ap (λ m. first_of (is_past w p s after) (k + 1) m) (let e : count w + 1 - (k + 1) ≡ 0 = grind (arith, is) in e)
none_count w p s after k (suc n) is all =
    none_by (is_past w p s after) (k + 1) (count w + 1 - (k + 1))
    (λ b h. let later = later_attempt w b (omega (arith, is, all, h)) (omega (arith, is)) in grind (arith, common_steps, later))

pub none_left : (w : Workload) (p : List Noted) (s : Site) (after k : ℕ) → length w.programs ≤ k → first_from (is_past w p s after) (count w) (k + 1) ≡ 0
none_left w p s after k all = none_count w p s after k (length w.programs) refl all

-- after a Begin the next one past it is next, where it was next itself
less_at : (w : Workload) (p : List Noted) (s : Site) (t : Txn) (h : Site) (b : ℕ) → may_be_next w (add p (Begin t h)) s (txn b) ≡ (may_be_next w p s (txn b) && not (b == t.0))
less_at w p s t h b =
    ap (λ c. attempt w (txn b) == 0 && is_site s (home w (txn b)) && not c) (has_begun_push p (next p (Begin t h)) (txn b))
    ∙ go (attempt w (txn b) == 0 && is_site s (home w (txn b))) (has_begun p (txn b)) (t.0 == b) (b == t.0) (let e : (t.0 == b) ≡ (b == t.0) = grind arith in e)
  where
    go : (a c d e : Bool) → d ≡ e → (a && not (c || d)) ≡ ((a && not c) && not e)
    go true true d e q = refl
    go true false d e q = ap not q
    go false c d e q = refl

pub next_begin : (w : Workload) (p : List Noted) (s : Site) (t : Txn) (h : Site) → has_txn (txns w) t ≡ true →
    next_number w (add p (Begin t h)) s ≡ (if next_number w p s == t.0 then next_past w p s t.0 else next_number w p s)
next_begin w p s t h known =
    without (may_be_next w p s) (may_be_next w (add p (Begin t h)) s) (is_past w p s t.0) t.0 1 (count w) (from_one w t known) (less_at w p s t h) (λ b. refl)

-- the first that passes does
passing : (test : Txn → Bool) (k a m : ℕ) → 1 ≤ k → first_of test a m ≡ k → test (txn k) ≡ true
passing test k a zero some e = absurd (omega (arith, some, e))
passing test k a (suc m) some e = go (test (txn a)) refl (passing test k (a + 1) m some) e
  where
    go : (b : Bool) → test (txn a) ≡ b → (first_of test (a + 1) m ≡ k → test (txn k) ≡ true) → number (cond b (Some (txn a)) (find test (map txn (count_from (a + 1) m)))) ≡ k → test (txn k) ≡ true
    go true q rest h = ap (λ j. test (txn j)) (sym h) ∙ q
    go false q rest h = rest h

next_home : (w : Workload) (p : List Noted) (s : Site) (t : Txn) → 1 ≤ t.0 → next_number w p s ≡ t.0 → is_site s (home w t) ≡ true
next_home w p s t some e = let both = and_parts (attempt w t == 0 && is_site s (home w t)) (not (has_begun p t)) (passing (may_be_next w p s) t.0 1 (count w) some e) in (and_parts (attempt w t == 0) (is_site s (home w t)) both.0).1

-- past nothing are all
pub past_zero : (w : Workload) (p : List Noted) (s : Site) → next_past w p s 0 ≡ next_number w p s
past_zero w p s = same_from (is_past w p s 0) (may_be_next w p s) 1 (count w) (λ b h. ap (λ c. c && may_be_next w p s (txn b)) (let e : nat_lt 0 b ≡ true = grind (arith, h) in e))

-- a home's number put in its place
set_here : (numbers : List ℕ) (k x : ℕ) → k < length numbers → slice_index (slice_set numbers k x) k ≡ x
set_here numbers k x below = get_or-set_same numbers k x 0 below

set_there : (numbers : List ℕ) (k j x : ℕ) → (k == j) ≡ false → slice_index (slice_set numbers k x) j ≡ slice_index numbers j
set_there numbers k j x e = get_or-set_other numbers k j x 0 (λ h. true≢false (sym (eq-eqb k j (sym h)) ∙ e))

pub next_set : (w : Workload) (p : List Noted) (numbers : List ℕ) (t : Txn) (h : Site) (x d : ℕ) → length numbers ≡ 8 → has_txn (txns w) t ≡ true →
    x ≡ (if get_or numbers ((home w t).0 - 1) d == t.0 then next_past w p (home w t) t.0 else get_or numbers ((home w t).0 - 1) d) →
    AreNext w numbers p → AreNext w (slice_set numbers ((home w t).0 - 1) x) (add p (Begin t h))
next_set w p numbers t h x d size known is next s least most = go ((home w t).0 - 1 == s.0 - 1) refl
  where
    at : Site
    at = home w t

    within : IsSite 8 at
    within = home_among w t known

    there : at.0 - 1 < length numbers
    there = omega (arith, size, within.least, within.most)

    default : get_or numbers (at.0 - 1) d ≡ slice_index numbers (at.0 - 1)
    default = same_default numbers (at.0 - 1) d 0 there

    same : (at.0 - 1 == s.0 - 1) ≡ true → s ≡ at
    same q = ap site (let e : s.0 ≡ at.0 = omega (arith, eqb-true (at.0 - 1) (s.0 - 1) q, least, within.least) in e)

    here : slice_index (slice_set numbers (at.0 - 1) x) (at.0 - 1) ≡ next_number w (add p (Begin t h)) at
    here =
        set_here numbers (at.0 - 1) x there ∙ is
        ∙ ap (λ k. if k == t.0 then next_past w p at t.0 else k) (default ∙ next at within.least within.most)
        ∙ sym (next_begin w p at t h known)

    apart : (at.0 - 1 == s.0 - 1) ≡ false → (next_number w p s == t.0) ≡ false
    apart q = differs (next_number w p s == t.0) refl
      where
        differs : (b : Bool) → (next_number w p s == t.0) ≡ b → b ≡ false
        differs false e = refl
        differs true e =
            let own : (at.0 == s.0) ≡ true = next_home w p s t (from_one w t known) (eqb-true (next_number w p s) t.0 e) in
            absurd (true≢false (sym (eq-eqb (at.0 - 1) (s.0 - 1) (omega (arith, eqb-true at.0 s.0 own))) ∙ q))

    go : (b : Bool) → (at.0 - 1 == s.0 - 1) ≡ b → slice_index (slice_set numbers (at.0 - 1) x) (s.0 - 1) ≡ next_number w (add p (Begin t h)) s
    go true q = subst (λ z. slice_index (slice_set numbers (at.0 - 1) x) (z.0 - 1) ≡ next_number w (add p (Begin t h)) z) (sym (same q)) here
    go false q =
        set_there numbers (at.0 - 1) (s.0 - 1) x q ∙ next s least most
        ∙ sym (next_begin w p s t h known ∙ ap (λ b. if b then next_past w p s t.0 else next_number w p s) (apart q))

-- one more number at the end
pub pushed_here : (numbers : List ℕ) (x : ℕ) → slice_index (numbers ++ x ∷ []) (length numbers) ≡ x
pushed_here [] x = refl
pushed_here (n ∷ ns) x = pushed_here ns x

pub pushed_before : (numbers : List ℕ) (x k : ℕ) → k < length numbers → slice_index (numbers ++ x ∷ []) k ≡ slice_index numbers k
pushed_before [] x k below = absurd (omega (arith, below))
pushed_before (n ∷ ns) x zero below = refl
pushed_before (n ∷ ns) x (suc k) below = pushed_before ns x k (omega (arith, below))

pub numbers_more : (w : Workload) (p : List Noted) (numbers more : List ℕ) (x n : ℕ) → 1 ≤ n → length numbers ≡ n - 1 → more ≡ numbers ++ x ∷ [] → x ≡ next_past w p (site n) 0 →
    ((s : Site) → 1 ≤ s.0 → s.0 < n → slice_index numbers (s.0 - 1) ≡ next_number w p s) → (s : Site) → 1 ≤ s.0 → s.0 < n + 1 → slice_index more (s.0 - 1) ≡ next_number w p s
numbers_more w p numbers more x n some size e is before s least below = go (s.0 == n) refl
  where
    this : s.0 ≡ n → slice_index (numbers ++ x ∷ []) (s.0 - 1) ≡ next_number w p s
    this q =
        ap (λ k. slice_index (numbers ++ x ∷ []) k) (let e : s.0 - 1 ≡ length numbers = omega (arith, q, size) in e)
        ∙ pushed_here numbers x ∙ is ∙ past_zero w p (site n) ∙ ap (λ k. next_number w p (site k)) (sym q)

    go : (b : Bool) → (s.0 == n) ≡ b → slice_index more (s.0 - 1) ≡ next_number w p s
    go true q = ap (λ xs. slice_index xs (s.0 - 1)) e ∙ this (eqb-true s.0 n q)
    go false q =
        let less : s.0 < n = grind (arith, q, below) in
        ap (λ xs. slice_index xs (s.0 - 1)) e ∙ pushed_before numbers x (s.0 - 1) (omega (arith, size, less, least)) ∙ before s least less
