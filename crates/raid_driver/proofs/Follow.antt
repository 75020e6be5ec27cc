-- The transaction that a home begins next, program by program.
use Rattle.std.proofs.Common.{◌≡◌, ℕ, zero, suc, ◌+◌, ◌-◌, ◌*◌, ◌/◌, ◌%◌, ◌<◌, ◌≤◌, ◌==◌, nat_lt, Bool, true, false, ◌&&◌, map, length, Some, None, slice_get, arith, ap, sym, ◌∙◌, refl}
use Rattle.std.specs.Prelude.{find}
use Rattle.std.specs.Option.{option_map_or}
use Rattle.std.proofs.lemmas.Grind.{common_steps}
use Rattle.raid_base.specs.declared.names.Txn.{Txn}
use Rattle.raid_base.specs.declared.names.Site.{Site}
use Rattle.raid_base.specs.Names.{is_site}
use Rattle.raid_workload.specs.declared.workload.Workload.{Workload}
use Rattle.raid_workload.specs.declared.workload.Homed.{Homed}
use Rattle.raid_workload.specs.Parts.{count_from, home}
use Rattle.raid_legal.specs.Seen.{attempt}
use Rattle.raid_steps.specs.Programs.{following}

abbrev pub txn : ℕ → Txn
txn k = record { 0 = k }

-- the transaction is one that the home may begin after that number
abbrev pub may_follow : Workload → Site → ℕ → Txn → Bool
may_follow w s k t = nat_lt k t.0 && attempt w t == 0 && is_site s (home w t)

-- how many transactions there are
abbrev pub count : Workload → ℕ
count w = length w.programs * (w.restarts + 1)

-- the number of the first that passes among those from a number on, 0 where none does
abbrev pub first_from : (Txn → Bool) → ℕ → ℕ → ℕ
first_from test n a = option_map_or (λ (t : Txn). t.0) (find test (map txn (count_from a (n + 1 - a)))) 0

abbrev pub from_on : Workload → Site → ℕ → ℕ → ℕ
from_on w s k a = first_from (may_follow w s k) (count w) a

-- the number passes, or the next one is looked at
step_from : (test : Txn → Bool) (a m : ℕ) → test (txn a) ≡ false → find test (map txn (count_from a (suc m))) ≡ find test (map txn (count_from (a + 1) m))
step_from test a m other = rw other refl

skip_by : (test : Txn → Bool) (a m : ℕ) → test (txn a) ≡ false → find test (map txn (count_from a m)) ≡ find test (map txn (count_from (a + 1) (m - 1)))
skip_by test a zero other = refl
skip_by test a (suc m) other = step_from test a m other ∙ ap (λ k. find test (map txn (count_from (a + 1) k))) (let e : m ≡ suc m - 1 = omega arith in e)

skip : (test : Txn → Bool) (n a : ℕ) → test (txn a) ≡ false → first_from test n a ≡ first_from test n (a + 1)
skip test n a other =
    ap (λ o. option_map_or (λ (t : Txn). t.0) o 0) (skip_by test a (n + 1 - a) other ∙ ap (λ k. find test (map txn (count_from (a + 1) k))) (let e : n + 1 - a - 1 ≡ n + 1 - (a + 1) = omega arith in e))

none_by : (test : Txn → Bool) (a m : ℕ) → ((b : ℕ) → a ≤ b → test (txn b) ≡ false) → find test (map txn (count_from a m)) ≡ None
none_by test a zero others = refl
none_by test a (suc m) others = step_from test a m (others a (omega arith)) ∙ none_by test (a + 1) m (λ b h. others b (omega (arith, h)))

here_by : (test : Txn → Bool) (a m : ℕ) → test (txn a) ≡ true → find test (map txn (count_from a (suc m))) ≡ Some (txn a)
here_by test a m this = rw this refl

here : (test : Txn → Bool) (n a : ℕ) → a ≤ n → test (txn a) ≡ true → first_from test n a ≡ a
here test n a within this =
    let e : n + 1 - a ≡ suc (n - a) = omega (arith, within) in
    ap (λ k. option_map_or (λ (t : Txn). t.0) (find test (map txn (count_from a k))) 0) e ∙ ap (λ o. option_map_or (λ (t : Txn). t.0) o 0) (here_by test a (n - a) this)

-- no number up to the last one that began passes
pub begins_after : (w : Workload) (s : Site) (k d : ℕ) → d ≤ k → from_on w s k (d + 1) ≡ following w s k
begins_after w s k zero within = ap (λ m. option_map_or (λ (t : Txn). t.0) (find (may_follow w s k) (map txn (count_from 1 m))) 0) (let e : count w + 1 - 1 ≡ count w = omega arith in e)
begins_after w s k (suc d) within =
    let before : nat_lt k (d + 1) ≡ false = grind (arith, within) in
    let other : may_follow w s k (txn (d + 1)) ≡ false = rw before refl in
    ap (λ a. from_on w s k (a + 1)) (let e : suc d ≡ d + 1 = omega arith in e) ∙ sym (skip (may_follow w s k) (count w) (d + 1) other) ∙ begins_after w s k d (omega (arith, within))

-- a first attempt is of the program of its number
quotient : (k n : ℕ) → k < n → k / n ≡ 0
quotient k n below = grind (arith, below)

first_attempt : (w : Workload) (k : ℕ) → k < length w.programs → attempt w (txn (k + 1)) ≡ 0
first_attempt w k below = let e : k + 1 - 1 ≡ k = omega arith in rw e (quotient k (length w.programs) below)

later_attempt : (w : Workload) (b : ℕ) → length w.programs < b → 0 < length w.programs → (attempt w (txn b) == 0) ≡ false
later_attempt w b above some = grind (arith, above, some)

home_at : (w : Workload) (k : ℕ) (h : Homed) → slice_get w.programs k ≡ Some h → k < length w.programs → home w (txn (k + 1)) ≡ h.home
home_at w k h at below =
    let n = length w.programs in
    let e : 1 + (k + 1 - 1) % n - 1 ≡ k = grind (arith, below) in
    ap (λ j. option_map_or (λ (g : Homed). g.home) (slice_get w.programs j) (record { 0 = 0 })) e ∙ ap (λ o. option_map_or (λ (g : Homed). g.home) o (record { 0 = 0 })) at

-- a program of another home is passed
pub passes : (w : Workload) (s : Site) (after k : ℕ) (h : Homed) → slice_get w.programs k ≡ Some h → k < length w.programs → is_site s h.home ≡ false →
    from_on w s after (k + 1 + 1) ≡ from_on w s after (k + 1)
passes w s after k h at below other =
    let test : may_follow w s after (txn (k + 1)) ≡ false = grind (arith, common_steps, home_at w k h at below, other) in
    sym (skip (may_follow w s after) (count w) (k + 1) test)

-- a program of the home is the next one
within_all : (k n r : ℕ) → k < n → k + 1 ≤ n * (r + 1)
within_all k n r below = omega (arith, below)

pub is_next : (w : Workload) (s : Site) (after k : ℕ) (h : Homed) → slice_get w.programs k ≡ Some h → k < length w.programs → after ≤ k → is_site s h.home ≡ true → from_on w s after (k + 1) ≡ k + 1
is_next w s after k h at below from this =
    let later : nat_lt after (k + 1) ≡ true = grind (arith, from) in
    let test : may_follow w s after (txn (k + 1)) ≡ true = grind (arith, common_steps, home_at w k h at below, first_attempt w k below, later, this) in
    here (may_follow w s after) (count w) (k + 1) (within_all k (length w.programs) w.restarts below) test

-- no program is left
none_count : (w : Workload) (s : Site) (after k n : ℕ) → length w.programs ≡ n → n ≤ k → from_on w s after (k + 1) ≡ 0
none_count w s after k zero is all =
    let e : count w + 1 - (k + 1) ≡ 0 = grind (arith, is) in
    ap (λ m. option_map_or (λ (t : Txn). t.0) (find (may_follow w s after) (map txn (count_from (k + 1) m))) 0) e
none_count w s after k (suc n) is all =
    ap (λ o. option_map_or (λ (t : Txn). t.0) o 0)
    (none_by (may_follow w s after) (k + 1) (count w + 1 - (k + 1))
    (λ b h. let later = later_attempt w b (omega (arith, is, all, h)) (omega (arith, is)) in grind (arith, common_steps, later)))

pub none_left : (w : Workload) (s : Site) (after k : ℕ) → length w.programs ≤ k → from_on w s after (k + 1) ≡ 0
none_left w s after k all = none_count w s after k (length w.programs) refl all
