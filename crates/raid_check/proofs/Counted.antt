-- Tests of all that are counted, or of any.
use Rattle.std.proofs.Common.{◌≡◌, ℕ, suc, ◌+◌, Bool, true, false, ◌&&◌, ◌||◌, map, ap, sym, ◌∙◌}
use Rattle.std.specs.List.{list_any, list_all}
use Rattle.raid_workload.specs.Parts.{count_from}

pub all_step : {X : Type 0} (f : X → Bool) (h : ℕ → X) (k m r : ℕ) → m ≡ suc r → f (h k) ≡ true → list_all f (map h (count_from (k + 1) r)) ≡ list_all f (map h (count_from k m))
all_step f h k m r e q =
    sym (ap (λ n. list_all f (map h (count_from k n))) e ∙ ap (λ b. b && list_all f (map h (count_from (k + 1) r))) q)

pub all_stop : {X : Type 0} (f : X → Bool) (h : ℕ → X) (k m r : ℕ) → m ≡ suc r → f (h k) ≡ false → list_all f (map h (count_from k m)) ≡ false
all_stop f h k m r e q = ap (λ n. list_all f (map h (count_from k n))) e ∙ ap (λ b. b && list_all f (map h (count_from (k + 1) r))) q

pub all_done : {X : Type 0} (f : X → Bool) (h : ℕ → X) (k m : ℕ) → m ≡ 0 → list_all f (map h (count_from k m)) ≡ true
all_done f h k m e = ap (λ n. list_all f (map h (count_from k n))) e

pub any_step : {X : Type 0} (f : X → Bool) (h : ℕ → X) (k m r : ℕ) → m ≡ suc r → f (h k) ≡ false → list_any f (map h (count_from (k + 1) r)) ≡ list_any f (map h (count_from k m))
any_step f h k m r e q =
    sym (ap (λ n. list_any f (map h (count_from k n))) e ∙ ap (λ b. b || list_any f (map h (count_from (k + 1) r))) q)

pub any_stop : {X : Type 0} (f : X → Bool) (h : ℕ → X) (k m r : ℕ) → m ≡ suc r → f (h k) ≡ true → list_any f (map h (count_from k m)) ≡ true
any_stop f h k m r e q = ap (λ n. list_any f (map h (count_from k n))) e ∙ ap (λ b. b || list_any f (map h (count_from (k + 1) r))) q

pub any_done : {X : Type 0} (f : X → Bool) (h : ℕ → X) (k m : ℕ) → m ≡ 0 → list_any f (map h (count_from k m)) ≡ false
any_done f h k m e = ap (λ n. list_any f (map h (count_from k n))) e
