-- One more site with its first session.
use Rattle.std.proofs.Common.{◌≡◌, ℕ, zero, suc, ◌+◌, ◌-◌, ◌<◌, ◌++◌, ◌∷◌, List, replicate, set, arith, ap, sym, ◌∙◌, refl}

step : (k n : ℕ) → set {A = ℕ} (replicate k 1 ++ replicate (suc n) 0) k 1 ≡ replicate (suc k) 1 ++ replicate n 0
step zero n = refl
step (suc k) n = ap (λ l. 1 ∷ l) (step k n)

pub one_more : (k sites : ℕ) → k < sites → set {A = ℕ} (replicate k 1 ++ replicate (sites - k) 0) k 1 ≡ replicate (k + 1) 1 ++ replicate (sites - (k + 1)) 0
one_more k sites below =
    let e : sites - k ≡ suc (sites - (k + 1)) = omega (arith, below) in
    let f : suc k ≡ k + 1 = omega arith in
    ap (λ j. set {A = ℕ} (replicate k 1 ++ replicate j 0) k 1) e ∙ step k (sites - (k + 1)) ∙ ap (λ j. replicate j 1 ++ replicate (sites - (k + 1)) 0) f
