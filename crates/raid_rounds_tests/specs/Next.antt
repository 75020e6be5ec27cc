-- The member after a member of a ring.
use Rattle.std.proofs.Common.{◌≢◌, ℕ, ◌<◌, ◌≤◌, arith}
use Rattle.std.proofs.lemmas.Bool.Decides.{nat_tests}
use Rattle.raid_rounds_tests.specs.Ring.{next}

pub next_below : (n k : ℕ) → 2 ≤ n → k < n → next n k < n
next_below n k a b = grind (arith, nat_tests)

pub next_other : (n k : ℕ) → 2 ≤ n → k < n → k ≢ next n k
next_other n k a b = grind (arith, nat_tests)

pub next_apart : (n j k : ℕ) → j < n → k < n → j ≢ k → next n j ≢ next n k
next_apart n j k a b c = grind (arith, nat_tests)
