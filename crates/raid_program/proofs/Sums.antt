-- Sums, term by term.
use Rattle.std.proofs.Common.{◌≡◌, ℕ, ◌+◌, ◌<◌, length, ℤ, Bool, List, [], ◌∷◌, fold, drop, get_or, Option, Some, None, refl, add-one, drop-cons, ◌∙◌, ap, sym}
use Rattle.raid_program.specs.declared.program.Term.{Term}
use Rattle.raid_program.specs.Run.{with_term}

-- a sum that has left i64 stays away
pub gone : (r : List ℤ) (ts : List (Bool × Term)) → fold (with_term r) None ts ≡ None
gone r [] = refl
gone r (t ∷ ts) = gone r ts

-- the next term is added to the sum
pub one_more : (r : List ℤ) (ts : List (Bool × Term)) (k : ℕ) (d : Bool × Term) (sum : ℤ) → k < length ts →
    fold (with_term r) (Some sum) (drop k ts) ≡ fold (with_term r) (with_term r (Some sum) (get_or ts k d)) (drop (k + 1) ts)
one_more r ts k d sum below = rw (add-one, drop-cons ts k d) refl

-- the sum leaves i64 with the next term
pub leaves : (r : List ℤ) (ts : List (Bool × Term)) (k : ℕ) (d : Bool × Term) (sum : ℤ) (w : Option ℤ) → k < length ts →
    fold (with_term r) (Some sum) (drop k ts) ≡ w → with_term r (Some sum) (get_or ts k d) ≡ None → w ≡ None
leaves r ts k d sum w below so here = sym so ∙ one_more r ts k d sum below ∙ ap (λ a. fold (with_term r) a (drop (k + 1) ts)) here ∙ gone r (drop (k + 1) ts)

-- the sum goes on with the next term
pub goes_on : (r : List ℤ) (ts : List (Bool × Term)) (k : ℕ) (d : Bool × Term) (sum v : ℤ) (w : Option ℤ) → k < length ts →
    fold (with_term r) (Some sum) (drop k ts) ≡ w → with_term r (Some sum) (get_or ts k d) ≡ Some v →
    fold (with_term r) (Some v) (drop (k + 1) ts) ≡ w
goes_on r ts k d sum v w below so here = sym (ap (λ a. fold (with_term r) a (drop (k + 1) ts)) here) ∙ sym (one_more r ts k d sum below) ∙ so
