-- What nodes do in a round, and in rounds one after another.
use Rattle.std.proofs.Common.{◌≡◌, ℕ, zero, suc, ◌+◌, ◌<◌, ◌≤◌, List, [], ◌∷◌, ◌++◌, Bool, true, length, arith, refl, length-append}
use Rattle.std.specs.Prelude.{slice_index_or}
use Rattle.raid_workload.specs.declared.workload.Workload.{Workload}
use Rattle.raid_causes.specs.Histories.{History}
use Rattle.raid_rounds.specs.Rounds.{Turned, Reached}
use Rattle.raid_nodes.specs.Turns.{Fetched, Took, TurnMade}
use Rattle.raid_nodes.specs.Settled.{Settled}
use Rattle.raid_nodes.specs.Ran.{all_steps}
use Rattle.raid_nodes.specs.declared.node.ServerNode.{ServerNode}
use Rattle.raid_nodes.proofs.Fetches.{took_fetched, took_more}

module _ {V : Type 0} {D : V → Type 0} (w : Workload) where
  -- each node has taken letters, so many in all
  abbrev pub Together : List (ServerNode V D) → ℕ → List (ServerNode V D) → Type 0
  Together [] n [] = n ≡ 0
  Together [] n (y ∷ ys) = ⊥
  Together (x ∷ xs) n [] = ⊥
  Together (x ∷ xs) n (y ∷ ys) = (h : History) × (m : ℕ) × Took w x h y × Together xs m ys × (n ≡ length h + m)

  together_more : (xs ys zs : List (ServerNode V D)) (n m : ℕ) → Together xs n ys → Together ys m zs → Together xs (n + m) zs
  together_more [] [] [] n m p q = omega (arith, p, q)
  together_more [] [] (z ∷ zs) n m p q = absurd q
  together_more [] (y ∷ ys) zs n m p q = absurd p
  together_more (x ∷ xs) [] zs n m p q = absurd p
  together_more (x ∷ xs) (y ∷ ys) [] n m p q = absurd q
  together_more (x ∷ xs) (y ∷ ys) (z ∷ zs) n m p q =
      let e : length (p.0 ++ q.0) ≡ length p.0 + length q.0 = length-append p.0 q.0 in
      let a : n ≡ length p.0 + p.1 = p.4 in
      let b : m ≡ length q.0 + q.1 = q.4 in
      (p.0 ++ q.0, p.1 + q.1, took_more w x y z p.0 q.0 p.2 q.2, together_more xs ys zs p.1 q.1 p.3 q.3, omega (arith, e, a, b))

  together_turned : (E : ServerNode V D → ServerNode V D → Type 0) (xs : List (ServerNode V D)) (n : ℕ) (ys : List (ServerNode V D)) → Turned (λ x n y. TurnMade w x n y × E x y) xs n ys → Together xs n ys
  together_turned E [] n [] t = t
  together_turned E [] n (y ∷ ys) t = absurd t
  together_turned E (x ∷ xs) n [] t = absurd t
  together_turned E (x ∷ xs) n (y ∷ ys) t =
      let made : TurnMade w x t.0 y = t.2.0 in
      let c : t.0 ≡ length made.history = made.count in
      let e : n ≡ t.0 + t.1 = t.4 in
      (made.history, t.1, made.took, together_turned E xs t.1 ys t.3, omega (arith, c, e))

  together_settled : (xs ys : List (ServerNode V D)) → length ys ≡ length xs → ((k : ℕ) (d : ServerNode V D) → k < length xs → Fetched (slice_index_or xs k d) [] (slice_index_or ys k d)) → Together xs 0 ys
  together_settled [] [] l f = refl
  together_settled [] (y ∷ ys) l f = absurd (omega (arith, l))
  together_settled (x ∷ xs) [] l f = absurd (omega (arith, l))
  together_settled (x ∷ xs) (y ∷ ys) l f = ([], 0, took_fetched w x y (f 0 x (omega arith)), together_settled xs ys (omega (arith, l)) (λ k d h. f (suc k) d (omega (arith, h))), omega arith)

  -- what rounds have done: at least a letter in each, and at the end the links were settled
  pub reached_together : (E : ServerNode V D → ServerNode V D → Type 0) (n : ℕ) (xs : List (ServerNode V D)) (b : Bool) (ys : List (ServerNode V D)) → Reached (λ x n y. TurnMade w x n y × E x y) Settled n xs b ys →
      (m : ℕ) × (n ≤ m) × Together xs m ys × (mid : List (ServerNode V D)) × Settled mid b ys
  reached_together E zero xs b ys r = (0, omega arith, together_settled xs ys r.long r.kept, xs, r)
  reached_together E (suc n) xs b ys (last, before, made) =
      let p = reached_together E n xs true last before in
      let low : n ≤ p.0 = p.1 in
      let some : 0 < made.count = made.some in
      let turned : Together last made.count made.mid = together_turned E last made.count made.mid made.turned in
      let settled : Together made.mid 0 ys = together_settled made.mid ys made.settled.long made.settled.kept in
      (p.0 + (made.count + 0), omega (arith, low, some), together_more xs last ys p.0 (made.count + 0) p.2 (together_more last made.mid ys made.count 0 turned settled), made.mid, made.settled)

  pub together_long : (xs : List (ServerNode V D)) (n : ℕ) (ys : List (ServerNode V D)) → Together xs n ys → length ys ≡ length xs
  together_long [] n [] t = refl
  together_long [] n (y ∷ ys) t = absurd t
  together_long (x ∷ xs) n [] t = absurd t
  together_long (x ∷ xs) n (y ∷ ys) t = let e : length ys ≡ length xs = together_long xs t.1 ys t.3 in omega (arith, e)

  -- the history of each node, by its number
  pub history_of : (xs : List (ServerNode V D)) (n : ℕ) (ys : List (ServerNode V D)) → Together xs n ys → ℕ → History
  history_of [] n [] t k = []
  history_of [] n (y ∷ ys) t k = absurd t
  history_of (x ∷ xs) n [] t k = absurd t
  history_of (x ∷ xs) n (y ∷ ys) t zero = t.0
  history_of (x ∷ xs) n (y ∷ ys) t (suc k) = history_of xs t.1 ys t.3 k

  pub took_at : (xs : List (ServerNode V D)) (n : ℕ) (ys : List (ServerNode V D)) (t : Together xs n ys) (k : ℕ) (d : ServerNode V D) → k < length xs → Took w (slice_index_or xs k d) (history_of xs n ys t k) (slice_index_or ys k d)
  unfolding history_of
  took_at [] n [] t k d low = absurd (omega (arith, low))
  took_at [] n (y ∷ ys) t k d low = absurd t
  took_at (x ∷ xs) n [] t k d low = absurd t
  took_at (x ∷ xs) n (y ∷ ys) t zero d low = t.2
  took_at (x ∷ xs) n (y ∷ ys) t (suc k) d low = took_at xs t.1 ys t.3 k d (omega (arith, low))

  pub none_past : (xs : List (ServerNode V D)) (n : ℕ) (ys : List (ServerNode V D)) (t : Together xs n ys) (k : ℕ) → length xs ≤ k → history_of xs n ys t k ≡ []
  unfolding history_of
  none_past [] n [] t k past = refl
  none_past [] n (y ∷ ys) t k past = absurd t
  none_past (x ∷ xs) n [] t k past = absurd t
  none_past (x ∷ xs) n (y ∷ ys) t zero past = absurd (omega (arith, past))
  none_past (x ∷ xs) n (y ∷ ys) t (suc k) past = none_past xs t.1 ys t.3 k (omega (arith, past))

  -- each letter is a step
  pub together_steps : (xs : List (ServerNode V D)) (n : ℕ) (ys : List (ServerNode V D)) → Together xs n ys → all_steps ys ≡ all_steps xs + n
  together_steps [] n [] t = omega (arith, t)
  together_steps [] n (y ∷ ys) t = absurd t
  together_steps (x ∷ xs) n [] t = absurd t
  together_steps (x ∷ xs) n (y ∷ ys) t =
      let a : length y.journal ≡ length x.journal + length t.0 = t.2.steps in
      let b : all_steps ys ≡ all_steps xs + t.1 = together_steps xs t.1 ys t.3 in
      let c : n ≡ length t.0 + t.1 = t.4 in
      omega (arith, a, b, c)
