-- Turns of a list in two parts are turns of the whole.
use Rattle.std.proofs.Common.{◌≡◌, ℕ, ◌+◌, List, [], ◌∷◌, ◌++◌, arith, subst, OnOk, IsOk, Result, Ok, Err, All, ◌<◌, append_assoc, inl, inr}
use Rattle.std.proofs.lemmas.List.Elements.{All-nil, All-cons, All-head, All-tail}
use Rattle.raid_link.specs.Laws.{SomeOf}
use Rattle.raid_rounds.specs.Rounds.{Turned}

module _ {S : Type 0} (T : S → ℕ → S → Type 0) where
  pub Turned-append : (xs : List S) (n : ℕ) (ys zs : List S) (m : ℕ) (ws : List S) → Turned T xs n ys → Turned T zs m ws → Turned T (xs ++ zs) (n + m) (ys ++ ws)
  Turned-append [] n [] zs m ws h k = let e : m ≡ n + m = omega arith in subst (λ i. Turned T zs i ws) e k
  Turned-append [] n (y ∷ ys) zs m ws h k = absurd h
  Turned-append (x ∷ xs) n [] zs m ws h k = absurd h
  Turned-append (x ∷ xs) n (y ∷ ys) zs m ws h k = (h.0, h.1 + m, h.2, Turned-append xs h.1 ys zs m ws h.3 k, omega arith)

  pub turned_both : {A B E : Type 0} (q : Result A E) (r s : Result B E) (all xs ys zs ws : List S) → OnOk q (IsOk r × IsOk s) → all ≡ xs ++ zs → OnOk r ((n : ℕ) × Turned T xs n ys) → OnOk s ((n : ℕ) × Turned T zs n ws) → OnOk q ((n : ℕ) × Turned T all n (ys ++ ws))
  turned_both (Ok c) (Ok a) (Ok b) all xs ys zs ws o e h k = (h.0 + k.0, rw e (Turned-append xs h.0 ys zs k.0 ws h.1 k.1))
  turned_both (Ok c) (Err a) s all xs ys zs ws o e h k = cc o.0
  turned_both (Ok c) (Ok a) (Err b) all xs ys zs ws o e h k = cc o.1
  turned_both (Err c) r s all xs ys zs ws o e h k = o

  -- a fact of each member before gives one of each member after
  pub turned_all : (P Q : S → Type 0) → ((x : S) (k : ℕ) (y : S) → T x k y → P x → Q y) → (xs : List S) (n : ℕ) (ys : List S) → Turned T xs n ys → All P xs → All Q ys
  turned_all P Q f [] n [] h a = All-nil Q
  turned_all P Q f [] n (y ∷ ys) h a = absurd h
  turned_all P Q f (x ∷ xs) n [] h a = absurd h
  turned_all P Q f (x ∷ xs) n (y ∷ ys) h a = All-cons Q y ys (f x h.0 y h.2 (All-head P x xs a)) (turned_all P Q f xs h.1 ys h.3 (All-tail P x xs a))

  -- where some member of which K holds takes some letter, some letter is taken
  pub turned_some : (K : S → Type 0) → ((x : S) (k : ℕ) (y : S) → T x k y → K x → 0 < k) → (xs : List S) (n : ℕ) (ys : List S) → Turned T xs n ys → SomeOf K xs → 0 < n
  turned_some K f [] n ys h a = absurd a
  turned_some K f (x ∷ xs) n [] h a = absurd h
  turned_some K f (x ∷ xs) n (y ∷ ys) h (inl a) = let p = f x h.0 y h.2 a in omega (arith, h.4)
  turned_some K f (x ∷ xs) n (y ∷ ys) h (inr a) = let p = turned_some K f xs h.1 ys h.3 a in omega (arith, h.4)

  -- a fact of the list that each turn keeps is kept by all turns
  pub turned_keeps : (W : List S → Type 0) → ((pre : List S) (x : S) (post : List S) (k : ℕ) (y : S) → T x k y → W (pre ++ x ∷ post) → W (pre ++ y ∷ post)) → (pre xs : List S) (n : ℕ) (ys : List S) → Turned T xs n ys → W (pre ++ xs) → W (pre ++ ys)
  turned_keeps W f pre [] n [] h w = w
  turned_keeps W f pre [] n (y ∷ ys) h w = absurd h
  turned_keeps W f pre (x ∷ xs) n [] h w = absurd h
  turned_keeps W f pre (x ∷ xs) n (y ∷ ys) h w =
      let one : W (pre ++ y ∷ xs) = f pre x xs h.0 y h.2 w in
      let moved : W ((pre ++ y ∷ []) ++ xs) = rw append_assoc one in
      let rest : W ((pre ++ y ∷ []) ++ ys) = turned_keeps W f (pre ++ y ∷ []) xs h.1 ys h.3 moved in
      rw append_assoc at rest

-- what each turn is, weaker
pub turned_weaker : {S : Type 0} (T U : S → ℕ → S → Type 0) → ((x : S) (k : ℕ) (y : S) → T x k y → U x k y) → (xs : List S) (n : ℕ) (ys : List S) → Turned T xs n ys → Turned U xs n ys
turned_weaker T U f [] n [] h = h
turned_weaker T U f [] n (y ∷ ys) h = absurd h
turned_weaker T U f (x ∷ xs) n [] h = absurd h
turned_weaker T U f (x ∷ xs) n (y ∷ ys) h = (h.0, h.1, f x h.0 y h.2, turned_weaker T U f xs h.1 ys h.3, h.4)
