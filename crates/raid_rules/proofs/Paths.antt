-- Paths of a relation, and what one last action adds to them.
use Rattle.std.proofs.Common.{◌≡◌, ◌⊎◌, inl, inr, refl, subst, sym}
use Rattle.raid_base.specs.declared.names.Txn.{Txn}
use Rattle.raid_rules.specs.Conflict.{Path, one, cons}
use Rattle.raid_rules.specs.Last.{Star}

pub join : (R : Txn → Txn → Type 0) → {u v w : Txn} → Path R u v → Path R v w → Path R u w
join R (one e) q = cons e q
join R (cons e p) q = cons e (join R p q)

pub star_path : (R : Txn → Txn → Type 0) (u v w : Txn) → Star R u v → Path R v w → Path R u w
star_path R u v w (inl e) q = subst (λ z. Path R z w) (sym e) q
star_path R u v w (inr p) q = join R p q

pub path_star : (R : Txn → Txn → Type 0) (u v w : Txn) → Path R u v → Star R v w → Path R u w
path_star R u v w p (inl e) = subst (λ z. Path R u z) e p
path_star R u v w p (inr q) = join R p q

pub edge_star : (R : Txn → Txn → Type 0) (u v w : Txn) → R u v → Star R v w → Star R u w
edge_star R u v w e s = inr (path_star R u v w (one e) s)

pub first_edge : (R : Txn → Txn → Type 0) → {u v : Txn} → Path R u v → (w : Txn) × R u w
first_edge R {u} {v} (one e) = (v, e)
first_edge R {u} {v} (cons {u = w} e p) = (w, e)

-- a path either avoids t or passes through it
pub through : (R S : Txn → Txn → Type 0) (t : Txn) → ((u v : Txn) → S u v → R u v ⊎ ((u ≡ t) ⊎ (v ≡ t))) → {a b : Txn} → Path S a b → Path R a b ⊎ (Star S a t × Star S t b)
through R S t f {a} {b} (one e) = elim (f a b e) [ inl r ↦ inl (one r) | inr (inl p) ↦ inr (inl p, inr (subst (λ z. Path S z b) p (one e))) | inr (inr p) ↦ inr (inr (subst (λ z. Path S a z) p (one e)), inl (sym p)) ]
through R S t f {a} {b} (cons {u = w} e p) = go (f a w e) (through R S t f p)
  where
    go : R a w ⊎ ((a ≡ t) ⊎ (w ≡ t)) → Path R w b ⊎ (Star S w t × Star S t b) → Path R a b ⊎ (Star S a t × Star S t b)
    go x (inr y) = inr (edge_star S a w t e y.0, y.1)
    go (inl r) (inl q) = inl (cons r q)
    go (inr (inl q)) (inl y) = inr (inl q, inr (subst (λ z. Path S z b) q (cons e p)))
    go (inr (inr q)) (inl y) = inr (inr (subst (λ z. Path S a z) q (one e)), inr (subst (λ z. Path S z b) q p))

-- where each new edge starts or ends at t, a new cycle passes through t
pub no_cycle : (R S : Txn → Txn → Type 0) (t : Txn) → ((u v : Txn) → S u v → R u v ⊎ ((u ≡ t) ⊎ (v ≡ t))) → ((a : Txn) → Path R a a → ⊥) → (Path S t t → ⊥) → (a : Txn) → Path S a a → ⊥
no_cycle R S t f h k a p = go (through R S t f p)
  where
    go : Path R a a ⊎ (Star S a t × Star S t a) → ⊥
    go (inl q) = h a q
    go (inr y) = two y.0 y.1
      where
        two : Star S a t → Star S t a → ⊥
        two (inl e) s = k (subst (λ z. Path S z z) e p)
        two (inr q) s = k (star_path S t a t s q)

-- where each new edge ends at t, a path is old, or comes to t by a new edge and goes on from there
module _ (R S : Txn → Txn → Type 0) (New : Txn → Type 0) (t : Txn) (last : (u v : Txn) → S u v → R u v ⊎ ((v ≡ t) × New u)) where
  pub last_path : {a b : Txn} → Path S a b → Path R a b ⊎ ((u : Txn) × Star R a u × New u × Star R t b)
  last_path {a} {b} (one e) = elim (last a b e) [ inl r ↦ inl (one r) | inr p ↦ inr (a, inl refl, p.1, inl (sym p.0)) ]
  last_path {a} {b} (cons {u = w} e p) = go (last a w e) (last_path p)
    where
      go : R a w ⊎ ((w ≡ t) × New a) → Path R w b ⊎ ((u : Txn) × Star R w u × New u × Star R t b) → Path R a b ⊎ ((u : Txn) × Star R a u × New u × Star R t b)
      go (inl r) (inl q) = inl (cons r q)
      go (inl r) (inr q) = inr (q.0, edge_star R a w q.0 r q.1, q.2, q.3)
      go (inr n) (inl q) = inr (a, inl refl, n.1, inr (subst (λ z. Path R z b) n.0 q))
      go (inr n) (inr q) = inr (a, inl refl, n.1, q.3)
