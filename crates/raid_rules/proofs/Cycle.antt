-- Cycles: as lists and as paths, and where each of a list has a predecessor there.
use Rattle.std.proofs.Common.{◌≡◌, ℕ, zero, suc, ◌<◌, ◌≤◌, ◌⊎◌, inl, inr, Bool, true, false, not, ◌||◌, ◌==◌, if◌then◌else◌, List, [], ◌∷◌, ◌++◌, arith, sym, ◌∙◌, ap, subst, refl}
use Rattle.std.proofs.lemmas.Bool.{true≢false, cases_Bool, or_left, eqb-true}
use Rattle.std.proofs.lemmas.Grind.{common_steps}
use Rattle.raid_base.specs.declared.names.Txn.{Txn}
use Rattle.raid_base.specs.Names.{is_txn, has_txn}
use Rattle.raid_rules.specs.Conflict.{Path, one, cons}
use Rattle.raid_rules.specs.Committed.{IsChain, IsCycle, up_to}
use Rattle.raid_rules.proofs.Push.{same_txn}
use Rattle.raid_rules.proofs.Reach.{many}
use Rattle.raid_rules.proofs.Txns.{eq_self, off, out, out_cons, many_less, many_any}

-- a chain that ends somewhere is a path there
pub chain_path : {R : Txn → Txn → Type 0} (t u : Txn) (ts : List Txn) → IsChain R t (ts ++ u ∷ []) → Path R t u
chain_path t u [] c = one c.0
chain_path t u (v ∷ ts) c = cons c.0 (chain_path v u ts c.1)

-- a cycle is a path from a transaction to itself
pub cycle_path : (R : Txn → Txn → Type 0) (ts : List Txn) → IsCycle R ts → (t : Txn) × Path R t t
cycle_path R [] c = absurd c
cycle_path R (t ∷ ts) c = (t, chain_path t t ts c)

-- a chain of one relation is one of a weaker
pub chain_map : (R S : Txn → Txn → Type 0) → ((t u : Txn) → R t u → S t u) → (t : Txn) (ts : List Txn) → IsChain R t ts → IsChain S t ts
chain_map R S h t [] c = c
chain_map R S h t (u ∷ us) c = (h t u c.0, chain_map R S h u us c.1)

pub cycle_map : (R S : Txn → Txn → Type 0) → ((t u : Txn) → R t u → S t u) → (ts : List Txn) → IsCycle R ts → IsCycle S ts
cycle_map R S h [] c = c
cycle_map R S h (t ∷ ts) c = chain_map R S h t (ts ++ t ∷ []) c

-- a chain from t, cut off where it comes to p, goes on to where the relation leads from p
pub back_from : (R : Txn → Txn → Type 0) (p z : Txn) → R p z → (t : Txn) (ts : List Txn) → IsChain R t ts → has_txn (t ∷ ts) p ≡ true → IsChain R t ((if is_txn p t then [] else up_to p ts) ++ z ∷ [])
back_from R p z r t [] c h = go (is_txn p t) refl h
  where
    go : (b : Bool) → is_txn p t ≡ b → (b || false) ≡ true → IsChain R t ((if b then [] else up_to p []) ++ z ∷ [])
    go true e k = (subst (λ v. R v z) (sym (same_txn t p e)) r, tt)
    go false e k = absurd (true≢false (sym k))
back_from R p z r t (u ∷ us) c h = go (is_txn p t) refl (back_from R p z r u us c.1)
  where
    go : (b : Bool) → is_txn p t ≡ b → (has_txn (u ∷ us) p ≡ true → IsChain R u ((if is_txn p u then [] else up_to p us) ++ z ∷ [])) → IsChain R t ((if b then [] else up_to p (u ∷ us)) ++ z ∷ [])
    go true e k = (subst (λ v. R v z) (sym (same_txn t p e)) r, tt)
    go false e k = (c.0, k (grind (arith, common_steps, h, e)))

-- a chain that comes back to one of its own is a cycle
pub is_back : (R : Txn → Txn → Type 0) (p t : Txn) (ts : List Txn) → IsChain R t ts → has_txn (t ∷ ts) p ≡ true → R p t → IsCycle R (up_to p (t ∷ ts))
is_back R p t ts c h r = back_from R p t r t ts c h

-- where each of a list has a predecessor in it, there is a cycle
module _ (R : Txn → Txn → Type 0) (all : List Txn) (pred : (u : Txn) → has_txn all u ≡ true → (v : Txn) × (has_txn all v ≡ true) × R v u) where
  walk : (k : ℕ) (t : Txn) (ts : List Txn) → many (out (t ∷ ts)) all < k → IsChain R t ts → has_txn all t ≡ true → (z : Txn) × Path R z z
  walk zero t ts l c h = absurd (omega (arith, l))
  walk (suc k) t ts l c h =
      let f : (v : Txn) × (has_txn all v ≡ true) × R v t = pred t h in
      let p : Txn = f.0 in
      elim (cases_Bool (has_txn (t ∷ ts) p)) [
        | inl e ↦ cycle_path R (up_to p (t ∷ ts)) (is_back R p t ts c e f.2)
        | inr e ↦ let less = many_less (out (t ∷ ts)) (out (p ∷ t ∷ ts)) (out_cons (t ∷ ts) p) p (ap not e) (ap not (or_left _ _ (eq_self p.0 p.0 refl))) all f.1 in
            walk k p (t ∷ ts) (omega (arith, l, less)) (f.2, c) f.1
      ]

  pub stuck : (t : Txn) → has_txn all t ≡ true → (z : Txn) × Path R z z
  stuck t h = walk (suc (many (out (t ∷ [])) all)) t [] (omega arith) tt h

-- a walk back: from its first along the edges to where it began
pub record IsWalk (R : Txn → Txn → Type 0) (walk : List Txn) (t : Txn) : Type 0 where
  pub rest : List Txn
  pub is : walk ≡ t ∷ rest
  pub chain : IsChain R t rest

pub walk_back : (R : Txn → Txn → Type 0) (walk : List Txn) (p t : Txn) → IsWalk R walk t → has_txn walk p ≡ true → R p t → IsCycle R (up_to p walk)
walk_back R walk p t w h r = subst (λ ts. IsCycle R (up_to p ts)) (sym w.is) (is_back R p t w.rest w.chain (subst (λ ts. has_txn ts p ≡ true) w.is h) r)

pub walk_on : (R : Txn → Txn → Type 0) (walk : List Txn) (p t : Txn) → IsWalk R walk t → R p t → IsWalk R (p ∷ walk) p
walk_on R walk p t w r = record { rest = walk; is = refl; chain = subst (IsChain R p) (sym w.is) (r, w.chain) }

-- with each step fewer are out of it
pub walk_less : (walk all : List Txn) (p : Txn) → has_txn all p ≡ true → has_txn walk p ≡ false → many (out (p ∷ walk)) all < many (out walk) all
walk_less walk all p i h = many_less (out walk) (out (p ∷ walk)) (out_cons walk p) p (ap not h) (ap not (or_left _ _ (eq_self p.0 p.0 refl))) all i
