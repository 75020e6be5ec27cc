-- When pairs are one.
use Rattle.std.proofs.Common.{◌≡◌, ◌==◌, ℤ, true, ◌&&◌, ap}
use Rattle.std.specs.Ordering.{int_eq}
use Rattle.std.specs.Bool.{Decides}
use Rattle.std.proofs.lemmas.Bool.{and_parts, and_from, eqb-true, eq-eqb}
use Rattle.std.proofs.lemmas.Bool.Decides.{Decides-int_eq}
use Rattle.raid_base.specs.declared.names.Item.{Item}

same_item : (x y : Item) → (x.0 == y.0) ≡ true → x ≡ y
same_item x y e = ap (λ k. let r : Item = record { 0 = k } in r) (eqb-true x.0 y.0 e)

pub is_same_pair : (p q : Item × ℤ) → Decides ((p.0.0 == q.0.0) && int_eq p.1 q.1) (p ≡ q)
is_same_pair p q = (there, back)
  where
    there : ((p.0.0 == q.0.0) && int_eq p.1 q.1) ≡ true → p ≡ q
    there h =
        let both = and_parts (p.0.0 == q.0.0) (int_eq p.1 q.1) h in
        λ i. (same_item p.0 q.0 both.0 i, (Decides-int_eq p.1 q.1).0 both.1 i)

    back : p ≡ q → ((p.0.0 == q.0.0) && int_eq p.1 q.1) ≡ true
    back e = and_from _ _ (eq-eqb p.0.0 q.0.0 (ap (λ (r : Item × ℤ). r.0.0) e)) ((Decides-int_eq p.1 q.1).1 (ap (λ (r : Item × ℤ). r.1) e))
