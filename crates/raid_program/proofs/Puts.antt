-- Pairs in which an item's value is put, place by place.
use Rattle.std.proofs.Common.{◌≡◌, ℕ, suc, ◌+◌, ◌<◌, ◌≤◌, ℤ, true, false, List, [], ◌∷◌, ◌++◌, length, take, drop, set, get_or, refl, arith, add-one, drop-cons, append_assoc}
use Rattle.std.proofs.Math.Seq.{take-suc}
use Rattle.std.proofs.lemmas.List.{take-append-drop, take-set, drop-set}
use Rattle.std.proofs.lemmas.Grind.{common_steps}
use Rattle.raid_base.specs.declared.names.Item.{Item}
use Rattle.raid_base.specs.Names.{is_item}
use Rattle.raid_program.specs.Run.{put}

-- at a pair of another item
put_past : (p : Item × ℤ) (ps : List (Item × ℤ)) (x : Item) (v : ℤ) → is_item x p.0 ≡ false → put (p ∷ ps) x v ≡ p ∷ put ps x v
put_past p ps x v other = rw other refl

-- at a pair of the item
put_here : (p : Item × ℤ) (ps : List (Item × ℤ)) (x : Item) (v : ℤ) → is_item x p.0 ≡ true → put (p ∷ ps) x v ≡ (x, v) ∷ ps
put_here p ps x v here = rw here refl

-- the next pair is of another item
pub next_other : (ps : List (Item × ℤ)) (x : Item) (v : ℤ) (k : ℕ) (d : Item × ℤ) → k < length ps → is_item x (get_or ps k d).0 ≡ false →
    take k ps ++ put (drop k ps) x v ≡ take (k + 1) ps ++ put (drop (k + 1) ps) x v
next_other ps x v k d below other =
    rw (add-one, drop-cons ps k d below, take-suc ps k d below, put_past (get_or ps k d) (drop (suc k) ps) x v other, append_assoc) refl

-- the next pair is the item's
pub next_same : (ps : List (Item × ℤ)) (x : Item) (v : ℤ) (k : ℕ) (d : Item × ℤ) → k < length ps → is_item x (get_or ps k d).0 ≡ true →
    take k ps ++ put (drop k ps) x v ≡ set ps k (x, v)
next_same ps x v k d below same =
    rw (drop-cons ps k d below, put_here (get_or ps k d) (drop (suc k) ps) x v same, ← take-append-drop k (set ps k (x, v)), take-set ps k (x, v), drop-set ps k (x, v) below, add-one) refl

-- no pair is left
pub none_left : (ps : List (Item × ℤ)) (x : Item) (v : ℤ) (k : ℕ) → length ps ≤ k → take k ps ++ put (drop k ps) x v ≡ ps ++ (x, v) ∷ []
none_left ps x v k all = grind (arith, common_steps)
