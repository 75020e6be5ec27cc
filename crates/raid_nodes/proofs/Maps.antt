-- What a function makes of a list.
use Rattle.std.proofs.Common.{◌≡◌, ℕ, zero, suc, ◌<◌, List, [], ◌∷◌, length, map, arith, refl, ap, ◌∙◌, Vec, Global}
use Rattle.std.specs.Prelude.{slice_set, slice_index_or}
use Rattle.std.proofs.lemmas.List.{map-set}
use Rattle.raid_causes.proofs.Lists.{index_other, length_set}
use Rattle.raid_nodes.specs.Opening.{AreRest}

pub mapped_at : {X Y : Type 0} (f : X → Y) (xs : List X) (k : ℕ) (d : X) (e : Y) → k < length xs → slice_index_or (map f xs) k e ≡ f (slice_index_or xs k d)
mapped_at f [] k d e low = absurd (omega (arith, low))
mapped_at f (x ∷ xs) zero d e low = refl
mapped_at f (x ∷ xs) (suc k) d e low = mapped_at f xs k d e (omega (arith, low))

-- the rows of vectors, one of which was replaced
pub rest_set : {X : Type 0} (rows : List (Vec X Global)) (k : ℕ) (v : Vec X Global) → AreRest k (map (λ (row : Vec X Global). row.items) rows) (map (λ (row : Vec X Global). row.items) (slice_set rows k v))
rest_set {X} rows k v =
    let items : Vec X Global → List X = λ row. row.items in
    let is : map items (slice_set rows k v) ≡ slice_set (map items rows) k v.items = map-set items rows k v in
    record { long = ap length is ∙ length_set (map items rows) k v.items; same = λ j apart. ap (λ rs. slice_index_or rs j []) is ∙ index_other (map items rows) k j v.items [] apart }

pub rest_same : {X : Type 0} (k : ℕ) (rows : List (List X)) → AreRest k rows rows
rest_same k rows = record { long = refl; same = λ j apart. refl }
