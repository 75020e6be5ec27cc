-- Values in pairs to which more were added.
use Rattle.std.proofs.Common.{◌≡◌, ℤ, true, List, [], ◌∷◌, ◌++◌, Some, None, arith}
use Rattle.std.proofs.lemmas.Grind.{common_steps}
use Rattle.raid_base.specs.declared.names.Item.{Item}
use Rattle.raid_base.specs.Names.{holds}
use Rattle.raid_base.specs.Find.{first_of}

-- an item that is there keeps its value, and stays there
pub front : (x : Item) (ps qs : List (Item × ℤ)) → holds x ps ≡ true → first_of x (ps ++ qs) ≡ first_of x ps
front x [] qs h = grind (arith, common_steps)
front x (p ∷ ps) qs h = grind (arith, common_steps, front x ps qs)

pub still_holds : (x : Item) (ps qs : List (Item × ℤ)) → holds x ps ≡ true → holds x (ps ++ qs) ≡ true
still_holds x ps qs h = grind (arith, common_steps)

-- an item that was not there has the value that was added
pub back : (x : Item) (v : ℤ) (ps : List (Item × ℤ)) → first_of x ps ≡ None → first_of x (ps ++ (x, v) ∷ []) ≡ Some v
back x v [] h = grind (arith, common_steps)
back x v (p ∷ ps) h = grind (arith, common_steps, back x v ps)

pub holds_last : (x : Item) (v : ℤ) (ps : List (Item × ℤ)) → holds x (ps ++ (x, v) ∷ []) ≡ true
holds_last x v ps = grind (arith, common_steps)
