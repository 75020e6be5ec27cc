-- How views grow.
use Rattle.std.proofs.Common.{◌≡◌, ℕ, ◌<◌, nat_lt, Bool, true, ◌||◌, List, [], ◌∷◌, ◌++◌, arith, ◌∙◌, ap, refl, if◌then◌else◌}
use Rattle.std.specs.List.{filter, All}
use Rattle.std.proofs.lemmas.Grind.{common_steps}
use Rattle.std.proofs.lemmas.List.Elements.{filter-append}
use Rattle.raid_base.specs.declared.entry.Noted.{Noted}
use Rattle.raid_rules.specs.Views.{View, whole, is_in, view_of}

-- one more entry comes last in the view, or isn't in it
pub view_push : (v : View) (p : List Noted) (n : Noted) → view_of v (p ++ n ∷ []) ≡ view_of v p ++ (if is_in v n then n ∷ [] else [])
view_push v p n = filter-append (is_in v) p (n ∷ [])
