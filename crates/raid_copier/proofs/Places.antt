-- The places of a table of eight for each item.
use Rattle.std.proofs.Common.{◌≡◌, ◌+◌, ◌%◌, ◌≤◌, ◌==◌, Bool, true, false, ◌&&◌, true≢false, refl, sym, ap, arith, ◌∙◌}
use Rattle.std.proofs.lemmas.Bool.{eqb-true, eq-eqb}
use Rattle.raid_base.specs.declared.names.Item.{Item}
use Rattle.raid_base.specs.declared.names.Site.{Site}
use Rattle.raid_base.specs.Names.{is_item, is_site}
use Rattle.raid_base.specs.Sites.{site}
use Rattle.raid_copier.specs.Copiers.{place_of}

-- two places are one where both the targets and the items are
pub same_place : (s t : Site) (x y : Item) → 1 ≤ s.0 → s.0 ≤ 8 → 1 ≤ t.0 → t.0 ≤ 8 → (place_of s x == place_of t y) ≡ (is_site t s && is_item y x)
same_place s t x y a b c d = go (s.0 == t.0) (x.0 == y.0) (place_of s x == place_of t y) refl refl refl
  where
    go : (m n p : Bool) → (s.0 == t.0) ≡ m → (x.0 == y.0) ≡ n → (place_of s x == place_of t y) ≡ p → p ≡ (m && n)
    go true true true f g h = refl
    go true true false f g h = absurd (true≢false (sym (eq-eqb (place_of s x) (place_of t y) (omega (arith, eqb-true s.0 t.0 f, eqb-true x.0 y.0 g))) ∙ h))
    go true false false f g h = refl
    go true false true f g h = absurd (true≢false (sym (eq-eqb x.0 y.0 (omega (arith, eqb-true (place_of s x) (place_of t y) h, a, b, c, d))) ∙ g))
    go false n false f g h = refl
    go false n true f g h = absurd (true≢false (sym (eq-eqb s.0 t.0 (omega (arith, eqb-true (place_of s x) (place_of t y) h, a, b, c, d))) ∙ f))

-- the target at a place
pub target_at : (s : Site) (x : Item) → 1 ≤ s.0 → s.0 ≤ 8 → site (place_of s x % 8 + 1) ≡ s
target_at s x least most = ap (λ k. site k) (omega (arith, least, most))
