-- A site holds a copy of an item exactly where one is found.
use Rattle.std.proofs.Common.{◌≡◌, Bool, true, false, ◌||◌, List, [], ◌∷◌, Some, if◌then◌else◌, sym, refl}
use Rattle.std.specs.Prelude.{find}
use Rattle.std.specs.List.{list_any}
use Rattle.std.proofs.lemmas.Bool.{true≢false}
use Rattle.raid_base.specs.declared.names.Item.{Item}
use Rattle.raid_base.specs.Names.{is_item}
use Rattle.raid_steps.specs.State.{Copy, SiteState}
use Rattle.raid_steps.specs.Copies.{copy_of, holds_copy}

pub held_copied : (s : SiteState) (x : Item) → holds_copy s x ≡ true → (c : Copy) × (copy_of s x ≡ Some c)
held_copied s x h = found s.copies h
  where
    found : (cs : List Copy) → list_any (λ (c : Copy). is_item x c.item) cs ≡ true → (c : Copy) × (find (λ (c : Copy). is_item x c.item) cs ≡ Some c)
    found [] r = absurd (true≢false (sym r))
    found (c ∷ cs) r = go (is_item x c.item) r (found cs)
      where
        go : (b : Bool) → (b || list_any (λ (c : Copy). is_item x c.item) cs) ≡ true → (list_any (λ (c : Copy). is_item x c.item) cs ≡ true → (d : Copy) × (find (λ (c : Copy). is_item x c.item) cs ≡ Some d)) →
            (d : Copy) × ((if b then Some c else find (λ (c : Copy). is_item x c.item) cs) ≡ Some d)
        go true r rest = (c, refl)
        go false r rest = rest r

pub copied_held : (s : SiteState) (x : Item) (c : Copy) → copy_of s x ≡ Some c → holds_copy s x ≡ true
copied_held s x c h = found s.copies h
  where
    found : (cs : List Copy) → find (λ (c : Copy). is_item x c.item) cs ≡ Some c → list_any (λ (c : Copy). is_item x c.item) cs ≡ true
    found [] r = absurd (cc r)
    found (d ∷ cs) r = go (is_item x d.item) r (found cs)
      where
        go : (b : Bool) → (if b then Some d else find (λ (c : Copy). is_item x c.item) cs) ≡ Some c → (find (λ (c : Copy). is_item x c.item) cs ≡ Some c → list_any (λ (c : Copy). is_item x c.item) cs ≡ true) →
            (b || list_any (λ (c : Copy). is_item x c.item) cs) ≡ true
        go true r rest = refl
        go false r rest = rest r
