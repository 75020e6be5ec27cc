-- The finals and the copies of a report name only the workload's items.
use Rattle.std.proofs.Common.{◌≡◌, ℕ, ℤ, zero, suc, ◌+◌, ◌<◌, ◌≤◌, Bool, true, false, cond, List, [], ◌∷◌, ◌++◌, length, map, filter, sym, arith, subst}
use Rattle.std.specs.List.{AllByRecursion, flat_map}
use Rattle.raid_base.specs.declared.names.Item.{Item}
use Rattle.raid_base.specs.declared.names.Site.{Site}
use Rattle.raid_base.specs.declared.report.CopyLine.{CopyLine}
use Rattle.raid_base.specs.Names.{has_site}
use Rattle.raid_workload.specs.declared.workload.Workload.{Workload}
use Rattle.raid_base.specs.Sites.{site}
use Rattle.raid_workload.specs.Parts.{count_from, items, sites}
use Rattle.raid_report.specs.Known.{KnowsSite, KnowsItem, KnowsPair, KnowsCopy, held_at, holders_of, places, place_of}

counted_below : (first n bound : ℕ) → first + n ≤ bound → AllByRecursion (λ (x : Item). x.0 < bound) (map (λ k. let x : Item = record { 0 = k } in x) (count_from first n))
counted_below first zero bound le = tt
counted_below first (suc n) bound le = (omega arith, counted_below (first + 1) n bound (omega arith))

items_known : (w : Workload) → AllByRecursion (KnowsItem w) (items w)
items_known w = counted_below 0 (length w.items) (length w.items) (omega arith)

-- what holds of each element holds of each that is kept
kept_known : {X : Type 0} (P : X → Type 0) (test : X → Bool) (xs : List X) → AllByRecursion P xs → AllByRecursion P (filter test xs)
kept_known P test [] h = tt
kept_known P test (x ∷ xs) h =
    elim (test x) as (λ b. AllByRecursion P (cond b (x ∷ filter test xs) (filter test xs))) [
      | true ↦ (h.0, kept_known P test xs h.1)
      | false ↦ kept_known P test xs h.1
    ]

-- of each image, where it holds of each element before
pub image_known : {X Y : Type 0} (P : Y → Type 0) (f : X → Y) (xs : List X) → AllByRecursion (λ x. P (f x)) xs → AllByRecursion P (map f xs)
image_known P f [] h = tt
image_known P f (x ∷ xs) h = (h.0, image_known P f xs h.1)

pub before_image : {X Y : Type 0} (P : Y → Type 0) (f : X → Y) (xs : List X) → AllByRecursion P (map f xs) → AllByRecursion (λ x. P (f x)) xs
before_image P f [] h = tt
before_image P f (x ∷ xs) h = (h.0, before_image P f xs h.1)

both_known : {X : Type 0} (P : X → Type 0) (xs ys : List X) → AllByRecursion P xs → AllByRecursion P ys → AllByRecursion P (xs ++ ys)
both_known P [] ys h k = k
both_known P (x ∷ xs) ys h k = (h.0, both_known P xs ys h.1 k)

abbrev KnowsPlace : Workload → Site × Item → Type 0
KnowsPlace w p = KnowsItem w p.1

places_known : (w : Workload) (ss : List Site) → AllByRecursion (KnowsPlace w) (flat_map (λ s. map (λ x. (s, x)) (held_at w s)) ss)
places_known w [] = tt
places_known w (s ∷ ss) =
    both_known (KnowsPlace w) (map (λ x. (s, x)) (held_at w s)) (flat_map (λ s. map (λ x. (s, x)) (held_at w s)) ss)
    (image_known (KnowsPlace w) (λ x. (s, x)) (held_at w s) (kept_known (KnowsItem w) (λ x. has_site (holders_of w x) s) (items w) (items_known w)))
    (places_known w ss)

pub finals_known : (w : Workload) (finals : List (Item × ℤ)) → map (λ (p : Item × ℤ). p.0) finals ≡ items w → AllByRecursion (KnowsPair w) finals
finals_known w finals e = before_image (KnowsItem w) (λ (p : Item × ℤ). p.0) finals (subst (AllByRecursion (KnowsItem w)) (sym e) (items_known w))

pub copies_known : (w : Workload) (copies : List CopyLine) → map place_of copies ≡ places w → AllByRecursion (KnowsCopy w) copies
copies_known w copies e = before_image (KnowsPlace w) place_of copies (subst (AllByRecursion (KnowsPlace w)) (sym e) (places_known w (sites w)))

-- the copies are at the workload's sites
sites_counted : (w : Workload) (first n : ℕ) → 1 ≤ first → first + n ≤ w.sites + 1 → AllByRecursion (KnowsSite w) (map site (count_from first n))
sites_counted w first zero from le = tt
sites_counted w first (suc n) from le = (record { first = from; last = omega arith }, sites_counted w (first + 1) n (omega arith) (omega arith))

abbrev IsSited : Workload → Site × Item → Type 0
IsSited w p = KnowsSite w p.0

at_site : (w : Workload) (s : Site) (xs : List Item) → KnowsSite w s → AllByRecursion (IsSited w) (map (λ x. (s, x)) xs)
at_site w s [] h = tt
at_site w s (x ∷ xs) h = (h, at_site w s xs h)

places_at : (w : Workload) (ss : List Site) → AllByRecursion (KnowsSite w) ss → AllByRecursion (IsSited w) (flat_map (λ s. map (λ x. (s, x)) (held_at w s)) ss)
places_at w [] h = tt
places_at w (s ∷ ss) h =
    both_known (IsSited w) (map (λ x. (s, x)) (held_at w s)) (flat_map (λ s. map (λ x. (s, x)) (held_at w s)) ss) (at_site w s (held_at w s) h.0) (places_at w ss h.1)

pub places_sited : (w : Workload) (copies : List CopyLine) → map place_of copies ≡ places w → AllByRecursion (λ (c : CopyLine). KnowsSite w c.site) copies
places_sited w copies e = before_image (IsSited w) place_of copies (subst (AllByRecursion (IsSited w)) (sym e) (places_at w (sites w) (sites_counted w 1 w.sites (omega arith) (omega arith))))
