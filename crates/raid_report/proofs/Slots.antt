-- The places of all copies, pushed site by site and item by item.
use Rattle.std.proofs.Common.{◌≡◌, ℕ, zero, suc, ◌+◌, ◌-◌, ◌<◌, ◌≤◌, true, false, List, [], ◌∷◌, ◌++◌, length, get_or, map, filter, refl, ap, ◌∙◌, arith, append_assoc}
use Rattle.std.specs.Prelude.{slice_index_or}
use Rattle.std.specs.List.{flat_map}
use Rattle.raid_base.specs.declared.names.Item.{Item}
use Rattle.raid_base.specs.declared.names.Site.{Site}
use Rattle.raid_base.specs.Names.{has_site}
use Rattle.raid_base.specs.Sites.{site}
use Rattle.raid_workload.specs.declared.workload.Workload.{Workload}
use Rattle.raid_workload.specs.declared.workload.ItemLine.{ItemLine}
use Rattle.raid_workload.specs.Parts.{count_from}
use Rattle.raid_report.specs.Known.{holders_of, held_at}

abbrev item : ℕ → Item
item k = record { 0 = k }

-- the copies at a site of the items from this one on
abbrev pub held_from : Workload → Site → ℕ → List (Site × Item)
held_from w s k = map (λ x. (s, x)) (filter (λ x. has_site (holders_of w x) s) (map item (count_from k (length w.items - k))))

-- the copies at the sites behind this one
abbrev pub places_from : Workload → ℕ → List (Site × Item)
places_from w k = flat_map (λ s. map (λ x. (s, x)) (held_at w s)) (map site (count_from (k + 1) (w.sites - k)))

counted : (k n : ℕ) → k < n → count_from k (n - k) ≡ k ∷ count_from (k + 1) (n - (k + 1))
counted k n less = let e : n - k ≡ suc (n - (k + 1)) = omega arith in rw e refl

sites_counted : (k n : ℕ) → k < n → count_from (k + 1) (n - k) ≡ (k + 1) ∷ count_from (k + 1 + 1) (n - (k + 1))
sites_counted k n less = let e : n - k ≡ suc (n - (k + 1)) = omega arith in rw e refl

holders_at : (lines : List ItemLine) (k : ℕ) (d : ItemLine) → k < length lines → slice_index_or (map (λ (line : ItemLine). line.holders) lines) k [] ≡ (get_or lines k d).holders
holders_at [] k d less = absurd (omega arith)
holders_at (line ∷ lines) zero d less = refl
holders_at (line ∷ lines) (suc k) d less = holders_at lines k d (omega arith)

pub held_more : (w : Workload) (s : Site) (k : ℕ) (d : ItemLine) (slots : List (Site × Item)) → k < length w.items → has_site (get_or w.items k d).holders s ≡ true →
    (slots ++ (s, item k) ∷ []) ++ held_from w s (k + 1) ≡ slots ++ held_from w s k
held_more w s k d slots less h =
    let there : has_site (holders_of w (item k)) s ≡ true = ap (λ (hs : List Site). has_site hs s) (holders_at w.items k d less) ∙ h in
    rw (counted k (length w.items) less, there) (simp append_assoc)

pub held_less : (w : Workload) (s : Site) (k : ℕ) (d : ItemLine) → k < length w.items → has_site (get_or w.items k d).holders s ≡ false →
    held_from w s (k + 1) ≡ held_from w s k
held_less w s k d less h =
    let there : has_site (holders_of w (item k)) s ≡ false = ap (λ (hs : List Site). has_site hs s) (holders_at w.items k d less) ∙ h in
    rw (counted k (length w.items) less, there) refl

pub places_more : (w : Workload) (k : ℕ) (slots : List (Site × Item)) → k < w.sites →
    (slots ++ map (λ x. (site (k + 1), x)) (held_at w (site (k + 1)))) ++ places_from w (k + 1) ≡ slots ++ places_from w k
places_more w k slots less = rw (sites_counted k w.sites less) (simp append_assoc)

pub held_end : (w : Workload) (s : Site) (k : ℕ) → length w.items ≤ k → held_from w s k ≡ []
held_end w s k le = let e : length w.items - k ≡ 0 = omega arith in rw e refl

pub places_end : (w : Workload) (k : ℕ) → w.sites ≤ k → places_from w k ≡ []
places_end w k le = let e : w.sites - k ≡ 0 = omega arith in rw e refl
