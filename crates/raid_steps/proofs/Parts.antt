-- What every workload has of sites: its sites, its holders, its homes and its events name sites that it has.
use Rattle.std.proofs.Common.{◌≡◌, ℕ, zero, suc, ◌+◌, ◌-◌, ◌<◌, ◌≤◌, nat_le, Bool, true, false, ◌&&◌, List, [], ◌∷◌, ◌++◌, length, map, Option, Some, None, if◌then◌else◌, arith, sym, subst, ◌∙◌, refl, ◌*◌, mod-lt}
use Rattle.std.specs.Prelude.{filter, find, slice_get, slice_index_or, take, drop}
use Rattle.std.specs.List.{list_all}
use Rattle.std.specs.Option.{option_map_or}
use Rattle.raid_base.specs.Names.{program_of}
use Rattle.std.proofs.lemmas.Bool.{and_parts, and_from}
use Rattle.std.proofs.lemmas.List.Folds.{list_all-append, list_all-map}
use Rattle.std.proofs.lemmas.Grind.{common_steps}
use Rattle.std.proofs.lemmas.Option.{slice_get-get_or}
use Rattle.raid_base.specs.declared.names.Site.{Site}
use Rattle.raid_base.specs.declared.names.Item.{Item}
use Rattle.raid_base.specs.declared.names.Txn.{Txn}
use Rattle.raid_base.specs.Sites.{site}
use Rattle.raid_workload.specs.declared.workload.Workload.{Workload}
use Rattle.raid_workload.specs.declared.workload.Event.{Event}
use Rattle.raid_workload.specs.declared.workload.ItemLine.{ItemLine}
use Rattle.raid_workload.specs.declared.workload.Homed.{Homed}
use Rattle.raid_workload.specs.Parts.{count_from, sites, placement, home, homed}
use Rattle.raid_workload.specs.Rules.{is_site_of, is_within, are_ascending, are_items, are_events, is_homed}
use Rattle.raid_rules.specs.Sessions.{holders}
use Rattle.raid_steps.specs.Fits.{knows_site, knows_txn}

-- a test that all pass, on some of them, and on a mapped list
pub all_filtered : {X : Type 0} (p f : X → Bool) (xs : List X) → list_all p xs ≡ true → list_all p (filter f xs) ≡ true
all_filtered p f [] all = refl
all_filtered p f (x ∷ xs) all = let parts = and_parts (p x) (list_all p xs) all in step parts.0 (all_filtered p f xs parts.1) (f x) where
  step : p x ≡ true → list_all p (filter f xs) ≡ true → (b : Bool) → list_all p (if b then x ∷ filter f xs else filter f xs) ≡ true
  step here rest true = and_from (p x) (list_all p (filter f xs)) here rest
  step here rest false = rest

pub all_appended : {X : Type 0} (p : X → Bool) (xs ys : List X) → list_all p xs ≡ true → list_all p ys ≡ true → list_all p (xs ++ ys) ≡ true
all_appended p xs ys all all_too = list_all-append p xs ys ∙ and_from (list_all p xs) (list_all p ys) all all_too

pub all_mapped : {X Y : Type 0} (p : Y → Bool) (h : X → Y) (xs : List X) → list_all (λ x. p (h x)) xs ≡ true → list_all p (map h xs) ≡ true
all_mapped p h xs all = list_all-map p h xs ∙ all

pub all_dropped : {X : Type 0} (p : X → Bool) (k : ℕ) (xs : List X) → list_all p xs ≡ true → list_all p (drop k xs) ≡ true
all_dropped p zero xs all = all
all_dropped p (suc k) [] all = refl
all_dropped p (suc k) (x ∷ xs) all = all_dropped p k xs (and_parts (p x) (list_all p xs) all).1

pub all_cut : {X : Type 0} (p : X → Bool) (k : ℕ) (xs : List X) → list_all p xs ≡ true → list_all p (take k xs) ≡ true
all_cut p zero xs all = refl
all_cut p (suc k) [] all = refl
all_cut p (suc k) (x ∷ xs) all = let parts = and_parts (p x) (list_all p xs) all in and_from (p x) (list_all p (take k xs)) parts.0 (all_cut p k xs parts.1)

pub all_found : {X : Type 0} (p f : X → Bool) (xs : List X) (y : X) → list_all p xs ≡ true → find f xs ≡ Some y → p y ≡ true
all_found p f [] y all q = absurd (nothing q) where
  nothing : None ≡ Some y → ⊥
  nothing q = cc q
all_found p f (x ∷ xs) y all q = let parts = and_parts (p x) (list_all p xs) all in step parts.0 (all_found p f xs y parts.1) (f x) q where
  same : Some x ≡ Some y → x ≡ y
  same q = cc q

  step : p x ≡ true → (find f xs ≡ Some y → p y ≡ true) → (b : Bool) → (if b then Some x else find f xs) ≡ Some y → p y ≡ true
  step here rest true q = subst (λ z. p z ≡ true) (same q) here
  step here rest false q = rest q

pub all_got : {X : Type 0} (p : X → Bool) (xs : List X) (k : ℕ) (y : X) → list_all p xs ≡ true → slice_get xs k ≡ Some y → p y ≡ true
all_got p [] k y all q = absurd (nothing q) where
  nothing : None ≡ Some y → ⊥
  nothing q = cc q
all_got p (x ∷ xs) zero y all q = subst (λ z. p z ≡ true) (same q) (and_parts (p x) (list_all p xs) all).0 where
  same : Some x ≡ Some y → x ≡ y
  same q = cc q
all_got p (x ∷ xs) (suc k) y all q = all_got p xs k y (and_parts (p x) (list_all p xs) all).1 q

-- the workload knows each of its sites
counted_within : (p : ℕ → Bool) (first n : ℕ) → ((k : ℕ) → first ≤ k → k < first + n → p k ≡ true) → list_all p (count_from first n) ≡ true
counted_within p first zero h = refl
counted_within p first (suc n) h =
    and_from (p first) (list_all p (count_from (first + 1) n)) (h first (omega arith) (omega arith)) (counted_within p (first + 1) n (λ k low high. h k (omega (arith, low)) (omega (arith, high))))

pub sites_known : (w : Workload) → list_all (knows_site w) (sites w) ≡ true
sites_known w = all_mapped (knows_site w) site (count_from 1 w.sites) (counted_within (λ k. knows_site w (site k)) 1 w.sites (λ k low high. grind (arith, common_steps, low, high)))

pub number_known : (w : Workload) (k : ℕ) → k + 2 < w.sites + 2 → knows_site w (site (k + 1)) ≡ true
number_known w k below = grind (arith, common_steps, below)

-- its events are of its sites
events_of : (sites : ℕ) (earlier : List Event) (least : ℕ) (es : List Event) → are_events sites earlier least es ≡ true → list_all (λ (e : Event). is_site_of sites e.site) es ≡ true
events_of sites earlier least [] kept = refl
events_of sites earlier least (e ∷ es) kept =
    let rest = and_parts _ _ kept in
    let turns = and_parts _ _ rest.0 in
    let within = and_parts _ _ turns.0 in
    and_from _ _ within.0 (events_of sites (earlier ++ e ∷ []) e.trigger es rest.1)

pub events_known : (w : Workload) → list_all (λ (e : Event). knows_site w e.site) w.events ≡ true
events_known w =
    let programs = and_parts _ _ w.kept in
    let few = and_parts _ _ programs.0 in
    let events = and_parts _ _ few.0 in
    events_of w.sites [] 1 w.events events.1

-- its items' holders are of its sites
ascending_within : (low high : ℕ) (ss : List Site) → 1 ≤ low → are_ascending low high ss ≡ true → list_all (is_site_of high) ss ≡ true
ascending_within low high [] least kept = refl
ascending_within low high (s ∷ ss) least kept =
    let parts = and_parts (is_within low high s.0) (are_ascending (s.0 + 1) high ss) kept in
    and_from (is_site_of high s) (list_all (is_site_of high) ss) (above low s.0 parts.0 least) (ascending_within (s.0 + 1) high ss (omega arith) parts.1) where
      above : (low n : ℕ) → is_within low high n ≡ true → 1 ≤ low → is_within 1 high n ≡ true
      above low n within least = grind (arith, common_steps, within, least)

holders_of : (sites : ℕ) (lines : List ItemLine) → are_items sites lines ≡ true → list_all (λ (line : ItemLine). list_all (is_site_of sites) line.holders) lines ≡ true
holders_of sites [] kept = refl
holders_of sites (line ∷ lines) kept =
    let rest = and_parts _ _ kept in
    let item = and_parts _ _ rest.0 in
    let held = and_parts _ _ item.0 in
    and_from _ _ (ascending_within 1 sites line.holders (omega arith) held.1) (holders_of sites lines rest.1)

pub holders_known : (w : Workload) (x : Item) → list_all (knows_site w) (holders (placement w) x) ≡ true
holders_known w x =
    let programs = and_parts _ _ w.kept in
    let few = and_parts _ _ programs.0 in
    let events = and_parts _ _ few.0 in
    let events_few = and_parts _ _ events.0 in
    let switches = and_parts _ _ events_few.0 in
    let switches_few = and_parts _ _ switches.0 in
    let items = and_parts _ _ switches_few.0 in
    at_place (placement w) x.0 (all_mapped (list_all (knows_site w)) (λ (line : ItemLine). line.holders) w.items (holders_of w.sites w.items items.1)) where
      at_place : (rows : List (List Site)) (k : ℕ) → list_all (list_all (knows_site w)) rows ≡ true → list_all (knows_site w) (slice_index_or rows k []) ≡ true
      at_place [] k all = refl
      at_place (row ∷ rows) zero all = (and_parts (list_all (knows_site w) row) (list_all (list_all (knows_site w)) rows) all).0
      at_place (row ∷ rows) (suc k) all = at_place rows k (and_parts (list_all (knows_site w) row) (list_all (list_all (knows_site w)) rows) all).1

-- and so is the home of each of its transactions
homes_of : (sites items : ℕ) (hs : List Homed) → list_all (is_homed sites items) hs ≡ true → list_all (λ (h : Homed). is_site_of sites h.home) hs ≡ true
homes_of sites items [] kept = refl
homes_of sites items (h ∷ hs) kept =
    let parts = and_parts _ _ kept in
    let long = and_parts _ _ parts.0 in
    and_from _ _ (and_parts _ _ long.0).0 (homes_of sites items hs parts.1)

some_programs : (w : Workload) (t : Txn) → knows_txn w t ≡ true → 0 < length w.programs
some_programs w t known = positive (length w.programs) (w.restarts + 1) t.0 known where
  positive : (n attempts k : ℕ) → (nat_le 1 k && nat_le k (n * attempts)) ≡ true → 0 < n
  positive zero attempts k q = grind (arith, common_steps, q)
  positive (suc n) attempts k q = omega arith

no_home : {h : Homed} → Some h ≡ None → ⊥
no_home q = cc q

pub home_known : (w : Workload) (t : Txn) → knows_txn w t ≡ true → knows_site w (home w t) ≡ true
home_known w t known = step (homed w t) refl where
  within : program_of t (length w.programs) - 1 < length w.programs
  within = omega (arith, mod-lt (t.0 - 1) (some_programs w t known))

  step : (o : Option Homed) → homed w t ≡ o → knows_site w (option_map_or (λ (h : Homed). h.home) o (site 0)) ≡ true
  step None q = absurd (no_home (sym (slice_get-get_or w.programs (program_of t (length w.programs) - 1) (record { home = site 0; program = [] }) within) ∙ q))
  step (Some h) q = all_got (λ (h : Homed). knows_site w h.home) w.programs (program_of t (length w.programs) - 1) h (homes_of w.sites (length w.items) w.programs (and_parts _ _ w.kept).1) q
