-- What look-ups say of the lists that fail-locks stand for.
use Rattle.std.proofs.Common.{◌≡◌, ℕ, suc, ◌+◌, ◌<◌, ◌≤◌, Bool, true, false, not, ◌&&◌, ◌||◌, List, [], ◌∷◌, filter, length, slice_index_or, refl, sym, ap, arith, ◌∙◌}
use Rattle.std.specs.List.{list_any}
use Rattle.raid_base.specs.declared.names.Item.{Item}
use Rattle.raid_base.specs.declared.names.Site.{Site}
use Rattle.raid_base.specs.declared.entry.Noted.{Noted}
use Rattle.raid_base.specs.Names.{has_site}
use Rattle.raid_base.specs.Sites.{site, all_sites}
use Rattle.raid_workload.specs.Parts.{count_from}
use Rattle.raid_rules.specs.Sessions.{vector, is_copy_locked, is_locked, is_site_up, is_source, sources, holders}
use Rattle.raid_session.proofs.Kept.{same_kept}
use Rattle.raid_faillock.specs.Sets.{has_at, has_any}
use Rattle.raid_faillock.specs.Stands.{Parts, Stands, serves, is_any_locked, is_any_locked_at}

-- who serves an item are its sources
pub serving : (f : Parts) (sites : ℕ) (placement : List (List Site)) (p : List Noted) (x : Item) → Stands f sites placement p → filter (serves f x) all_sites ≡ sources sites placement p x
serving f sites placement p x o =
    same_kept (serves f x) (is_source sites placement p x) (λ r least most.
    ap (λ (h : List (List Site)). has_at h x.0 (site r) && is_site_up f.vector (site r) && not (has_at f.locks x.0 (site r))) o.holders
    ∙ ap (λ v. has_site (holders placement x) (site r) && is_site_up v (site r) && not (has_at f.locks x.0 (site r))) o.vector
    ∙ ap (λ b. has_site (holders placement x) (site r) && is_site_up (vector sites p) (site r) && not b) (o.locks (site r) x least most)
    ∙ go (has_site (holders placement x) (site r)) (is_site_up (vector sites p) (site r)) (is_copy_locked p (site r) x))
  where
    go : (h u c : Bool) → (h && u && not (h && c)) ≡ (h && u && not c)
    go true u c = refl
    go false u c = refl

any_from : (test : List Site → Bool) (table : List (List Site)) (g : ℕ → Bool) (i : ℕ) → ((k : ℕ) → k < length table → test (slice_index_or table k []) ≡ g (i + k)) → list_any test table ≡ list_any g (count_from i (length table))
any_from test [] g i h = refl
any_from test (set ∷ table) g i h =
    let first : test set ≡ g i = h 0 (omega arith) ∙ ap g (omega arith) in
    ap (λ b. b || list_any test table) first ∙ ap (λ b. g i || b) (any_from test table g (i + 1) (λ k below. h (suc k) (omega (arith, below)) ∙ ap g (omega arith)))

-- whether a copy is locked
pub any_locked : (f : Parts) (sites : ℕ) (placement : List (List Site)) (p : List Noted) → length f.holders ≡ length f.locks → Stands f sites placement p → list_any has_any f.locks ≡ is_any_locked placement p
any_locked f sites placement p size o =
    any_from has_any f.locks test 0 (λ k below. each k) ∙ ap (λ n. list_any test (count_from 0 n)) (sym size ∙ ap length o.holders)
  where
    item : ℕ → Item
    item k = record { 0 = k }

    test : ℕ → Bool
    test k = list_any (λ s. is_locked placement p s (item k)) all_sites

    each : (k : ℕ) → has_any (slice_index_or f.locks k []) ≡ test (0 + k)
    each k =
        rw (
          o.locks (site 1) (item k) (omega arith) (omega arith),
          o.locks (site 2) (item k) (omega arith) (omega arith),
          o.locks (site 3) (item k) (omega arith) (omega arith),
          o.locks (site 4) (item k) (omega arith) (omega arith),
          o.locks (site 5) (item k) (omega arith) (omega arith),
          o.locks (site 6) (item k) (omega arith) (omega arith),
          o.locks (site 7) (item k) (omega arith) (omega arith),
          o.locks (site 8) (item k) (omega arith) (omega arith),
        ) (ap test (omega arith))

-- whether a copy at the site is locked
pub any_locked_at : (f : Parts) (sites : ℕ) (placement : List (List Site)) (p : List Noted) (s : Site) → length f.holders ≡ length f.locks → Stands f sites placement p → 1 ≤ s.0 → s.0 ≤ 8 →
    list_any (λ set. has_site set s) f.locks ≡ is_any_locked_at placement p s
any_locked_at f sites placement p s size o least most =
    any_from (λ set. has_site set s) f.locks test 0 (λ k below. o.locks s (item k) least most ∙ ap test (omega arith)) ∙ ap (λ n. list_any test (count_from 0 n)) (sym size ∙ ap length o.holders)
  where
    item : ℕ → Item
    item k = record { 0 = k }

    test : ℕ → Bool
    test k = is_locked placement p s (item k)
