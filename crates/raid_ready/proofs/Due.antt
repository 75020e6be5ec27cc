-- Of each Down and Up that is due the workload has the site, and one stop, or return, more than the history.
use Rattle.std.proofs.Common.{◌≡◌, ℕ, zero, suc, ◌+◌, ◌<◌, ◌≤◌, ◌==◌, nat_lt, nat_le, Bool, true, false, not, ◌&&◌, ◌||◌, List, [], ◌∷◌, ◌++◌, length, map, if◌then◌else◌, arith, subst, ap, refl}
use Rattle.std.specs.Prelude.{count_by}
use Rattle.std.specs.List.{list_all}
use Rattle.std.proofs.lemmas.Bool.{and_parts, eqb-true}
use Rattle.std.proofs.lemmas.Grind.{common_steps}
use Rattle.std.proofs.lemmas.List.Sums.{sum_by-cons}
use Rattle.raid_base.specs.declared.names.Site.{Site}
use Rattle.raid_base.specs.declared.entry.Noted.{Noted}
use Rattle.raid_base.specs.Names.{is_site, has_site}
use Rattle.raid_base.specs.Sites.{site}
use Rattle.raid_workload.specs.declared.workload.Workload.{Workload}
use Rattle.raid_workload.specs.declared.workload.Event.{Event}
use Rattle.raid_workload.specs.Rules.{is_within, is_site_of, are_restarts, are_items, are_switches, is_stopped, is_turn, are_events, is_homed}
use Rattle.raid_workload.specs.Parts.{count_from, sites}
use Rattle.raid_rules.specs.History.{ends}
use Rattle.raid_legal.specs.Legal.{due}
use Rattle.raid_measure.specs.Measure.{events_of}
use Rattle.raid_measure.proofs.Sums.{sum_grows, one_if}

-- a site by its number is one of the workload's
pub there : (k n : ℕ) (s : Site) → k ≤ s.0 → s.0 < k + n → has_site (map site (count_from k n)) s ≡ true
there k zero s low high = absurd (omega arith)
there k (suc n) s low high = go (k == s.0) refl (λ l. there (k + 1) n s l (omega (arith, high)))
  where
    later : (a b : Bool) → b ≡ true → (a || b) ≡ true
    later true b q = refl
    later false b q = q

    above : (a b : ℕ) → a ≤ b → (a == b) ≡ false → a + 1 ≤ b
    above a b l q = grind (arith, common_steps, l, q)

    go : (b : Bool) → (k == s.0) ≡ b → (k + 1 ≤ s.0 → has_site (map site (count_from (k + 1) n)) s ≡ true) → ((k == s.0) || has_site (map site (count_from (k + 1) n)) s) ≡ true
    go true e rest = ap (λ b. b || has_site (map site (count_from (k + 1) n)) s) e
    go false e rest = later (k == s.0) (has_site (map site (count_from (k + 1) n)) s) (rest (above k s.0 low e))

same_site : (s r : Site) → is_site s r ≡ true → r ≡ s
same_site s r q = ap (λ k. let z : Site = record { 0 = k } in z) (eqb-true r.0 s.0 q)

-- each event is of one of the workload's sites
event_known : (n least : ℕ) (earlier es : List Event) (s : Site) (test : Event → Bool) → are_events n earlier least es ≡ true → 1 ≤ count_by (λ (e : Event). is_site s e.site && test e) es → is_site_of n s ≡ true
event_known n least earlier [] s test a some = absurd (omega (arith, some))
event_known n least earlier (e ∷ es) s test a some = go (is_site s e.site) refl (event_known n e.trigger (earlier ++ e ∷ []) es s test parts.1)
  where
    parts : (is_site_of n e.site && is_within least 2000 e.trigger && is_turn e.stop (is_stopped earlier e.site) ≡ true) × (are_events n (earlier ++ e ∷ []) e.trigger es ≡ true)
    parts = and_parts (is_site_of n e.site && is_within least 2000 e.trigger && is_turn e.stop (is_stopped earlier e.site)) (are_events n (earlier ++ e ∷ []) e.trigger es) a

    own : is_site_of n e.site ≡ true
    own = (and_parts (is_site_of n e.site) (is_within least 2000 e.trigger) (and_parts (is_site_of n e.site && is_within least 2000 e.trigger) (is_turn e.stop (is_stopped earlier e.site)) parts.0).0).0

    all : count_by (λ (e : Event). is_site s e.site && test e) (e ∷ es) ≡ one_if (is_site s e.site && test e) + count_by (λ (e : Event). is_site s e.site && test e) es
    all = sum_by-cons (λ (e : Event). one_if (is_site s e.site && test e)) e es

    go : (b : Bool) → is_site s e.site ≡ b → (1 ≤ count_by (λ (e : Event). is_site s e.site && test e) es → is_site_of n s ≡ true) → is_site_of n s ≡ true
    go true q rest = subst (λ r. is_site_of n r ≡ true) (same_site s e.site q) own
    go false q rest =
        let none : one_if (is_site s e.site && test e) ≡ 0 = ap (λ b. one_if (b && test e)) q in
        let sum = all in
        rest (omega (arith, none, sum, some))

module _ (w : Workload) where
  events_kept : are_events w.sites [] 1 w.events ≡ true
  events_kept = ninth
      (are_restarts w.version w.restarts && is_within 1 8 w.sites && is_within 1 16 w.together && nat_le (length w.items) 1024 && are_items w.sites w.items && nat_le (length w.switches) 64 && are_switches w.structure w.kind 1 w.switches && nat_le (length w.events) 64)
      (are_events w.sites [] 1 w.events) (nat_le (length w.programs) 2000) (list_all (is_homed w.sites (length w.items)) w.programs) w.kept
    where
      ninth : (a b c d : Bool) → (a && b && c && d) ≡ true → b ≡ true
      ninth a b c d q = (and_parts a b (and_parts (a && b) c (and_parts (a && b && c) d q).0).0).1

  fewer_due : (p : List Noted) (stop : Bool) (s : Site) → due w p stop s ≤ events_of w stop s
  fewer_due p stop s =
      sum_grows (λ (e : Event). one_if (is_site s e.site && (if e.stop then stop else not stop) && nat_le e.trigger (ends p))) (λ (e : Event). one_if (is_site s e.site && (if e.stop then stop else not stop)))
      (λ (e : Event). less (is_site s e.site && (if e.stop then stop else not stop)) (nat_le e.trigger (ends p))) w.events
    where
      less : (a b : Bool) → one_if (a && b) ≤ one_if a
      less true true = omega arith
      less true false = omega arith
      less false b = omega arith

  -- where more are due than there were
  pub more_due : (p : List Noted) (stop : Bool) (s : Site) (n : ℕ) → nat_lt n (due w p stop s) ≡ true → (has_site (sites w) s ≡ true) × (n < events_of w stop s)
  more_due p stop s n q = (there 1 w.sites s range.0 range.1, more)
    where
      lt_is : (a b : ℕ) → nat_lt a b ≡ true → a < b
      lt_is a b q = grind (arith, q)

      more : n < events_of w stop s
      more = let l = lt_is n (due w p stop s) q in let f = fewer_due p stop s in omega (arith, l, f)

      within : (n k : ℕ) → is_within 1 n k ≡ true → (1 ≤ k) × (k < 1 + n)
      within n k q = let parts = and_parts (nat_le 1 k) (nat_le k n) q in (low k parts.0, high k n parts.1)
        where
          low : (k : ℕ) → nat_le 1 k ≡ true → 1 ≤ k
          low k q = grind (arith, q)

          high : (k n : ℕ) → nat_le k n ≡ true → k < 1 + n
          high k n q = grind (arith, q)

      range : (1 ≤ s.0) × (s.0 < 1 + w.sites)
      range = within w.sites s.0 (event_known w.sites 1 [] w.events s (λ (e : Event). if e.stop then stop else not stop) events_kept (let m = more in omega (arith, m)))
