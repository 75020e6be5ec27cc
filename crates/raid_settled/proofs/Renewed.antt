-- The copies that are due are sent for: each of them is under way then, and each copy is cared for.
use Rattle.std.proofs.Common.{◌≡◌, ℕ, zero, suc, ◌+◌, ◌-◌, ◌<◌, ◌≤◌, ◌==◌, nat_lt, nat_le, Bool, true, false, not, ◌&&◌, ◌||◌, List, [], ◌∷◌, length, map, filter, Option, Some, None, if◌then◌else◌, arith, sym, subst, ◌∙◌, refl}
use Rattle.std.specs.Prelude.{flat_map, filter_map, slice_get, slice_index, option_map}
use Rattle.std.specs.List.{AllByRecursion, list_any, cons_option}
use Rattle.std.proofs.lemmas.Bool.{and_parts, and_from, eqb-true, true≢false}
use Rattle.raid_base.specs.declared.names.Item.{Item}
use Rattle.raid_base.specs.declared.names.Site.{Site}
use Rattle.raid_base.specs.declared.entry.Noted.{Noted}
use Rattle.raid_base.specs.Names.{is_item, is_site, has_site}
use Rattle.raid_base.specs.Sites.{session, site, all_sites}
use Rattle.raid_workload.specs.declared.workload.Workload.{Workload}
use Rattle.raid_workload.specs.Parts.{count_from, sites, items, placement}
use Rattle.raid_rules.specs.Sessions.{is_copy_locked, is_site_up}
use Rattle.raid_rules.specs.Sessions as rules
use Rattle.raid_rules.proofs.Sources.{has_kept}
use Rattle.raid_legal.specs.Seen.{vector, is_up, is_locked, sources}
use Rattle.raid_serial.proofs.Facts.{some_is}
use Rattle.raid_sessions.proofs.Lists.{all_append}
use Rattle.raid_steps.specs.State.{Copying}
use Rattle.raid_steps.specs.Fits.{knows_site, knows_item}
use Rattle.raid_steps.specs.Sequencer as rows
use Rattle.raid_letters.specs.Says.{is_held}
use Rattle.raid_letters.proofs.Sends.{same_site, first_in}
use Rattle.raid_versions.proofs.Steps.{source_unlocked}
use Rattle.raid_settled.specs.Settled.{Stands}
use Rattle.raid_settled.proofs.Entries.{vector_long}

-- numbers in a row
counted : {X : Type 0} (K : X → Type 0) (f : ℕ → X) (a n most : ℕ) → a + n ≤ most → ((k : ℕ) → a ≤ k → k < most → K (f k)) → AllByRecursion K (map f (count_from a n))
counted K f a zero most low each = tt
counted K f a (suc n) most low each = (each a (omega arith) (omega (arith, low)), counted K f (a + 1) n most (omega (arith, low)) (λ k least high. each k (omega (arith, least)) high))

pub items_known : (w : Workload) → AllByRecursion (λ x. knows_item w x ≡ true) (items w)
items_known w = counted (λ x. knows_item w x ≡ true) (λ k. let x : Item = record { 0 = k } in x) 0 (length w.items) (length w.items) (omega arith) (λ k least high. below k high)
  where
    below : (k : ℕ) → k < length w.items → nat_lt k (length w.items) ≡ true
    below k high = grind (arith, high)

pub sites_known : (w : Workload) → AllByRecursion (λ s. knows_site w s ≡ true) (sites w)
sites_known w = counted (λ s. knows_site w s ≡ true) site 1 w.sites (w.sites + 1) (omega arith) (λ k least high. within k least high)
  where
    within : (k : ℕ) → 1 ≤ k → k < w.sites + 1 → (nat_le 1 k && nat_le k w.sites) ≡ true
    within k least high = grind (arith, least, high)

index_some : (v : List ℕ) (k : ℕ) → 1 ≤ slice_index v k → k < length v
index_some [] k some = absurd (omega (arith, some))
index_some (x ∷ v) zero some = omega arith
index_some (x ∷ v) (suc k) some = (let rest = index_some v k some in omega (arith, rest))

up_some : (n : ℕ) → nat_lt 0 n ≡ true → 1 ≤ n
up_some n q = grind (arith, q)

-- what holds of each kept element
pub all_kept : {X : Type 0} (P Q : X → Type 0) (test : X → Bool) (xs : List X) → ((x : X) → P x → test x ≡ true → Q x) → AllByRecursion P xs → AllByRecursion Q (filter test xs)
all_kept P Q test [] each a = tt
all_kept {X} P Q test (x ∷ xs) each a = go (test x) refl (all_kept P Q test xs each a.1)
  where
    go : (b : Bool) → test x ≡ b → AllByRecursion Q (filter test xs) → AllByRecursion Q (if b then x ∷ filter test xs else filter test xs)
    go true q rest = (each x a.0 q, rest)
    go false q rest = rest

mapped : {X Y : Type 0} (K : X → Type 0) (P : Y → Type 0) (f : X → Option Y) (xs : List X) → AllByRecursion K xs → ((x : X) (y : Y) → K x → f x ≡ Some y → P y) → AllByRecursion P (filter_map f xs)
mapped K P f [] a each = tt
mapped {X} {Y} K P f (x ∷ xs) a each = go (f x) refl (mapped K P f xs a.1 each)
  where
    go : (o : Option Y) → f x ≡ o → AllByRecursion P (filter_map f xs) → AllByRecursion P (cons_option o (filter_map f xs))
    go None q rest = rest
    go (Some y) q rest = (each x y a.0 q, rest)

known_from : (w : Workload) (s : Site) → 1 ≤ s.0 → s.0 - 1 < w.sites → knows_site w s ≡ true
known_from w s least high = and_from (nat_le 1 s.0) (nat_le s.0 w.sites) (at_most 1 s.0 least) (at_most s.0 w.sites (omega (arith, least, high)))
  where
    at_most : (a b : ℕ) → a ≤ b → nat_le a b ≡ true
    at_most a b below = grind (arith, below)

module _ (w : Workload) (p : List Noted) where
  -- a source is known, and up
  source_is_known : (x : Item) (s : Site) → has_site (sources w p x) s ≡ true → knows_site w s ≡ true
  source_is_known x s q = known_from w s (numbered all_sites firsts both.1) (subst (λ n. s.0 - 1 < n) (vector_long w p) (index_some (vector w p) (s.0 - 1) (up_some (session (vector w p) s) (source_unlocked w p x s q).0)))
    where
      both : (rules.is_source w.sites (placement w) p x s ≡ true) × (has_site all_sites s ≡ true)
      both = and_parts (rules.is_source w.sites (placement w) p x s) (has_site all_sites s) (sym (has_kept (rules.is_source w.sites (placement w) p x) s all_sites) ∙ q)

      numbered : (ss : List Site) → AllByRecursion (λ (r : Site). 1 ≤ r.0) ss → has_site ss s ≡ true → 1 ≤ s.0
      numbered [] a h = absurd (true≢false (sym h))
      numbered (r ∷ ss) a h = go (r.0 == s.0) refl h (numbered ss a.1)
        where
          go : (b : Bool) → (r.0 == s.0) ≡ b → (b || has_site ss s) ≡ true → (has_site ss s ≡ true → 1 ≤ s.0) → 1 ≤ s.0
          go true same h rest = subst (λ n. 1 ≤ n) (eqb-true r.0 s.0 same) a.0
          go false other h rest = rest h

      firsts : AllByRecursion (λ (r : Site). 1 ≤ r.0) all_sites
      firsts = (omega arith, (omega arith, (omega arith, (omega arith, (omega arith, (omega arith, (omega arith, (omega arith, tt))))))))

  fresh : (out : List Copying) (s : Site) (known : knows_site w s ≡ true) (up : is_up w p s ≡ true) (x : Item) (c : Copying) → knows_item w x ≡ true → is_locked w p s x ≡ true →
      (o : Option Site) → slice_get (sources w p x) 0 ≡ o → option_map (λ r. let c : Copying = record { target = s; item = x; source = r } in c) o ≡ Some c → Stands w p c
  fresh out s known up x c named locked None q e = absurd (cc e)
  fresh out s known up x c named locked (Some r) q e = subst (Stands w p) (some_is (record { target = s; item = x; source = r }) c e) (record {
    target_known = known;
    source_known = source_is_known x r (first_in (sources w p x) r q);
    item_known = named;
    other = apart (is_site s r) refl;
    target_up = up_some (session (vector w p) s) up;
    source_up = up_some (session (vector w p) r) (source_unlocked w p x r (first_in (sources w p x) r q)).0;
    locked = locked;
  })
    where
      apart : (b : Bool) → is_site s r ≡ b → b ≡ false
      apart true same = absurd (true≢false (sym (and_parts (is_held w s x) (is_copy_locked p s x) locked).1 ∙ subst (λ z. is_copy_locked p z x ≡ false) (same_site s r same) (source_unlocked w p x r (first_in (sources w p x) r q)).1))
      apart false same = refl

  all_due : (out : List Copying) (s : Site) → knows_site w s ≡ true → is_up w p s ≡ true → AllByRecursion (Stands w p) (rows.copies_due w p out s)
  all_due out s known up = mapped (λ x. knows_item w x ≡ true) (Stands w p) _ (items w) (items_known w) due
    where
      under_way : Item → Bool
      under_way x = list_any (λ (c : Copying). is_site s c.target && is_item x c.item) out

      due : (x : Item) (c : Copying) → knows_item w x ≡ true → (if is_locked w p s x && not (under_way x) then option_map (λ r. let c : Copying = record { target = s; item = x; source = r } in c) (slice_get (sources w p x) 0) else None) ≡ Some c → Stands w p c
      due x c named q = go (is_locked w p s x && not (under_way x)) refl q
        where
          go : (b : Bool) → (is_locked w p s x && not (under_way x)) ≡ b → (if b then option_map (λ r. let c : Copying = record { target = s; item = x; source = r } in c) (slice_get (sources w p x) 0) else None) ≡ Some c → Stands w p c
          go true e q = fresh out s known up x c named (and_parts (is_locked w p s x) (not (under_way x)) e).0 (slice_get (sources w p x) 0) refl q
          go false e q = absurd (cc q)

  pub sites_due : (out : List Copying) → AllByRecursion (Stands w p) (flat_map (rows.copies_due w p out) (filter (is_up w p) (sites w)))
  sites_due out = joined (filter (is_up w p) (sites w)) (all_kept (λ s. knows_site w s ≡ true) (λ s. (knows_site w s ≡ true) × (is_up w p s ≡ true)) (is_up w p) (sites w) (λ s known up. (known, up)) (sites_known w))
    where
      joined : (ss : List Site) → AllByRecursion (λ s. (knows_site w s ≡ true) × (is_up w p s ≡ true)) ss → AllByRecursion (Stands w p) (flat_map (rows.copies_due w p out) ss)
      joined [] a = tt
      joined (s ∷ ss) a = all_append (Stands w p) (rows.copies_due w p out s) (flat_map (rows.copies_due w p out) ss) (all_due out s a.0.0 a.0.1) (joined ss a.1)
