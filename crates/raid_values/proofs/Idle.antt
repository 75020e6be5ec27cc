-- Where no letter is left, each copy that may be read has its item's final value and version.
use Rattle.std.proofs.Common.{◌≡◌, inl, inr, ℕ, ℤ, zero, suc, ◌+◌, ◌<◌, ◌≤◌, ◌==◌, Bool, true, false, not, ◌&&◌, List, [], ◌∷◌, ◌++◌, length, map, Some, if◌then◌else◌, arith, sym, subst, ap, ◌∙◌, refl}
use Rattle.std.specs.Prelude.{flat_map, slice_get, slice_index_or}
use Rattle.std.specs.List.{AllByRecursion, list_all}
use Rattle.std.proofs.lemmas.Bool.{and_parts, eqb-true, true≢false, OnTrue_from}
use Rattle.raid_base.specs.declared.names.Item.{Item}
use Rattle.raid_base.specs.declared.entry.Noted.{Noted}
use Rattle.raid_base.specs.declared.report.CopyLine.{CopyLine}
use Rattle.raid_base.specs.Find.{first_of}
use Rattle.raid_base.specs.Sites.{site}
use Rattle.raid_workload.specs.declared.workload.Workload.{Workload}
use Rattle.raid_workload.specs.Parts.{items, count_from}
use Rattle.raid_rules.specs.History.{noted, version}
use Rattle.raid_rules.specs.Sessions.{is_copy_locked}
use Rattle.raid_legal.specs.Seen.{value_of, is_up, is_locked}
use Rattle.raid_legal.specs.Serial.{Each, IsCurrent}
use Rattle.raid_message.specs.declared.letter.Letter.{Letter}
use Rattle.raid_message.specs.declared.letter.Pick.{Pick}
use Rattle.raid_steps.specs.State.{Copy, SiteState}
use Rattle.raid_steps.specs.World.{World, link, run, is_idle, copy_lines}
use Rattle.raid_steps.proofs.Parts.{number_known}
use Rattle.raid_sessions.specs.Present.{told_session}
use Rattle.raid_sessions.proofs.Agreed.{run_idle}
use Rattle.raid_sessions.proofs.Lists.{get_below}
use Rattle.raid_moves.proofs.Places.{all_both, all_kept}
use Rattle.raid_letters.specs.Says.{is_held}
use Rattle.raid_staged.proofs.Runs.{landed}
use Rattle.raid_staged.proofs.Worlds.{all_given}
use Rattle.raid_versions.specs.Versions.{IsLive}
use Rattle.raid_values.specs.Values.{after_all, IsCurrentIn, ToldCopiesAreCurrent}
use Rattle.raid_values.proofs.Current.{become_current}
use Rattle.raid_values.proofs.Pushes.{positive}
use Rattle.raid_values.proofs.Items.{items_of, held_items, numbered, of_items, copies_held, runs_items}

-- an empty link
no_length : (ls : List Letter) → (length ls == 0) ≡ true → ls ≡ []
no_length [] q = refl
no_length (l ∷ ls) q = absurd (let e = eqb-true (length (l ∷ ls)) 0 q in omega (arith, e))

idle_at : {X : Type 0} (test : X → Bool) (xs : List X) (k : ℕ) (d : X) → list_all test xs ≡ true → test d ≡ true → test (slice_index_or xs k d) ≡ true
idle_at test [] k d all q = q
idle_at test (x ∷ xs) zero d all q = (and_parts (test x) (list_all test xs) all).0
idle_at test (x ∷ xs) (suc k) d all q = idle_at test xs k d (and_parts (test x) (list_all test xs) all).1 q

idle_link : (state : World) (server from : ℕ) → is_idle state ≡ true → link state.links server from ≡ []
idle_link state server from idle =
    no_length (link state.links server from)
    (idle_at (λ (queue : List Letter). length queue == 0) (slice_index_or state.links server []) from []
    (idle_at (λ (row : List (List Letter)). list_all (λ (queue : List Letter). length queue == 0) row) state.links server [] idle refl) refl)

-- what holds of each
each_append : {X : Type 0} (P : X → Type 0) (xs ys : List X) → Each P xs → Each P ys → Each P (xs ++ ys)
each_append P [] ys a b = b
each_append P (x ∷ xs) ys a b = (a.0, each_append P xs ys a.1 b)

each_flat : {X Y : Type 0} (P : Y → Type 0) (f : X → List Y) (xs : List X) → ((k : ℕ) (x : X) → slice_get xs k ≡ Some x → Each P (f x)) → Each P (flat_map f xs)
each_flat P f [] h = tt
each_flat P f (x ∷ xs) h = each_append P (f x) (flat_map f xs) (h 0 x refl) (each_flat P f xs (λ k y at. h (suc k) y at))

each_mapped : {X Y : Type 0} (P : Y → Type 0) (f : X → Y) (xs : List X) → AllByRecursion (λ (x : X). P (f x)) xs → Each P (map f xs)
each_mapped P f [] a = tt
each_mapped P f (x ∷ xs) a = (a.0, each_mapped P f xs a.1)

-- the value told of an item is that of the first pair
told_first : (f : Item → ℤ) (x : Item) (a n : ℕ) → a ≤ x.0 → x.0 < a + n → first_of x (map (λ (y : Item). (y, f y)) (numbered (count_from a n))) ≡ Some (f x)
told_first f x a zero low high = absurd (omega (arith, low, high))
told_first f x a (suc n) low high = go (a == x.0) refl (λ more. told_first f x (a + 1) n more (omega (arith, high)))
  where
    go : (b : Bool) → (a == x.0) ≡ b → (a + 1 ≤ x.0 → first_of x (map (λ (y : Item). (y, f y)) (numbered (count_from (a + 1) n))) ≡ Some (f x)) → (if b then Some (f (record { 0 = a })) else first_of x (map (λ (y : Item). (y, f y)) (numbered (count_from (a + 1) n)))) ≡ Some (f x)
    go true q rest = ap (λ k. Some (f (let y : Item = record { 0 = k } in y))) (eqb-true a x.0 q)
    go false q rest = rest (above a x.0 q low)
      where
        above : (a b : ℕ) → (a == b) ≡ false → a ≤ b → a + 1 ≤ b
        above a b q low = grind (arith, q, low)

in_range : (a n : ℕ) → AllByRecursion (λ (x : Item). (a ≤ x.0) × (x.0 < a + n)) (numbered (count_from a n))
in_range a zero = tt
in_range a (suc n) = ((omega arith, omega arith), later (a + 1) n (in_range (a + 1) n))
  where
    later : (b m : ℕ) → AllByRecursion (λ (x : Item). (a + 1 ≤ x.0) × (x.0 < a + 1 + n)) (numbered (count_from b m)) → AllByRecursion (λ (x : Item). (a ≤ x.0) × (x.0 < a + suc n)) (numbered (count_from b m))
    later b zero h = tt
    later b (suc m) h = ((let l = h.0.0 in let u = h.0.1 in (omega (arith, l), omega (arith, u))), later (b + 1) m h.1)

module _ (w : Workload) (schedule : List Pick) (idle : is_idle (run w schedule) ≡ true) where
  abbrev now : World
  now = run w schedule

  abbrev p : List Noted
  p = noted (run w schedule).servers.sequencer.history

  abbrev finals : List (Item × ℤ)
  finals = map (λ x. (x, value_of w (noted (run w schedule).servers.sequencer.history) x)) (items w)

  listed : AllByRecursion (λ (x : Item). first_of x finals ≡ Some (value_of w p x)) (items w)
  listed = go 0 (length w.items) (in_range 0 (length w.items))
    where
      go : (b m : ℕ) → AllByRecursion (λ (x : Item). (0 ≤ x.0) × (x.0 < 0 + length w.items)) (numbered (count_from b m)) → AllByRecursion (λ (x : Item). first_of x finals ≡ Some (value_of w p x)) (numbered (count_from b m))
      go b zero h = tt
      go b (suc m) h = (told_first (value_of w p) (record { 0 = b }) 0 (length w.items) h.0.0 h.0.1, go (b + 1) m h.1)

  -- where a site is up in the history it is live
  told_live : (k : ℕ) (s : SiteState) → slice_get now.servers.sites k ≡ Some s → is_up w p (site (k + 1)) ≡ true → IsLive p now.servers.sites k s
  told_live k s at up = go s.up refl (run_idle w schedule idle k s at)
    where
      some : 0 < told_session w now k
      some = positive (told_session w now k) up

      go : (b : Bool) → s.up ≡ b → told_session w now k ≡ (if b then s.session else 0) → IsLive p now.servers.sites k s
      go false down told = absurd (let n = some in omega (arith, n, told))
      go true is told =
          elim ((landed w schedule).says.reached.ledger.accounts (site (k + 1)) (number_known w k (let b = get_below now.servers.sites k s at in let long = (landed w schedule).says.reached.long in omega (arith, b, long)))).gone [
            | inl none ↦ absurd (let zero_is = none.0 in let n = some in omega (arith, zero_is, n))
            | inr last ↦ record { at = at; up = is; last = sym last.0 ∙ told }
          ]

  line_current : (k : ℕ) (s : SiteState) → slice_get now.servers.sites k ≡ Some s → (c : Copy) → is_held w (site (k + 1)) c.item ≡ true → first_of c.item finals ≡ Some (value_of w p c.item) →
      (IsLive p now.servers.sites k s → is_copy_locked p (site (k + 1)) c.item ≡ false → IsCurrentIn w p (after_all s c (link now.links (k + 2) 1))) →
      IsCurrent w p finals (record { site = site (k + 1); item = c.item; value = c.value; version = c.version })
  line_current k s at c held told current =
      OnTrue_from (is_up w p (site (k + 1)) && not (is_locked w p (site (k + 1)) c.item)) ((Some c.value ≡ first_of c.item finals) × (c.version ≡ version p c.item))
      (λ q. let both = and_parts (is_up w p (site (k + 1))) (not (is_locked w p (site (k + 1)) c.item)) q in
      let is = subst (λ ls. IsCurrentIn w p (after_all s c ls)) (idle_link now (k + 2) 1 idle) (current (told_live k s at both.0) (unlocked (is_copy_locked p (site (k + 1)) c.item) refl both.1)) in
      (ap Some is.value ∙ sym told, is.version))
    where
      unlocked : (b : Bool) → is_copy_locked p (site (k + 1)) c.item ≡ b → not (is_held w (site (k + 1)) c.item && is_copy_locked p (site (k + 1)) c.item) ≡ true → b ≡ false
      unlocked true lock q = absurd (true≢false (sym q ∙ ap not (ap (λ h. h && is_copy_locked p (site (k + 1)) c.item) held ∙ lock)))
      unlocked false lock q = refl

  -- once it is known that the site is live, and the copy unlocked
  abbrev Gets : ℕ → SiteState → Copy → Type 0
  Gets k s c = IsLive p now.servers.sites k s → is_copy_locked p (site (k + 1)) c.item ≡ false → IsCurrentIn w p (after_all s c (link now.links (k + 2) 1))

  all_get : (k : ℕ) (s : SiteState) → AllByRecursion (Gets k s) s.copies
  all_get k s = all_given (λ (live : IsLive p now.servers.sites k s) (c : Copy). is_copy_locked p (site (k + 1)) c.item ≡ false → IsCurrentIn w p (after_all s c (link now.links (k + 2) 1))) s.copies (become_current w schedule k s)

  abbrev Told : Copy → Type 0
  Told c = first_of c.item finals ≡ Some (value_of w p c.item)

  pub idle_current : ToldCopiesAreCurrent w (run w schedule)
  idle_current = each_flat (IsCurrent w p finals) copy_lines now.servers.sites lines
    where
      lines : (k : ℕ) (s : SiteState) → slice_get now.servers.sites k ≡ Some s → Each (IsCurrent w p finals) (copy_lines s)
      lines k s at =
          subst (λ r. Each (IsCurrent w p finals) (map (λ (c : Copy). let l : CopyLine = record { site = r; item = c.item; value = c.value; version = c.version } in l) s.copies)) (sym ((landed w schedule).says.homes k s at).place)
          (each_mapped (IsCurrent w p finals) (λ (c : Copy). let l : CopyLine = record { site = site (k + 1); item = c.item; value = c.value; version = c.version } in l) s.copies
          (all_both (λ (c : Copy). is_held w (site (k + 1)) c.item ≡ true) (λ (c : Copy). Told c × Gets k s c) (λ (c : Copy). IsCurrent w p finals (record { site = site (k + 1); item = c.item; value = c.value; version = c.version })) s.copies
          (λ c held both. line_current k s at c held both.0 both.1) (copies_held w k s.copies same)
          (all_both Told (Gets k s) (λ (c : Copy). Told c × Gets k s c) s.copies (λ c a b. (a, b)) told (all_get k s))))
        where
          same : items_of s.copies ≡ held_items w k
          same = runs_items w schedule k s at

          told : AllByRecursion Told s.copies
          told = of_items (λ (x : Item). first_of x finals ≡ Some (value_of w p x)) s.copies
              (subst (AllByRecursion (λ (x : Item). first_of x finals ≡ Some (value_of w p x))) (sym same) (all_kept (λ (x : Item). first_of x finals ≡ Some (value_of w p x)) (λ x. is_held w (site (k + 1)) x) (items w) listed))
