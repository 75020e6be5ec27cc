-- Copies that are sent for, and copies that are under way no more.
use Rattle.std.proofs.Common.{◌≡◌, ℕ, suc, ◌+◌, ◌*◌, ◌≤◌, Bool, true, false, not, ◌&&◌, ◌||◌, List, [], ◌∷◌, ◌++◌, length, filter, map, flat_map, option_map, Option, Some, None, if◌then◌else◌, arith, sym, subst, ap, ◌∙◌, refl, length-append}
use Rattle.std.specs.Prelude.{filter_map, slice_get}
use Rattle.std.specs.List.{AllByRecursion, list_any, sum_by}
use Rattle.std.proofs.lemmas.Bool.{true≢false, and_parts, eqb-true}
use Rattle.std.proofs.lemmas.Grind.{common_steps}
use Rattle.std.proofs.lemmas.List.Folds.{list_any-append}
use Rattle.std.proofs.lemmas.List.Sums.{sum_by-cons}
use Rattle.raid_base.specs.declared.names.Item.{Item}
use Rattle.raid_base.specs.declared.names.Site.{Site}
use Rattle.raid_base.specs.declared.entry.Noted.{Noted}
use Rattle.raid_base.specs.Names.{is_item, is_site, has_site}
use Rattle.raid_workload.specs.declared.workload.Workload.{Workload}
use Rattle.raid_workload.specs.Parts.{sites, items, placement}
use Rattle.raid_rules.specs.Sessions.{holders, is_copy_locked}
use Rattle.raid_legal.specs.Seen.{is_up, is_locked, sources}
use Rattle.raid_steps.specs.State.{Out, Copying}
use Rattle.raid_steps.specs.Sequencer.{copies_due, copy_out}
use Rattle.raid_measure.specs.Measure.{copier_cost, letter_cost}
use Rattle.raid_measure.proofs.Sums.{sum_grows, one_if}
use Rattle.raid_ends.proofs.Links.{outs_cost}
use Rattle.raid_ends.proofs.Histories.{IsKnown, known_sites, same_site}
use Rattle.raid_ends.proofs.Copies.{way, renew_at, inner, copy_at, copies_at, copies_less, renew_less, kept_way, chosen}

same_item : (x y : Item) → is_item x y ≡ true → y ≡ x
same_item x y q = ap (λ k. let z : Item = record { 0 = k } in z) (eqb-true y.0 x.0 q)

-- each element of a list is one of them
members : {X : Type 0} (e : X → X → Bool) → ((x : X) → e x x ≡ true) → (xs all : List X) → ((x : X) → list_any (e x) xs ≡ true → list_any (e x) all ≡ true) → AllByRecursion (λ x. list_any (e x) all ≡ true) xs
members e own [] all inside = tt
members e own (x ∷ xs) all inside = (inside x (ap (λ b. b || list_any (e x) xs) (own x)), members e own xs all (λ y q. inside y (later (e y x) (list_any (e y) xs) q)))
  where
    later : (a b : Bool) → b ≡ true → (a || b) ≡ true
    later true b q = refl
    later false b q = q

abbrev some : {X : Type 0} → Option X → Bool
some (Some x) = true
some None = false

-- sums of which each term pays for what is made of it
pays_each : {X Y : Type 0} (P : X → Type 0) (a b : X → ℕ) (c : ℕ) (f : X → Option Y) → ((x : X) → P x → a x + c * one_if (some (f x)) ≤ b x) → (xs : List X) → AllByRecursion P xs → sum_by a xs + c * length (filter_map f xs) ≤ sum_by b xs
pays_each P a b c f each [] all = omega arith
pays_each {Y = Y} P a b c f each (x ∷ xs) all = go (f x) refl (pays_each P a b c f each xs all.1) (each x all.0)
  where
    go : (o : Option Y) → f x ≡ o → sum_by a xs + c * length (filter_map f xs) ≤ sum_by b xs → a x + c * one_if (some (f x)) ≤ b x → sum_by a (x ∷ xs) + c * length (filter_map f (x ∷ xs)) ≤ sum_by b (x ∷ xs)
    go (Some y) q rest one =
        let made : length (filter_map f (x ∷ xs)) ≡ suc (length (filter_map f xs)) = (let e : filter_map f (x ∷ xs) ≡ y ∷ filter_map f xs = rw q refl in ap length e) in
        let here : one_if (some (f x)) ≡ 1 = ap (λ o. one_if (some o)) q in
        let m = ap (λ n. c * n) made in
        let h = ap (λ n. c * n) here in
        omega (arith, rest, one, m, h, sum_by-cons a x xs, sum_by-cons b x xs)
    go None q rest one =
        let made : length (filter_map f (x ∷ xs)) ≡ length (filter_map f xs) = (let e : filter_map f (x ∷ xs) ≡ filter_map f xs = rw q refl in ap length e) in
        let m = ap (λ n. c * n) made in
        omega (arith, rest, one, m, sum_by-cons a x xs, sum_by-cons b x xs)

pays_all : {X Y : Type 0} (P : X → Type 0) (a b : X → ℕ) (c : ℕ) (test : X → Bool) (g : X → List Y) → ((x : X) → P x → a x + c * (if test x then length (g x) else 0) ≤ b x) → (xs : List X) → AllByRecursion P xs → sum_by a xs + c * length (flat_map g (filter test xs)) ≤ sum_by b xs
pays_all P a b c test g each [] all = omega arith
pays_all P a b c test g each (x ∷ xs) all = go (test x) (pays_all P a b c test g each xs all.1) (each x all.0)
  where
    go : (t : Bool) → sum_by a xs + c * length (flat_map g (filter test xs)) ≤ sum_by b xs → a x + c * (if t then length (g x) else 0) ≤ b x → sum_by a (x ∷ xs) + c * length (flat_map g (if t then x ∷ filter test xs else filter test xs)) ≤ sum_by b (x ∷ xs)
    go true rest one =
        let long : length (g x ++ flat_map g (filter test xs)) ≡ length (g x) + length (flat_map g (filter test xs)) = length-append (g x) (flat_map g (filter test xs)) in
        let m = ap (λ n. c * n) long in
        omega (arith, rest, one, m, sum_by-cons a x xs, sum_by-cons b x xs)
    go false rest one = omega (arith, rest, one, sum_by-cons a x xs, sum_by-cons b x xs)

-- what is made of one is among what is made of all
any_made : {X Y : Type 0} (e : X → X → Bool) → ((x y : X) → e x y ≡ true → y ≡ x) → (test : Y → Bool) (f : X → Option Y) (x : X) (y : Y) → f x ≡ Some y → test y ≡ true → (xs : List X) → list_any (e x) xs ≡ true → list_any test (filter_map f xs) ≡ true
any_made e same test f x y q t [] i = absurd (true≢false (sym i))
any_made {Y = Y} e same test f x y q t (z ∷ zs) i = go (e x z) refl i (f z) refl (any_made e same test f x y q t zs)
  where
    later : (a b : Bool) → b ≡ true → (a || b) ≡ true
    later true b q = refl
    later false b q = q

    head : (o : Option Y) → f z ≡ o → o ≡ Some y → list_any test (filter_map f (z ∷ zs)) ≡ true
    head (Some v) fz r = (let made : filter_map f (z ∷ zs) ≡ v ∷ filter_map f zs = rw fz refl in ap (list_any test) made ∙ ap (λ b. b || list_any test (filter_map f zs)) (ap test (let s : v ≡ y = cc r in s) ∙ t))
    head None fz r = absurd (cc r)

    rest_of : (o : Option Y) → f z ≡ o → list_any test (filter_map f zs) ≡ true → list_any test (filter_map f (z ∷ zs)) ≡ true
    rest_of (Some v) fz r = (let made : filter_map f (z ∷ zs) ≡ v ∷ filter_map f zs = rw fz refl in ap (list_any test) made ∙ later (test v) (list_any test (filter_map f zs)) r)
    rest_of None fz r = (let made : filter_map f (z ∷ zs) ≡ filter_map f zs = rw fz refl in ap (list_any test) made ∙ r)

    go : (b : Bool) → e x z ≡ b → (b || list_any (e x) zs) ≡ true → (o : Option Y) → f z ≡ o → (list_any (e x) zs ≡ true → list_any test (filter_map f zs) ≡ true) → list_any test (filter_map f (z ∷ zs)) ≡ true
    go true i q2 o fz rest = head o fz (sym fz ∙ ap f (same x z i) ∙ q)
    go false i q2 o fz rest = rest_of o fz (rest q2)

any_flat : {Y : Type 0} (test : Y → Bool) (g : Site → List Y) (s : Site) → list_any test (g s) ≡ true → (ss : List Site) → has_site ss s ≡ true → list_any test (flat_map g ss) ≡ true
any_flat test g s t [] i = absurd (true≢false (sym i))
any_flat test g s t (r ∷ rs) i = list_any-append test (g r) (flat_map g rs) ∙ go (is_site s r) refl i (any_flat test g s t rs)
  where
    later : (a b : Bool) → b ≡ true → (a || b) ≡ true
    later true b q = refl
    later false b q = q

    go : (b : Bool) → is_site s r ≡ b → (b || has_site rs s) ≡ true → (has_site rs s ≡ true → list_any test (flat_map g rs) ≡ true) → (list_any test (g r) || list_any test (flat_map g rs)) ≡ true
    go true e q rest = ap (λ b. b || list_any test (flat_map g rs)) (ap (λ z. list_any test (g z)) (same_site s r e) ∙ t)
    go false e q rest = later (list_any test (g r)) (list_any test (flat_map g rs)) (rest q)

module _ (w : Workload) (p : List Noted) (out : List Copying) where
  abbrev pub all_due : List Copying
  all_due = flat_map (copies_due w p out) (filter (is_up w p) (sites w))

  -- what is due of one copy
  abbrev due_of : Site → Item → Option Copying
  due_of s x = if is_locked w p s x && not (way w out s x) then option_map (λ r. let c : Copying = record { target = s; item = x; source = r } in c) (slice_get (sources w p x) 0) else None

  each_sent : (v : List ℕ) (cs : List Copying) → outs_cost w (map (copy_out v) cs) ≡ copier_cost * length cs
  each_sent v [] = refl
  each_sent v (c ∷ cs) =
      let rest = each_sent v cs in
      let all : outs_cost w (map (copy_out v) (c ∷ cs)) ≡ copier_cost + outs_cost w (map (copy_out v) cs) = sum_by-cons (λ (o : Out). letter_cost w o.0 o.2) (copy_out v c) (map (copy_out v) cs) in
      omega (arith, rest, all)

  own_item : (x : Item) → is_item x x ≡ true
  own_item x = grind (arith, common_steps)

  own_site : (s : Site) → is_site s s ≡ true
  own_site s = grind (arith, common_steps)

  -- a copy pays for its CopyDo by being under way
  one_pays : (s : Site) → has_site (sites w) s ≡ true → is_up w p s ≡ true → (x : Item) → list_any (is_item x) (items w) ≡ true → copy_at w p (out ++ all_due) s x + copier_cost * one_if (some (due_of s x)) ≤ copy_at w p out s x
  one_pays s known up x there = go (is_locked w p s x && not (way w out s x)) refl
    where
      more : way w out s x ≡ true → way w (out ++ all_due) s x ≡ true
      more q = list_any-append (λ (c : Copying). is_site s c.target && is_item x c.item) out all_due ∙ ap (λ b. b || way w all_due s x) q

      fewer : copy_at w p (out ++ all_due) s x ≤ copy_at w p out s x
      fewer = less (has_site (holders (placement w) x) s)
        where
          renew : one_if (renew_at w p (out ++ all_due) s x) ≤ one_if (renew_at w p out s x)
          renew = renew_less w (is_up w p s) (is_locked w p s x) (way w out s x) (is_locked w p s x) (way w (out ++ all_due) s x) (λ u l. l) (λ u l y. more y)

          less : (b : Bool) → (if b then copier_cost * inner w p (out ++ all_due) s x else 0) ≤ (if b then copier_cost * inner w p out s x else 0)
          less true = omega (arith, renew)
          less false = omega arith

      late : (a b : Bool) → b ≡ true → (a || b) ≡ true
      late true b q = refl
      late false b q = q

      both : (a b : Bool) → a ≡ true → b ≡ true → (a && b) ≡ true
      both true b q r = r
      both false b q r = absurd (true≢false (sym q))

      sent_for : (is_locked w p s x && not (way w out s x)) ≡ true → (r : Site) → due_of s x ≡ Some (let c : Copying = record { target = s; item = x; source = r } in c) → copy_at w p (out ++ all_due) s x + copier_cost * 1 ≤ copy_at w p out s x
      sent_for q r made =
          let parts = and_parts (is_locked w p s x) (not (way w out s x)) q in
          let held = and_parts (has_site (holders (placement w) x) s) (is_copy_locked p s x) parts.0 in
          let mine : list_any (λ (c : Copying). is_site s c.target && is_item x c.item) (copies_due w p out s) ≡ true =
          any_made is_item same_item (λ (c : Copying). is_site s c.target && is_item x c.item) (due_of s) x (let c : Copying = record { target = s; item = x; source = r } in c) made (both (is_site s s) (is_item x x) (own_site s) (own_item x)) (items w) there in
          let among : way w all_due s x ≡ true = any_flat (λ (c : Copying). is_site s c.target && is_item x c.item) (copies_due w p out) s mine (filter (is_up w p) (sites w)) (chosen (is_up w p) s (sites w) up known) in
          let now : way w (out ++ all_due) s x ≡ true = list_any-append (λ (c : Copying). is_site s c.target && is_item x c.item) out all_due ∙ late (way w out s x) (way w all_due s x) among in
          let after : one_if (renew_at w p (out ++ all_due) s x) ≡ 0 = ap (λ b. one_if (is_up w p s && is_locked w p s x && not b)) now ∙ none (is_up w p s && is_locked w p s x) in
          let before : one_if (renew_at w p out s x) ≡ 1 = ap one_if (both (is_up w p s && is_locked w p s x) (not (way w out s x)) (both (is_up w p s) (is_locked w p s x) up parts.0) parts.1) in
          (let cost : (if true then copier_cost * inner w p (out ++ all_due) s x else 0) + copier_cost * 1 ≤ (if true then copier_cost * inner w p out s x else 0) = omega (arith, after, before) in
          subst (λ b. (if b then copier_cost * inner w p (out ++ all_due) s x else 0) + copier_cost * 1 ≤ (if b then copier_cost * inner w p out s x else 0)) (sym held.0) cost)
        where
          none : (a : Bool) → one_if (a && not true) ≡ 0
          none true = refl
          none false = refl

      not_sent : due_of s x ≡ None → copy_at w p (out ++ all_due) s x + copier_cost * one_if (some (due_of s x)) ≤ copy_at w p out s x
      not_sent q = let n : one_if (some (due_of s x)) ≡ 0 = ap (λ (o : Option Copying). one_if (some o)) q in let f = fewer in omega (arith, n, f)

      from : (b : Bool) → (is_locked w p s x && not (way w out s x)) ≡ b → (o : Option Site) → slice_get (sources w p x) 0 ≡ o → copy_at w p (out ++ all_due) s x + copier_cost * one_if (some (due_of s x)) ≤ copy_at w p out s x
      from true q (Some r) e =
          let made : due_of s x ≡ Some (let c : Copying = record { target = s; item = x; source = r } in c) =
          ap (λ b. if b then option_map (λ r. let c : Copying = record { target = s; item = x; source = r } in c) (slice_get (sources w p x) 0) else None) q ∙ ap (option_map (λ r. let c : Copying = record { target = s; item = x; source = r } in c)) e in
          let one : one_if (some (due_of s x)) ≡ 1 = ap (λ (o : Option Copying). one_if (some o)) made in
          let pays = sent_for q r made in
          omega (arith, one, pays)
      from true q None e = not_sent (ap (λ b. if b then option_map (λ r. let c : Copying = record { target = s; item = x; source = r } in c) (slice_get (sources w p x) 0) else None) q ∙ ap (option_map (λ r. let c : Copying = record { target = s; item = x; source = r } in c)) e)
      from false q o e = not_sent (ap (λ b. if b then option_map (λ r. let c : Copying = record { target = s; item = x; source = r } in c) (slice_get (sources w p x) 0) else None) q)

      go : (b : Bool) → (is_locked w p s x && not (way w out s x)) ≡ b → copy_at w p (out ++ all_due) s x + copier_cost * one_if (some (due_of s x)) ≤ copy_at w p out s x
      go b q = from b q (slice_get (sources w p x) 0) refl

  -- where the site is down nothing is sent for
  down_pays : (s : Site) → is_up w p s ≡ false → (x : Item) → copy_at w p (out ++ all_due) s x ≤ copy_at w p out s x
  down_pays s down x = less (has_site (holders (placement w) x) s)
    where
      none : one_if (renew_at w p (out ++ all_due) s x) ≡ 0
      none = ap (λ u. one_if (u && is_locked w p s x && not (way w (out ++ all_due) s x))) down

      less : (b : Bool) → (if b then copier_cost * inner w p (out ++ all_due) s x else 0) ≤ (if b then copier_cost * inner w p out s x else 0)
      less true = let n = none in omega (arith, n)
      less false = omega arith

  pub due_pays : (v : List ℕ) → outs_cost w (map (copy_out v) all_due) + copies_at w p (out ++ all_due) ≤ copies_at w p out
  due_pays v =
      let sent = each_sent v all_due in
      let all = pays_all (IsKnown w) (λ s. sum_by (copy_at w p (out ++ all_due) s) (items w)) (λ s. sum_by (copy_at w p out s) (items w)) copier_cost (is_up w p) (copies_due w p out) (λ s k. one s k (is_up w p s) refl) (sites w) (known_sites w) in
      omega (arith, sent, all)
    where
      known_items : AllByRecursion (λ x. list_any (is_item x) (items w) ≡ true) (items w)
      known_items = members is_item own_item (items w) (items w) (λ x q. q)

      one : (s : Site) → IsKnown w s → (b : Bool) → is_up w p s ≡ b → sum_by (copy_at w p (out ++ all_due) s) (items w) + copier_cost * (if b then length (copies_due w p out s) else 0) ≤ sum_by (copy_at w p out s) (items w)
      one s k true up = pays_each (λ x. list_any (is_item x) (items w) ≡ true) (copy_at w p (out ++ all_due) s) (copy_at w p out s) copier_cost (due_of s) (λ x i. one_pays s k.1 up x i) (items w) known_items
      one s k false down = let less = sum_grows (copy_at w p (out ++ all_due) s) (copy_at w p out s) (down_pays s down) (items w) in omega (arith, less)

  -- a copy that isn't to be renewed is under way no more
  pub closed_pays : (z : Site) (y : Item) → (is_up w p z && is_locked w p z y) ≡ false → copies_at w p (filter (λ c. not (is_site z c.target && is_item y c.item)) out) ≤ copies_at w p out
  closed_pays z y quiet = copies_less w p p out left each
    where
      left : List Copying
      left = filter (λ c. not (is_site z c.target && is_item y c.item)) out

      each : (s : Site) → IsKnown w s → (x : Item) → inner w p left s x ≤ inner w p out s x
      each s k x = go (is_site z s && is_item y x) refl
        where
          other : (is_site z s && is_item y x) ≡ false → (c : Copying) → (is_site s c.target && is_item x c.item) ≡ true → (is_site z c.target && is_item y c.item) ≡ false
          other q c i =
              let parts = and_parts (is_site s c.target) (is_item x c.item) i in
              ap (λ t. is_site z t && is_item y c.item) (same_site s c.target parts.0) ∙ ap (λ t. is_site z s && is_item y t) (same_item x c.item parts.1) ∙ q

          go : (b : Bool) → (is_site z s && is_item y x) ≡ b → inner w p left s x ≤ inner w p out s x
          go true q =
              let parts = and_parts (is_site z s) (is_item y x) q in
              let none : one_if (renew_at w p left s x) ≡ 0 =
              ap (λ b. one_if (b && not (way w left s x))) (ap (λ r. is_up w p r && is_locked w p r x) (same_site z s parts.0) ∙ ap (λ t. is_up w p z && is_locked w p z t) (same_item y x parts.1) ∙ quiet) in
              omega (arith, none)
          go false q =
              let renew : one_if (renew_at w p left s x) ≤ one_if (renew_at w p out s x) =
              renew_less w (is_up w p s) (is_locked w p s x) (way w out s x) (is_locked w p s x) (way w left s x) (λ u l. l)
              (λ u l y2. kept_way w (λ (c : Copying). is_site s c.target && is_item x c.item) (λ c. is_site z c.target && is_item y c.item) out (other q) y2) in
              omega (arith, renew)
