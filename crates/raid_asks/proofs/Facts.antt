-- What placed histories say of the order in which transactions begin.
use Rattle.std.proofs.Common.{◌≡◌, ◌⊎◌, inl, inr, ℕ, ◌+◌, ◌*◌, ◌<◌, ◌≤◌, ◌==◌, nat_lt, Bool, true, false, not, ◌&&◌, ◌||◌, List, [], ◌∷◌, ◌++◌, length, length-append, Option, Some, None, arith, sym, subst, ap, ◌∙◌, refl}
use Rattle.std.specs.List.{AllByRecursion, list_any}
use Rattle.std.specs.Option.{option_map_or}
use Rattle.std.proofs.lemmas.Bool.{and_parts, true≢false}
use Rattle.std.proofs.lemmas.List.Folds.{list_any-append}
use Rattle.raid_base.specs.declared.names.Txn.{Txn}
use Rattle.raid_base.specs.declared.names.Site.{Site}
use Rattle.raid_base.specs.declared.entry.Entry.{Entry}
use Rattle.raid_base.specs.declared.entry.Entry.TheVariants.{Begin, Abort}
use Rattle.raid_base.specs.declared.entry.Noted.{Noted}
use Rattle.raid_base.specs.Names.{is_txn, is_site, has_txn}
use Rattle.raid_workload.specs.declared.workload.Workload.{Workload}
use Rattle.raid_workload.specs.Parts.{txns, home}
use Rattle.raid_rules.specs.Entries.{is_begin_of, is_abort_of}
use Rattle.raid_rules.specs.History.{noted, add, next, has_begun, has_aborted}
use Rattle.raid_rules.proofs.Places.{by_last}
use Rattle.raid_rules.proofs.Push.{noted_push, has_begun_push, same_txn}
use Rattle.raid_legal.specs.Forced.{forced}
use Rattle.raid_legal.specs.Legal.{may_begin}
use Rattle.raid_legal.specs.Seen.{attempt, again, previous, next_of, is_up, is_restart, is_restartable, has_down_after}
use Rattle.raid_legal.proofs.Left.{forced_compels}
use Rattle.raid_placed.specs.Placed.{Placed, Placeable, Goes}
use Rattle.raid_placed.proofs.Sent.{placed_push}
use Rattle.raid_asks.proofs.Least.{Least, least, known_txn, IsFirst}

pub or_left : (a b : Bool) → a ≡ true → (a || b) ≡ true
or_left true b q = refl
or_left false b q = absurd (true≢false (sym q))

pub or_right : (a b : Bool) → b ≡ true → (a || b) ≡ true
or_right true b q = refl
or_right false b q = q

pub or_parts : (a b : Bool) → (a || b) ≡ true → (a ≡ true) ⊎ (b ≡ true)
or_parts true b q = inl refl
or_parts false b q = inr q

-- a test that holds wherever another does
pub any_weaken : (f g : Noted → Bool) → ((n : Noted) → f n ≡ true → g n ≡ true) → (p : List Noted) → list_any f p ≡ true → list_any g p ≡ true
any_weaken f g h [] q = q
any_weaken f g h (n ∷ p) q = elim (or_parts (f n) (list_any f p) q) [
  | inl first ↦ or_left (g n) (list_any g p) (h n first)
  | inr rest ↦ or_right (g n) (list_any g p) (any_weaken f g h p rest)
]

pub still_begun : (p : List Noted) (e : Entry) (t : Txn) → has_begun p t ≡ true → has_begun (add p e) t ≡ true
still_begun p e t q = has_begun_push p (next p e) t ∙ or_left (has_begun p t) (is_begin_of t e) q

module _ (w : Workload) where
  restart_aborts : (t : Txn) (e : Entry) → is_restart t e ≡ true → is_abort_of t e ≡ true
  restart_aborts t (Abort u cause act) q = (and_parts (is_txn t u) (is_restartable cause) q).0
  restart_aborts t other q = absurd (true≢false (sym q))

  pub again_aborted : (p : List Noted) (t : Txn) → again w p t ≡ true → has_aborted p (previous w t) ≡ true
  again_aborted p t q =
      any_weaken (λ n. is_restart (previous w t) n.entry && not (has_down_after p n.at (home w t))) (λ n. is_abort_of (previous w t) n.entry)
      (λ n r. restart_aborts (previous w t) n.entry (and_parts (is_restart (previous w t) n.entry) (not (has_down_after p n.at (home w t))) r).0)
      p (and_parts (nat_lt 0 (attempt w t)) (list_any (λ n. is_restart (previous w t) n.entry && not (has_down_after p n.at (home w t))) p) q).1

  pub begin_may : (p : List Noted) (t : Txn) (s : Site) → Placeable w p (Begin t s) → (home w t ≡ s) × (may_begin w p t ≡ true)
  begin_may p t s q = go (forced w p) refl q
    where
      go : (o : Option Entry) → forced w p ≡ o → Goes w p (Begin t s) o → (home w t ≡ s) × (may_begin w p t ≡ true)
      go None f g = g
      go (Some must) f g = absurd (forced_compels w p (Begin t s) (f ∙ ap Some (sym g)))

  pub may_parts : (p : List Noted) (t : Txn) → may_begin w p t ≡ true → (has_txn (txns w) t ≡ true) × (has_begun p t ≡ false) × ((option_map_or (is_txn t) (next_of w p (home w t)) false || again w p t) ≡ true)
  may_parts p t q =
      let a = and_parts (has_txn (txns w) t && not (has_begun p t) && is_up w p (home w t)) (option_map_or (is_txn t) (next_of w p (home w t)) false || again w p t) q in
      let b = and_parts (has_txn (txns w) t && not (has_begun p t)) (is_up w p (home w t)) a.0 in
      let c = and_parts (has_txn (txns w) t) (not (has_begun p t)) b.0 in
      (c.0, untrue (has_begun p t) c.1, a.1)
    where
      untrue : (b : Bool) → not b ≡ true → b ≡ false
      untrue true q = absurd (true≢false (sym q))
      untrue false q = refl

  -- what holds of each placed history: numbers are no larger than there are entries; a later attempt that has begun comes after an Abort of the
  -- one before; and of the first attempts of a home those before one that has begun have too
  pub record Order (p : List Noted) : Type 0 where
    pub numbered : AllByRecursion (λ (n : Noted). n.at ≤ length p) p
    pub restarted : (t : Txn) → has_begun p t ≡ true → ((attempt w t == 0) ≡ true) ⊎ (has_aborted p (previous w t) ≡ true)
    pub closed : (s : Site) (t u : Txn) → IsFirst w s t → IsFirst w s u → u.0 < t.0 → has_begun p t ≡ true → has_begun p u ≡ true

  all_add : (k : ℕ) (p : List Noted) (n : Noted) → AllByRecursion (λ (n : Noted). n.at ≤ k) p → n.at ≤ k + 1 → AllByRecursion (λ (n : Noted). n.at ≤ k + 1) (p ++ n ∷ [])
  all_add k [] n a h = (h, tt)
  all_add k (m ∷ p) n a h = ((let b = a.0 in omega (arith, b)), all_add k p n a.1 h)

  order_add : (p : List Noted) (e : Entry) → Order p → Placeable w p e → Order (add p e)
  order_add p e o q = record {
    numbered = subst (λ k. AllByRecursion (λ (n : Noted). n.at ≤ k) (add p e)) (sym (length-append p (next p e ∷ []))) (all_add (length p) p (next p e) o.numbered (omega arith));
    restarted = λ t b. elim (or_parts (has_begun p t) (is_begin_of t e) (sym (has_begun_push p (next p e) t) ∙ b)) [
      | inl old ↦ later t (o.restarted t old)
      | inr new ↦ later t (begun_now e q t new)
    ];
    closed = λ s t u f g less b. elim (or_parts (has_begun p t) (is_begin_of t e) (sym (has_begun_push p (next p e) t) ∙ b)) [
      | inl old ↦ still_begun p e u (o.closed s t u f g less old)
      | inr new ↦ still_begun p e u (before e q s t u f g less new)
    ];
  }
    where
      aborted_later : (t : Txn) → has_aborted p t ≡ true → has_aborted (add p e) t ≡ true
      aborted_later t h = list_any-append (λ n. is_abort_of t n.entry) p (next p e ∷ []) ∙ or_left _ _ h

      later : (t : Txn) → ((attempt w t == 0) ≡ true) ⊎ (has_aborted p (previous w t) ≡ true) → ((attempt w t == 0) ≡ true) ⊎ (has_aborted (add p e) (previous w t) ≡ true)
      later t (inl first) = inl first
      later t (inr due) = inr (aborted_later (previous w t) due)

      least_first : (t : Txn) (s : Site) (o : Option Txn) → Least (λ t. attempt w t == 0 && is_site s (home w t) && not (has_begun p t)) 1 (length w.programs * (w.restarts + 1)) o → option_map_or (is_txn t) o false ≡ true →
          ((attempt w t == 0) ≡ true) × ((j : ℕ) → 1 ≤ j → j < t.0 → (let u : Txn = record { 0 = j } in (attempt w u == 0 && is_site s (home w u) && not (has_begun p u)) ≡ false))
      least_first t s None l r = absurd (true≢false (sym r))
      least_first t s (Some v) l r =
          subst (λ t. ((attempt w t == 0) ≡ true) × ((j : ℕ) → 1 ≤ j → j < t.0 → (let u : Txn = record { 0 = j } in (attempt w u == 0 && is_site s (home w u) && not (has_begun p u)) ≡ false))) (same_txn v t r)
          ((and_parts (attempt w v == 0) (is_site s (home w v)) (and_parts (attempt w v == 0 && is_site s (home w v)) (not (has_begun p v)) l.yes).0).0, l.before)

      begun_now : (e : Entry) → Placeable w p e → (t : Txn) → is_begin_of t e ≡ true → ((attempt w t == 0) ≡ true) ⊎ (has_aborted p (previous w t) ≡ true)
      begun_now (Begin u s) q t b =
          let m = may_parts p u (begin_may p u s q).1 in
          subst (λ t. ((attempt w t == 0) ≡ true) ⊎ (has_aborted p (previous w t) ≡ true)) (same_txn u t b)
          (elim (or_parts (option_map_or (is_txn u) (next_of w p (home w u)) false) (again w p u) m.2) [
            | inl first ↦ inl (least_first u (home w u) (next_of w p (home w u)) (least (λ t. attempt w t == 0 && is_site (home w u) (home w t) && not (has_begun p t)) 1 (length w.programs * (w.restarts + 1))) first).0
            | inr due ↦ inr (again_aborted p u due)
          ])
      begun_now other q t b = absurd (true≢false (sym b))

      before : (e : Entry) → Placeable w p e → (s : Site) (t u : Txn) → IsFirst w s t → IsFirst w s u → u.0 < t.0 → is_begin_of t e ≡ true → has_begun p u ≡ true
      before (Begin v r) q s t u f g less b =
          let m = may_parts p v (begin_may p v r q).1 in
          let same = same_txn v t b in
          elim (or_parts (option_map_or (is_txn v) (next_of w p (home w v)) false) (again w p v) m.2) [
            | inl first ↦
                let l = (least_first v (home w v) (next_of w p (home w v)) (least (λ t. attempt w t == 0 && is_site (home w v) (home w t) && not (has_begun p t)) 1 (length w.programs * (w.restarts + 1))) first).1 u.0 (known_txn w u g.ours.known).0 (subst (λ t. u.0 < t.0) (sym same) less) in
                begun_else (attempt w u == 0) (is_site (home w v) (home w u)) (has_begun p u) g.first (at_home s (home w v) (home w u) (ap (λ t. is_site s (home w t)) same ∙ f.ours.at) g.ours.at) l
            | inr due ↦ absurd (true≢false (sym (ap (λ t. attempt w t == 0) same ∙ f.first) ∙ not_first v due))
          ]
        where
          begun_else : (a b c : Bool) → a ≡ true → b ≡ true → (a && b && not c) ≡ false → c ≡ true
          begun_else true true true x y z = refl
          begun_else true true false x y z = absurd (true≢false z)
          begun_else true false c x y z = absurd (true≢false (sym y))
          begun_else false b c x y z = absurd (true≢false (sym x))

          at_home : (s r x : Site) → is_site s r ≡ true → is_site s x ≡ true → is_site r x ≡ true
          at_home s r x a b = numbers s.0 r.0 x.0 a b
            where
              numbers : (a b c : ℕ) → (b == a) ≡ true → (c == a) ≡ true → (c == b) ≡ true
              numbers a b c x y = grind (arith, x, y)

          not_first : (t : Txn) → again w p t ≡ true → (attempt w t == 0) ≡ false
          not_first t d = positive (attempt w t) (and_parts (nat_lt 0 (attempt w t)) (list_any (λ n. is_restart (previous w t) n.entry && not (has_down_after p n.at (home w t))) p) d).0
            where
              positive : (n : ℕ) → nat_lt 0 n ≡ true → (n == 0) ≡ false
              positive n q = grind (arith, q)
      before other q s t u f g less b = absurd (true≢false (sym b))

  pub placed_order : (h : List Entry) → Placed w h → Order (noted h)
  placed_order = by_last (λ h. Placed w h → Order (noted h)) (λ l. record { numbered = tt; restarted = λ t b. absurd (true≢false (sym b)); closed = λ s t u f g less b. absurd (true≢false (sym b)) }) step
    where
      step : (h : List Entry) (e : Entry) → (Placed w h → Order (noted h)) → Placed w (h ++ e ∷ []) → Order (noted (h ++ e ∷ []))
      step h e rest l = (let q = (placed_push w h e).0 l in subst Order (sym (noted_push h e)) (order_add (noted h) e (rest q.0) q.1))
