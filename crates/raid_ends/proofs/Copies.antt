-- What one more entry does to the part of the measure that copies have.
use Rattle.std.proofs.Common.{◌≡◌, ℕ, ℤ, ◌+◌, ◌-◌, ◌*◌, ◌<◌, ◌≤◌, ◌==◌, nat_lt, Bool, true, false, not, ◌&&◌, ◌||◌, List, [], ◌∷◌, filter, if◌then◌else◌, arith, sym, subst, ap, ◌∙◌, refl}
use Rattle.std.specs.List.{list_any, sum_by}
use Rattle.std.proofs.lemmas.Bool.{true≢false, and_parts, eqb-true}
use Rattle.std.proofs.lemmas.Grind.{common_steps}
use Rattle.raid_base.specs.declared.names.Txn.{Txn}
use Rattle.raid_base.specs.declared.names.Item.{Item}
use Rattle.raid_base.specs.declared.names.Site.{Site}
use Rattle.raid_base.specs.declared.request.Request.{Request}
use Rattle.raid_base.specs.declared.entry.Entry.{Entry}
use Rattle.raid_base.specs.declared.entry.Entry.TheVariants.{Commit, Down, Up, Clear}
use Rattle.raid_base.specs.declared.entry.Noted.{Noted}
use Rattle.raid_base.specs.Names.{is_item, is_site, has_site, holds}
use Rattle.raid_workload.specs.declared.workload.Workload.{Workload}
use Rattle.raid_workload.specs.Parts.{sites, items, placement}
use Rattle.raid_rules.specs.Sessions.{holders, turn_vector, turn_lock, is_copy_locked}
use Rattle.raid_legal.specs.Seen.{vector, is_up, is_locked, holds_some, up_holders}
use Rattle.raid_legal.specs.Legal.{downs, ups}
use Rattle.raid_steps.specs.State.{Copying}
use Rattle.raid_steps.specs.Sequencer.{ends_copying}
use Rattle.raid_measure.specs.Measure.{copier_cost, events_of, ups_left, other_downs_left}
use Rattle.raid_measure.proofs.Sums.{sum_grows, one_if}
use Rattle.raid_ends.proofs.Histories.{sum_grows_in, IsKnown, known_sites, same_site, after, ups_less, others_less, one_down, one_up, others_down, up_still, up_turned, locked_turned, session_none, session_other}

-- a site that passes is among those that pass
pub chosen : (test : Site → Bool) (s : Site) (ss : List Site) → test s ≡ true → has_site ss s ≡ true → has_site (filter test ss) s ≡ true
chosen test s [] t q = absurd (true≢false (sym q))
chosen test s (r ∷ rs) t q = go (is_site s r) refl (test r) refl q (chosen test s rs t)
  where
    go : (b : Bool) → is_site s r ≡ b → (c : Bool) → test r ≡ c → (b || has_site rs s) ≡ true → (has_site rs s ≡ true → has_site (filter test rs) s ≡ true) → has_site (if c then r ∷ filter test rs else filter test rs) s ≡ true
    go true e true d q rest = ap (λ b. b || has_site (filter test rs) s) e
    go true e false d q rest = absurd (true≢false (sym t ∙ ap test (sym (same_site s r e)) ∙ d))
    go false e true d q rest = ap (λ b. b || has_site (filter test rs) s) e ∙ rest q
    go false e false d q rest = rest q

module _ (w : Workload) where
  -- the copy is under way
  abbrev pub way : List Copying → Site → Item → Bool
  way copying s x = list_any (λ (c : Copying). is_site s c.target && is_item x c.item) copying

  abbrev pub renew_at : List Noted → List Copying → Site → Item → Bool
  renew_at p copying s x = is_up w p s && is_locked w p s x && not (way copying s x)

  abbrev pub inner : List Noted → List Copying → Site → Item → ℕ
  inner p copying s x = ups_left w p s + other_downs_left w p s + one_if (renew_at p copying s x)

  abbrev pub copy_at : List Noted → List Copying → Site → Item → ℕ
  copy_at p copying s x = if has_site (holders (placement w) x) s then copier_cost * inner p copying s x else 0

  abbrev pub copies_at : List Noted → List Copying → ℕ
  copies_at p copying = sum_by (λ s. sum_by (copy_at p copying s) (items w)) (sites w)

  pub copies_less : (p q : List Noted) (out still : List Copying) → ((s : Site) → IsKnown w s → (x : Item) → inner q still s x ≤ inner p out s x) → copies_at q still ≤ copies_at p out
  copies_less p q out still each =
      sum_grows_in (IsKnown w) (λ s. sum_by (copy_at q still s) (items w)) (λ s. sum_by (copy_at p out s) (items w))
      (λ s k. sum_grows (copy_at q still s) (copy_at p out s) (λ x. less (has_site (holders (placement w) x) s) (inner q still s x) (inner p out s x) (each s k x)) (items w)) (sites w) (known_sites w)
    where
      less : (b : Bool) (m n : ℕ) → m ≤ n → (if b then copier_cost * m else 0) ≤ (if b then copier_cost * n else 0)
      less true m n l = omega (arith, l)
      less false m n l = omega arith

  pub at_most_one : (b : Bool) → one_if b ≤ 1
  at_most_one true = omega arith
  at_most_one false = omega arith

  -- no more copies are to be renewed
  pub renew_less : (u l y m z : Bool) → (u ≡ true → m ≡ true → l ≡ true) → (u ≡ true → m ≡ true → y ≡ true → z ≡ true) → one_if (u && m && not z) ≤ one_if (u && l && not y)
  renew_less false l y m z locked kept = omega arith
  renew_less true l y false z locked kept = omega arith
  renew_less true false y true z locked kept = absurd (true≢false (sym (locked refl refl)))
  renew_less true true false true z locked kept = at_most_one (not z)
  renew_less true true true true false locked kept = absurd (true≢false (sym (kept refl refl refl)))
  renew_less true true true true true locked kept = omega arith

  -- what doesn't end is still under way
  pub kept_way : (test ends : Copying → Bool) (out : List Copying) → ((c : Copying) → test c ≡ true → ends c ≡ false) → list_any test out ≡ true → list_any test (filter (λ c. not (ends c)) out) ≡ true
  kept_way test ends [] stays q = absurd (true≢false (sym q))
  kept_way test ends (c ∷ cs) stays q = go (test c) refl (ends c) refl q (kept_way test ends cs stays)
    where
      left : List Copying
      left = filter (λ c. not (ends c)) cs

      go : (a : Bool) → test c ≡ a → (b : Bool) → ends c ≡ b → (a || list_any test cs) ≡ true → (list_any test cs ≡ true → list_any test left ≡ true) → list_any test (if not b then c ∷ left else left) ≡ true
      go true t true e q rest = absurd (true≢false (sym e ∙ stays c t))
      go true t false e q rest = ap (λ b. b || list_any test left) t
      go false t true e q rest = rest q
      go false t false e q rest = ap (λ b. b || list_any test left) t ∙ rest q

  module _ (p : List Noted) (at stamp : ℕ) (out : List Copying) where
    abbrev pub note : Entry → Noted
    note e = record { at = at; stamp = stamp; entry = e }

    abbrev pub still : Entry → List Copying
    still e = filter (λ c. not (ends_copying e c)) out

    abbrev locked_after : Entry → Site → Item → Bool
    locked_after e s x = has_site (holders (placement w) x) s && turn_lock s x p (is_copy_locked p s x) e

    -- one site, whose session and locks the entry leaves
    stays_at : (e : Entry) (s : Site) (x : Item) → is_up w (after w p (note e)) s ≡ is_up w p s → (is_up w p s ≡ true → locked_after e s x ≡ true → is_locked w p s x ≡ true) →
        (is_up w p s ≡ true → locked_after e s x ≡ true → (c : Copying) → (is_site s c.target && is_item x c.item) ≡ true → ends_copying e c ≡ false) → inner (after w p (note e)) (still e) s x ≤ inner p out s x
    stays_at e s x same locked kept =
        let up = ups_less w p (note e) s in
        let others = others_less w p (note e) s in
        let renew : one_if (renew_at (after w p (note e)) (still e) s x) ≤ one_if (renew_at p out s x) =
        subst (λ u. one_if (u && is_locked w (after w p (note e)) s x && not (way (still e) s x)) ≤ one_if (renew_at p out s x)) (sym same)
        (subst (λ l. one_if (is_up w p s && l && not (way (still e) s x)) ≤ one_if (renew_at p out s x)) (sym (locked_turned w p (note e) s x))
        (renew_less (is_up w p s) (is_locked w p s x) (way out s x) (locked_after e s x) (way (still e) s x) locked (λ u l y. kept_way (λ (c : Copying). is_site s c.target && is_item x c.item) (ends_copying e) out (kept u l) y))) in
        omega (arith, up, others, renew)

    -- an entry that leaves all sessions
    pub steady : (e : Entry) → turn_vector (vector w p) e ≡ vector w p → ((s : Site) → IsKnown w s → (x : Item) → is_up w p s ≡ true → locked_after e s x ≡ true → is_locked w p s x ≡ true) →
        ((s : Site) → IsKnown w s → (x : Item) → is_up w p s ≡ true → locked_after e s x ≡ true → (c : Copying) → (is_site s c.target && is_item x c.item) ≡ true → ends_copying e c ≡ false) →
        copies_at (after w p (note e)) (still e) ≤ copies_at p out
    steady e vec locked kept = copies_less p (after w p (note e)) out (still e) (λ s k x. stays_at e s x (up_still w p (note e) s vec) (locked s k x) (kept s k x))

    -- a copy is cleared
    pub cleared : (z : Site) (y : Item) (v : ℕ) → copies_at (after w p (note (Clear z y v))) (still (Clear z y v)) ≤ copies_at p out
    cleared z y v = steady (Clear z y v) refl (λ s k x u l. less (has_site (holders (placement w) x) s) (is_copy_locked p s x) (is_site s z && is_item x y) l) (λ s k x u l c t. refl)
      where
        less : (a b c : Bool) → (a && (b && not c)) ≡ true → (a && b) ≡ true
        less true true c q = refl
        less true false c q = q
        less false b c q = q

    -- a Commit is applied at each up holder, so that only copies at sites that are down are locked
    pub committed : (t : Txn) (request : Request) (applied : List Site) → applied ≡ up_holders w p request.writes → copies_at (after w p (note (Commit t request applied))) (still (Commit t request applied)) ≤ copies_at p out
    committed t request applied is = steady (Commit t request applied) refl
        (λ s k x u l. subst (λ b. (has_site (holders (placement w) x) s && b) ≡ true) (ap (λ h. if h then not (has_site applied s) else is_copy_locked p s x) (unwritten s k x u l)) l)
        (λ s k x u l c i. none (has_site applied c.target) (holds c.item request.writes) (ap (λ y. holds y request.writes) (same_item x c.item (and_parts (is_site s c.target) (is_item x c.item) i).1) ∙ unwritten s k x u l))
      where
        none : (a b : Bool) → b ≡ false → (a && b) ≡ false
        none true b q = q
        none false b q = refl

        same_item : (x y : Item) → is_item x y ≡ true → y ≡ x
        same_item x y q = ap (λ k. let z : Item = record { 0 = k } in z) (eqb-true y.0 x.0 q)

        -- the site is among the up holders of what is written
        some_held : (s : Site) (x : Item) (writes : List (Item × ℤ)) → holds x writes ≡ true → has_site (holders (placement w) x) s ≡ true → holds_some w writes s ≡ true
        some_held s x [] q h = absurd (true≢false (sym q))
        some_held s x (pair ∷ writes) q h = go (is_item x pair.0) refl q (λ q. some_held s x writes q h)
          where
            go : (b : Bool) → is_item x pair.0 ≡ b → (b || holds x writes) ≡ true → (holds x writes ≡ true → holds_some w writes s ≡ true) → (has_site (holders (placement w) pair.0) s || holds_some w writes s) ≡ true
            go true e q rest = ap (λ b. b || holds_some w writes s) (ap (λ y. has_site (holders (placement w) y) s) (same_item x pair.0 e) ∙ h)
            go false e q rest = later (has_site (holders (placement w) pair.0) s) (holds_some w writes s) (rest q)
              where
                later : (a b : Bool) → b ≡ true → (a || b) ≡ true
                later true b q = refl
                later false b q = q

        both : (a b : Bool) → a ≡ true → b ≡ true → (a && b) ≡ true
        both true b p q = q
        both false b p q = absurd (true≢false (sym p))

        -- a copy that stays locked at an up site isn't written
        unwritten : (s : Site) → IsKnown w s → (x : Item) → is_up w p s ≡ true → locked_after (Commit t request applied) s x ≡ true → holds x request.writes ≡ false
        unwritten s k x u l = go (holds x request.writes) refl
          where
            go : (b : Bool) → holds x request.writes ≡ b → b ≡ false
            go false e = refl
            go true e =
                let parts = and_parts (has_site (holders (placement w) x) s) (turn_lock s x p (is_copy_locked p s x) (Commit t request applied)) l in
                let there : has_site applied s ≡ true = ap (λ ss. has_site ss s) is ∙ chosen (λ s. is_up w p s && holds_some w request.writes s) s (sites w) (both (is_up w p s) (holds_some w request.writes s) u (some_held s x request.writes e parts.0)) k.1 in
                let out : not (has_site applied s) ≡ true = sym (ap (λ h. if h then not (has_site applied s) else is_copy_locked p s x) e) ∙ parts.1 in
                absurd (true≢false (sym out ∙ ap not there))

    -- a site comes up: one copy of it more may be renewed, for each item
    pub risen : (z : Site) (k : ℕ) → has_site (sites w) z ≡ true → 1 ≤ z.0 → ups p z < events_of w false z → copies_at (after w p (note (Up z k))) (still (Up z k)) ≤ copies_at p out
    risen z k known least more = copies_less p (after w p (note (Up z k))) out (still (Up z k)) each
      where
        self : (a : ℕ) → (a == a) ≡ true
        self a = grind arith

        apart : (a b : ℕ) → 1 ≤ a → 1 ≤ b → (b == a) ≡ false → (a - 1 == b - 1) ≡ false
        apart a b l m q = grind (arith, common_steps, l, m, q)

        each : (s : Site) → IsKnown w s → (x : Item) → inner (after w p (note (Up z k))) (still (Up z k)) s x ≤ inner p out s x
        each s i x = go (is_site z s) refl
          where
            go : (b : Bool) → is_site z s ≡ b → inner (after w p (note (Up z k))) (still (Up z k)) s x ≤ inner p out s x
            go true e =
                let up : ups_left w (after w p (note (Up z k))) s + 1 ≤ ups_left w p s = subst (λ r. ups_left w (after w p (note (Up z k))) r + 1 ≤ ups_left w p r) (sym (same_site z s e)) (one_up w p (note (Up z k)) z known (self z.0) more) in
                let others = others_less w p (note (Up z k)) s in
                let one = at_most_one (renew_at (after w p (note (Up z k))) (still (Up z k)) s x) in
                omega (arith, up, others, one)
            go false e =
                stays_at (Up z k) s x (up_turned w p (note (Up z k)) s ∙ ap (λ n. nat_lt 0 n) (session_other (vector w p) (z.0 - 1) (s.0 - 1) k (apart z.0 s.0 least i.0 e)))
                (λ u l. l) (λ u l c t. refl)

    -- a site goes down: copies of others that it was the source of may have to be renewed again
    pub fallen : (z : Site) → has_site (sites w) z ≡ true → downs p z < events_of w true z → copies_at (after w p (note (Down z))) (still (Down z)) ≤ copies_at p out
    fallen z known more = copies_less p (after w p (note (Down z))) out (still (Down z)) each
      where
        self : (a : ℕ) → (a == a) ≡ true
        self a = grind arith

        turned : (a b : ℕ) → (a == b) ≡ false → (b == a) ≡ false
        turned a b q = grind (arith, q)

        each : (s : Site) → IsKnown w s → (x : Item) → inner (after w p (note (Down z))) (still (Down z)) s x ≤ inner p out s x
        each s i x = go (is_site z s) refl
          where
            go : (b : Bool) → is_site z s ≡ b → inner (after w p (note (Down z))) (still (Down z)) s x ≤ inner p out s x
            go true e =
                let down : is_up w (after w p (note (Down z))) s ≡ false = subst (λ r. is_up w (after w p (note (Down z))) r ≡ false) (sym (same_site z s e)) (up_turned w p (note (Down z)) z ∙ ap (λ n. nat_lt 0 n) (session_none (vector w p) (z.0 - 1))) in
                let none : one_if (renew_at (after w p (note (Down z))) (still (Down z)) s x) ≡ 0 = ap (λ u. one_if (u && is_locked w (after w p (note (Down z))) s x && not (way (still (Down z)) s x))) down in
                let up = ups_less w p (note (Down z)) s in
                let others = others_less w p (note (Down z)) s in
                omega (arith, none, up, others)
            go false e =
                let others = others_down w p (note (Down z)) z known s (turned s.0 z.0 e) (one_down w p (note (Down z)) z known (self z.0) more) in
                let up = ups_less w p (note (Down z)) s in
                let one = at_most_one (renew_at (after w p (note (Down z))) (still (Down z)) s x) in
                omega (arith, others, up, one)
