-- What one more entry does to the parts of the measure that are read off the history.
use Rattle.std.proofs.Common.{◌≡◌, ℕ, zero, suc, ◌+◌, ◌*◌, ◌<◌, ◌≤◌, ◌==◌, nat_lt, Bool, true, false, not, ◌&&◌, ◌||◌, List, [], ◌∷◌, ◌++◌, map, if◌then◌else◌, arith, sym, subst, ap, ◌∙◌, refl}
use Rattle.std.specs.Prelude.{count_by, slice_set, slice_index}
use Rattle.std.specs.List.{AllByRecursion, sum_by}
use Rattle.std.proofs.Math.Nat.{mul-le-mul_left}
use Rattle.std.proofs.lemmas.Bool.{true≢false, eqb-true}
use Rattle.std.proofs.lemmas.Grind.{common_steps}
use Rattle.std.proofs.lemmas.List.Sums.{sum_by-cons, sum_by_push}
use Rattle.raid_base.specs.declared.names.Txn.{Txn}
use Rattle.raid_base.specs.declared.names.Item.{Item}
use Rattle.raid_base.specs.declared.names.Site.{Site}
use Rattle.raid_base.specs.declared.entry.Noted.{Noted}
use Rattle.raid_base.specs.Names.{is_site, has_txn, has_site}
use Rattle.raid_base.specs.Sites.{site, session}
use Rattle.raid_workload.specs.declared.workload.Workload.{Workload}
use Rattle.raid_workload.specs.Parts.{count_from, txns, sites, placement, home}
use Rattle.raid_rules.specs.Entries.{is_begin_of, is_end_of, is_down, is_up as is_up_entry}
use Rattle.raid_rules.specs.History.{has_begun, has_ended}
use Rattle.raid_rules.specs.Sessions.{holders, turn_vector, turn_lock, is_copy_locked}
use Rattle.raid_rules.proofs.Push.{has_begun_push, vector_push, is_copy_locked_push}
use Rattle.raid_legal.specs.Seen.{vector, is_up, is_locked}
use Rattle.raid_legal.specs.Legal.{downs, ups}
use Rattle.raid_steps.specs.State.{SiteState}
use Rattle.raid_steps.specs.Programs.{runs_here}
use Rattle.raid_measure.specs.Measure.{start_cost, end_cost, down_cost, up_cost, ends_cost, is_idle_at, site_cost, events_of, downs_left, ups_left, turns_cost, other_downs_left}
use Rattle.raid_measure.proofs.Sums.{sum_grows, one_if}
use Rattle.raid_ends.proofs.Programs.{count_less}
use Rattle.raid_ends.proofs.Site.{times_less}

-- A sum over sites of which one has less.

pub sum_less : (f g : Site → ℕ) (z : Site) (c : ℕ) → ((r : Site) → f r ≤ g r) → ((r : Site) → is_site z r ≡ true → f r + c ≤ g r) → (ss : List Site) → has_site ss z ≡ true → sum_by f ss + c ≤ sum_by g ss
sum_less f g z c each less [] q = absurd (true≢false (sym q))
sum_less f g z c each less (r ∷ rs) q = go (is_site z r) refl q (sum_less f g z c each less rs)
  where
    rest : sum_by f rs ≤ sum_by g rs
    rest = sum_grows f g each rs

    go : (b : Bool) → is_site z r ≡ b → (b || has_site rs z) ≡ true → (has_site rs z ≡ true → sum_by f rs + c ≤ sum_by g rs) → sum_by f (r ∷ rs) + c ≤ sum_by g (r ∷ rs)
    go true e q more = let here = less r e in omega (arith, here, rest, sum_by-cons f r rs, sum_by-cons g r rs)
    go false e q more = let here = each r in let all = more q in omega (arith, here, all, sum_by-cons f r rs, sum_by-cons g r rs)

-- the same of larger terms, each of them known
pub sum_grows_in : {X : Type 0} (P : X → Type 0) (f g : X → ℕ) → ((x : X) → P x → f x ≤ g x) → (xs : List X) → AllByRecursion P xs → sum_by f xs ≤ sum_by g xs
sum_grows_in P f g each [] a = omega arith
sum_grows_in P f g each (x ∷ xs) a = let rest = sum_grows_in P f g each xs a.1 in let first = each x a.0 in omega (arith, rest, first, sum_by-cons f x xs, sum_by-cons g x xs)

-- the sites of a workload
abbrev pub IsKnown : Workload → Site → Type 0
IsKnown w s = (1 ≤ s.0) × (has_site (sites w) s ≡ true)

pub known_sites : (w : Workload) → AllByRecursion (IsKnown w) (sites w)
known_sites w = each 1 w.sites (omega arith) (sites w) (λ s q. q)
  where
    self : (n : ℕ) (b : Bool) → ((n == n) || b) ≡ true
    self n b = grind (arith, common_steps)

    later : (a b : Bool) → b ≡ true → (a || b) ≡ true
    later true b q = refl
    later false b q = q

    each : (k n : ℕ) → 1 ≤ k → (all : List Site) → ((s : Site) → has_site (map site (count_from k n)) s ≡ true → has_site all s ≡ true) → AllByRecursion (λ s. (1 ≤ s.0) × (has_site all s ≡ true)) (map site (count_from k n))
    each k zero l all inside = tt
    each k (suc n) l all inside = (
      (l, inside (site k) (self k (has_site (map site (count_from (k + 1) n)) (site k)))),
      each (k + 1) n (omega arith) all (λ s q. inside s (later (k == s.0) (has_site (map site (count_from (k + 1) n)) s) q)),
    )

pub same_site : (s r : Site) → is_site s r ≡ true → r ≡ s
same_site s r q = ap (λ k. let z : Site = record { 0 = k } in z) (eqb-true r.0 s.0 q)

module _ (w : Workload) (p : List Noted) (n : Noted) where
  abbrev pub after : List Noted
  after = p ++ n ∷ []

  -- Ends.

  ended_push : (t : Txn) → has_ended after t ≡ (has_ended p t || is_end_of t n.entry)
  ended_push t = grind (arith, common_steps)

  fewer_ended : (t : Txn) → one_if (not (has_ended after t)) ≤ one_if (not (has_ended p t))
  fewer_ended t = subst (λ b. one_if (not b) ≤ one_if (not (has_ended p t))) (sym (ended_push t)) (less (has_ended p t) (is_end_of t n.entry))
    where
      less : (a b : Bool) → one_if (not (a || b)) ≤ one_if (not a)
      less true b = omega arith
      less false true = omega arith
      less false false = omega arith

  pub ends_less : ends_cost w after ≤ ends_cost w p
  ends_less = mul-le-mul_left (end_cost w) (sum_grows (λ t. one_if (not (has_ended after t))) (λ t. one_if (not (has_ended p t))) fewer_ended (txns w))

  pub one_ends : (t : Txn) → has_txn (txns w) t ≡ true → has_ended p t ≡ false → is_end_of t n.entry ≡ true → ends_cost w after + end_cost w ≤ ends_cost w p
  one_ends t known runs is =
      times_less (end_cost w) (count_by (λ t. not (has_ended after t)) (txns w)) (count_by (λ t. not (has_ended p t)) (txns w))
      (count_less (λ t. not (has_ended after t)) (λ t. not (has_ended p t)) t fewer_ended (ap not (ended_push t ∙ later (has_ended p t) (is_end_of t n.entry) is)) (ap not runs) (txns w) known)
    where
      later : (a b : Bool) → b ≡ true → (a || b) ≡ true
      later true b q = refl
      later false b q = q

  -- Begins.

  pub sites_less : (ss : List SiteState) → sum_by (site_cost w after) ss ≤ sum_by (site_cost w p) ss
  sites_less ss = sum_grows (site_cost w after) (site_cost w p) one ss
    where
      less : (a b c d : Bool) → one_if (a && not (b || c) && not d) ≤ one_if (a && not b && not d)
      less true true c d = omega arith
      less true false true d = omega arith
      less true false false d = omega arith
      less false b c d = omega arith

      one : (s : SiteState) → site_cost w after s ≤ site_cost w p s
      one s =
          let fewer = sum_grows (λ t. one_if (is_idle_at w after s t)) (λ t. one_if (is_idle_at w p s t))
          (λ t. subst (λ b. one_if (is_site s.site (home w t) && not b && not (runs_here s t)) ≤ one_if (is_idle_at w p s t)) (sym (has_begun_push p n t)) (less (is_site s.site (home w t)) (has_begun p t) (is_begin_of t n.entry) (runs_here s t))) (txns w) in
          let times : start_cost w * count_by (is_idle_at w after s) (txns w) ≤ start_cost w * count_by (is_idle_at w p s) (txns w) = mul-le-mul_left (start_cost w) fewer in
          omega (arith, times)

  -- Downs and Ups.

  pub downs_push : (s : Site) → downs after s ≡ downs p s + one_if (is_down (is_site s) n.entry)
  downs_push s = sum_by_push (λ (n : Noted). one_if (is_down (is_site s) n.entry)) p n

  pub ups_push : (s : Site) → ups after s ≡ ups p s + one_if (is_up_entry (is_site s) n.entry)
  ups_push s = sum_by_push (λ (n : Noted). one_if (is_up_entry (is_site s) n.entry)) p n

  pub downs_less : (s : Site) → downs_left w after s ≤ downs_left w p s
  downs_less s = let more = downs_push s in omega (arith, more)

  pub ups_less : (s : Site) → ups_left w after s ≤ ups_left w p s
  ups_less s = let more = ups_push s in omega (arith, more)

  turns_less_at : (s : Site) → turns_cost w after s ≤ turns_cost w p s
  turns_less_at s =
      let down : down_cost w * downs_left w after s ≤ down_cost w * downs_left w p s = mul-le-mul_left (down_cost w) (downs_less s) in
      let up : up_cost w * ups_left w after s ≤ up_cost w * ups_left w p s = mul-le-mul_left (up_cost w) (ups_less s) in
      omega (arith, down, up)

  pub turns_less : sum_by (turns_cost w after) (sites w) ≤ sum_by (turns_cost w p) (sites w)
  turns_less = sum_grows (turns_cost w after) (turns_cost w p) turns_less_at (sites w)

  pub others_less : (s : Site) → other_downs_left w after s ≤ other_downs_left w p s
  others_less s = sum_grows (λ r. if is_site s r then 0 else downs_left w after r) (λ r. if is_site s r then 0 else downs_left w p r) (λ r. less (is_site s r) (downs_left w after r) (downs_left w p r) (downs_less r)) (sites w)
    where
      less : (b : Bool) (x y : ℕ) → x ≤ y → (if b then 0 else x) ≤ (if b then 0 else y)
      less true x y l = omega arith
      less false x y l = l

  -- the site goes down, or comes up
  module _ (z : Site) (known : has_site (sites w) z ≡ true) where
    pub one_down : is_down (is_site z) n.entry ≡ true → downs p z < events_of w true z → downs_left w after z + 1 ≤ downs_left w p z
    one_down is l = let more = downs_push z in let one : one_if (is_down (is_site z) n.entry) ≡ 1 = ap one_if is in omega (arith, more, one, l)

    pub one_up : is_up_entry (is_site z) n.entry ≡ true → ups p z < events_of w false z → ups_left w after z + 1 ≤ ups_left w p z
    one_up is l = let more = ups_push z in let one : one_if (is_up_entry (is_site z) n.entry) ≡ 1 = ap one_if is in omega (arith, more, one, l)

    pub turns_down : downs_left w after z + 1 ≤ downs_left w p z → sum_by (turns_cost w after) (sites w) + down_cost w ≤ sum_by (turns_cost w p) (sites w)
    turns_down l = sum_less (turns_cost w after) (turns_cost w p) z (down_cost w) turns_less_at (λ r e. subst (λ s. turns_cost w after s + down_cost w ≤ turns_cost w p s) (sym (same_site z r e)) here) (sites w) known
      where
        here : turns_cost w after z + down_cost w ≤ turns_cost w p z
        here =
            let down = times_less (down_cost w) (downs_left w after z) (downs_left w p z) l in
            let up : up_cost w * ups_left w after z ≤ up_cost w * ups_left w p z = mul-le-mul_left (up_cost w) (ups_less z) in
            let sums : (a b c d e : ℕ) → a + c ≤ b → d ≤ e → (a + d) + c ≤ b + e = (λ a b c d e l m. omega (arith, l, m)) in
            sums (down_cost w * downs_left w after z) (down_cost w * downs_left w p z) (down_cost w) (up_cost w * ups_left w after z) (up_cost w * ups_left w p z) down up

    pub turns_up : ups_left w after z + 1 ≤ ups_left w p z → sum_by (turns_cost w after) (sites w) + up_cost w ≤ sum_by (turns_cost w p) (sites w)
    turns_up l = sum_less (turns_cost w after) (turns_cost w p) z (up_cost w) turns_less_at (λ r e. subst (λ s. turns_cost w after s + up_cost w ≤ turns_cost w p s) (sym (same_site z r e)) here) (sites w) known
      where
        here : turns_cost w after z + up_cost w ≤ turns_cost w p z
        here =
            let up = times_less (up_cost w) (ups_left w after z) (ups_left w p z) l in
            let down : down_cost w * downs_left w after z ≤ down_cost w * downs_left w p z = mul-le-mul_left (down_cost w) (downs_less z) in
            let sums : (a b c d e : ℕ) → a + c ≤ b → d ≤ e → (d + a) + c ≤ e + b = (λ a b c d e l m. omega (arith, l, m)) in
            sums (up_cost w * ups_left w after z) (up_cost w * ups_left w p z) (up_cost w) (down_cost w * downs_left w after z) (down_cost w * downs_left w p z) up down

    pub others_down : (s : Site) → is_site s z ≡ false → downs_left w after z + 1 ≤ downs_left w p z → other_downs_left w after s + 1 ≤ other_downs_left w p s
    others_down s other l =
        sum_less (λ r. if is_site s r then 0 else downs_left w after r) (λ r. if is_site s r then 0 else downs_left w p r) z 1 (λ r. less (is_site s r) (downs_left w after r) (downs_left w p r) (downs_less r))
        (λ r e. subst (λ r. (if is_site s r then 0 else downs_left w after r) + 1 ≤ (if is_site s r then 0 else downs_left w p r)) (sym (same_site z r e)) (here (is_site s z) other)) (sites w) known
      where
        less : (b : Bool) (x y : ℕ) → x ≤ y → (if b then 0 else x) ≤ (if b then 0 else y)
        less true x y l = omega arith
        less false x y l = l

        here : (b : Bool) → b ≡ false → (if b then 0 else downs_left w after z) + 1 ≤ (if b then 0 else downs_left w p z)
        here true q = absurd (true≢false q)
        here false q = l

  -- Sessions.

  -- a site that stays as it was
  pub up_still : (s : Site) → turn_vector (vector w p) n.entry ≡ vector w p → is_up w after s ≡ is_up w p s
  up_still s q = ap (λ v. nat_lt 0 (session v s)) (vector_push w.sites p n ∙ q)

  pub up_turned : (s : Site) → is_up w after s ≡ nat_lt 0 (session (turn_vector (vector w p) n.entry) s)
  up_turned s = ap (λ v. nat_lt 0 (session v s)) (vector_push w.sites p n)

  pub locked_turned : (s : Site) (x : Item) → is_locked w after s x ≡ (has_site (holders (placement w) x) s && turn_lock s x p (is_copy_locked p s x) n.entry)
  locked_turned s x = ap (λ b. has_site (holders (placement w) x) s && b) (is_copy_locked_push p n s x)

-- a session that is set, and another one
pub session_none : (v : List ℕ) (k : ℕ) → slice_index (slice_set v k 0) k ≡ 0
session_none [] k = refl
session_none (x ∷ v) zero = refl
session_none (x ∷ v) (suc k) = session_none v k

pub session_other : (v : List ℕ) (j k m : ℕ) → (j == k) ≡ false → slice_index (slice_set v j m) k ≡ slice_index v k
session_other [] j k m q = refl
session_other (x ∷ v) zero zero m q = absurd (cc q)
session_other (x ∷ v) zero (suc k) m q = refl
session_other (x ∷ v) (suc j) zero m q = refl
session_other (x ∷ v) (suc j) (suc k) m q = session_other v j k m (grind (arith, common_steps, q))
