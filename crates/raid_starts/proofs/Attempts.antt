-- Which attempts are due as the history grows: an entry makes one due that aborts the attempt before, while their home is up.
use Rattle.std.proofs.Common.{◌≡◌, ◌⊎◌, inl, inr, ℕ, zero, suc, ◌+◌, ◌-◌, ◌*◌, ◌<◌, ◌≤◌, nat_lt, Bool, true, false, not, ◌&&◌, ◌||◌, List, [], ◌∷◌, ◌++◌, length, arith, sym, subst, ap, ◌∙◌, refl}
use Rattle.std.specs.List.{AllByRecursion, list_any}
use Rattle.std.proofs.Math.Nat.{div-lt_iff_lt-mul}
use Rattle.std.proofs.lemmas.Bool.{and_parts, and_from, true≢false}
use Rattle.raid_base.specs.declared.names.Txn.{Txn}
use Rattle.raid_base.specs.declared.names.Site.{Site}
use Rattle.raid_base.specs.declared.entry.Act.{Act}
use Rattle.raid_base.specs.declared.entry.Cause.{Cause}
use Rattle.raid_base.specs.declared.entry.Entry.{Entry}
use Rattle.raid_base.specs.declared.entry.Entry.TheVariants.{Abort, Down}
use Rattle.raid_base.specs.declared.entry.Noted.{Noted}
use Rattle.raid_base.specs.Names.{is_txn, is_site, has_txn}
use Rattle.raid_workload.specs.declared.workload.Workload.{Workload}
use Rattle.raid_workload.specs.Parts.{txns, home}
use Rattle.raid_rules.specs.Entries.{is_down}
use Rattle.raid_rules.specs.History.{noted, add, next, has_begun, has_ended, is_running}
use Rattle.raid_rules.proofs.Push.{noted_push, same_txn}
use Rattle.raid_legal.specs.Seen.{attempt, again, previous, is_restart, is_restartable, has_down_after, is_up}
use Rattle.raid_steps.specs.Programs.{next_attempt}
use Rattle.raid_placed.specs.Placed.{Placed, Placeable}
use Rattle.raid_placed.proofs.Orderly.{placed_known, placeable_follows}
use Rattle.raid_placed.proofs.Sent.{placed_push}
use Rattle.raid_asks.proofs.Facts.{Order, placed_order, or_left, or_right, or_parts}
use Rattle.raid_asks.proofs.Least.{txn, known_txn, attempt_next, home_next}
use Rattle.raid_layers.proofs.Histories.{any_push}
use Rattle.raid_legal_runs.proofs.Restarts.{restart_home}

-- the entry aborts the attempt before, so that it may be tried again
pub record Restarts (w : Workload) (e : Entry) (t : Txn) : Type 0 where
  pub before : Txn
  pub cause : Cause
  pub act : Act
  pub is : e ≡ Abort before cause act
  pub may : is_restartable cause ≡ true
  pub same : before ≡ previous w t

module _ (w : Workload) where
  restarts : (t : Txn) (e : Entry) → is_restart (previous w t) e ≡ true → Restarts w e t
  restarts t (Abort u cause act) q = (let both = and_parts (is_txn (previous w t) u) (is_restartable cause) q in record { before = u; cause = cause; act = act; is = refl; may = both.1; same = same_txn u (previous w t) both.0 })
  restarts t other q = absurd (true≢false (sym q))

  -- what is due after an entry was so before, or the entry makes it so
  pub again_was : (h : List Entry) (e : Entry) (t : Txn) → again w (noted (h ++ e ∷ [])) t ≡ true → (again w (noted h) t ≡ true) ⊎ Restarts w e t
  again_was h e t due = elim (or_parts (list_any (test q) p) (test q (next p e)) (sym (any_push (test q) p (next p e)) ∙ parts.1)) [
    | inl old ↦ inl (and_from (nat_lt 0 (attempt w t)) (list_any (test p) p) parts.0 (weaken p old))
    | inr new ↦ inr (restarts t e (and_parts (is_restart (previous w t) e) (not (has_down_after q (next p e).at (home w t))) new).0)
  ]
    where
      p : List Noted
      p = noted h

      q : List Noted
      q = add (noted h) e

      test : List Noted → Noted → Bool
      test p n = is_restart (previous w t) n.entry && not (has_down_after p n.at (home w t))

      parts : (nat_lt 0 (attempt w t) ≡ true) × (list_any (test (add (noted h) e)) (add (noted h) e) ≡ true)
      parts = and_parts (nat_lt 0 (attempt w t)) (list_any (test q) q) (subst (λ p. again w p t ≡ true) (noted_push h e) due)

      fewer : (a b : Bool) → not (a || b) ≡ true → not a ≡ true
      fewer true b r = r
      fewer false b r = refl

      one : (n : Noted) → test (add (noted h) e) n ≡ true → test (noted h) n ≡ true
      one n r =
          let both = and_parts (is_restart (previous w t) n.entry) (not (has_down_after q n.at (home w t))) r in
          let down = λ (x : Noted). nat_lt n.at x.at && is_down (is_site (home w t)) x.entry in
          and_from (is_restart (previous w t) n.entry) (not (has_down_after p n.at (home w t))) both.0 (fewer (has_down_after p n.at (home w t)) (down (next p e)) (ap not (sym (any_push down p (next p e))) ∙ both.1))

      weaken : (ns : List Noted) → list_any (test (add (noted h) e)) ns ≡ true → list_any (test (noted h)) ns ≡ true
      weaken [] r = r
      weaken (n ∷ ns) r = elim (or_parts (test q n) (list_any (test q) ns) r) [
        | inl here ↦ or_left (test p n) (list_any (test p) ns) (one n here)
        | inr more ↦ or_right (test p n) (list_any (test p) ns) (weaken ns more)
      ]

  -- a Down of the home leaves nothing due there
  pub down_none : (h : List Entry) (r : Site) (t : Txn) → Placed w h → is_site (home w t) r ≡ true → again w (noted (h ++ Down r ∷ [])) t ≡ true → ⊥
  down_none h r t placed at due = none p order.numbered (elim (or_parts (list_any (test q) p) (test q (next p (Down r))) (sym (any_push (test q) p (next p (Down r))) ∙ parts.1)) [ inl old ↦ old | inr new ↦ absurd (true≢false (sym new)) ])
    where
      p : List Noted
      p = noted h

      q : List Noted
      q = add (noted h) (Down r)

      order : Order w (noted h)
      order = placed_order w h placed

      test : List Noted → Noted → Bool
      test p n = is_restart (previous w t) n.entry && not (has_down_after p n.at (home w t))

      parts : (nat_lt 0 (attempt w t) ≡ true) × (list_any (test (add (noted h) (Down r))) (add (noted h) (Down r)) ≡ true)
      parts = and_parts (nat_lt 0 (attempt w t)) (list_any (test q) q) (subst (λ p. again w p t ≡ true) (noted_push h (Down r)) due)

      before : (a n : ℕ) → a ≤ n → nat_lt a (n + 1) ≡ true
      before a n le = grind (arith, le)

      fallen : (n : Noted) → n.at ≤ length (noted h) → has_down_after (add (noted h) (Down r)) n.at (home w t) ≡ true
      fallen n le =
          let down = λ (x : Noted). nat_lt n.at x.at && is_down (is_site (home w t)) x.entry in
          any_push down p (next p (Down r)) ∙ or_right (list_any down p) (down (next p (Down r))) (and_from (nat_lt n.at (length p + 1)) (is_site (home w t) r) (before n.at (length p) le) at)

      none : (ns : List Noted) → AllByRecursion (λ (n : Noted). n.at ≤ length (noted h)) ns → list_any (test (add (noted h) (Down r))) ns ≡ true → ⊥
      none [] a found = true≢false (sym found)
      none (n ∷ ns) a found = elim (or_parts (test q n) (list_any (test q) ns) found) [
        | inl here ↦ true≢false (sym (and_parts (is_restart (previous w t) n.entry) (not (has_down_after q n.at (home w t))) here).1 ∙ ap not (fallen n a.0))
        | inr more ↦ none ns a.1 more
      ]

  -- what the Abort says that makes an attempt due
  module _ (h : List Entry) (u t : Txn) (cause : Cause) (act : Act) (placed : Placed w h) (goes : Placeable w (noted h) (Abort u cause act)) (may : is_restartable cause ≡ true) (same : u ≡ previous w t) where
    pub before_runs : is_running (noted h) u ≡ true
    before_runs = placeable_follows w (noted h) (Abort u cause act) goes

    before_known : has_txn (txns w) u ≡ true
    before_known = placed_known w h placed u (and_parts (has_begun (noted h) u) (not (has_ended (noted h) u)) before_runs).0

    pub next_is : t ≡ next_attempt w u
    next_is = ap txn (numbers t.0 u.0 (length w.programs) (ap (λ (x : Txn). x.0) same) (known_txn w u before_known).0)
      where
        numbers : (a b n : ℕ) → b ≡ a - n → 1 ≤ b → a ≡ b + n
        numbers a b n e l = omega (arith, e, l)

    pub next_home : home w t ≡ home w u
    next_home = ap (home w) next_is ∙ home_next w u before_known

    pub next_more : has_txn (txns w) t ≡ true → nat_lt (attempt w u) w.restarts ≡ true
    next_more known = less (attempt w u) w.restarts (let few = short in let one = ap (attempt w) next_is ∙ attempt_next w u before_known in omega (arith, few, one))
      where
        less : (a b : ℕ) → a < b → nat_lt a b ≡ true
        less a b q = grind (arith, q)

        within : (1 ≤ t.0) × (t.0 < 1 + length w.programs * (w.restarts + 1))
        within = known_txn w t known

        some : (n : ℕ) → 1 ≤ t.0 → t.0 < 1 + n * (w.restarts + 1) → 1 ≤ n
        some zero l g = absurd (omega (arith, l, g))
        some (suc n) l g = omega arith

        room : (a n k : ℕ) → 1 ≤ a → a < 1 + n * (k + 1) → a - 1 < (k + 1) * n
        room a n k l g = grind (arith, l, g)

        short : attempt w t < w.restarts + 1
        short = (div-lt_iff_lt-mul (some (length w.programs) within.0 within.1)).1 (room t.0 (length w.programs) w.restarts within.0 within.1)

    pub home_up : is_up w (noted h) (home w u) ≡ true
    home_up = restart_home w h u cause act ((placed_push w h (Abort u cause act)).1 (placed, goes)) may
