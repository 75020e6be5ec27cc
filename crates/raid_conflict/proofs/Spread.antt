-- A search from several transactions finds them and what they reach.
use Rattle.std.proofs.Common.{◌≡◌, ◌↔◌, ℕ, ◌+◌, ◌<◌, ◌≤◌, ⊎_elim, inl, inr, true, ◌||◌, List, length, get_or, arith, sym, ◌∙◌, ap, subst}
use Rattle.std.proofs.lemmas.List.Folds.{Any-from_list_any, list_any_at}
use Rattle.std.proofs.lemmas.List.{get_or_default}
use Rattle.std.proofs.lemmas.Bool.{cases_Bool, cases_lt, or_left}
use Rattle.std.proofs.lemmas.Grind.{common_steps}
use Rattle.raid_base.specs.declared.names.Txn.{Txn}
use Rattle.raid_base.specs.Names.{is_txn, has_txn}
use Rattle.raid_rules.specs.Conflict.{Path, one, cons}
use Rattle.raid_rules.proofs.Push.{same_txn}
use Rattle.raid_rules.proofs.Paths.{join}
use Rattle.raid_rules.proofs.Txns.{or_right}
use Rattle.raid_conflict.specs.declared.tables.Tables.{Tables}
use Rattle.raid_conflict.specs.Found.{Longer}
use Rattle.raid_conflict.specs.Live.{Reached}
use Rattle.raid_conflict.specs.Search.{is_step, Step}

-- a search of which so many were followed
pub record Spreading (t : Tables) (from : List Txn) (found : List Txn) (next : ℕ) : Type 0 where
  pub within : next ≤ length found
  pub sound : (v : Txn) → has_txn found v ≡ true → Reached t from v
  pub first : (v : Txn) → has_txn from v ≡ true → has_txn found v ≡ true
  pub closed : (k : ℕ) (d : Txn) → k < next → (v : Txn) → is_step t (get_or found k d) v ≡ true → has_txn found v ≡ true

module _ (t : Tables) (from : List Txn) where
  -- it begins with the transactions themselves
  pub spread_begins : (found : List Txn) → ((v : Txn) → has_txn found v ≡ has_txn from v) → Spreading t from found 0
  spread_begins found h = record {
    within = omega arith;
    sound = λ v i. inl (sym (h v) ∙ i);
    first = λ v i. h v ∙ i;
    closed = λ k d l. absurd (omega (arith, l));
  }

  farther : (u v : Txn) → Reached t from u → is_step t u v ≡ true → Reached t from v
  farther u v (inl i) e = inr (u, i, one e)
  farther u v (inr r) e = inr (r.0, r.1, join (Step t) r.2 (one e))

  at_place : (found : List Txn) (k : ℕ) (u : Txn) → k < length found → get_or found k u ≡ u → has_txn found u ≡ true
  at_place found k u l e = list_any_at (is_txn u) found k u l (subst (λ z. is_txn u z ≡ true) (sym e) (grind (arith, common_steps)))

  -- one more was followed
  pub spread_goes_on : (found more : List Txn) (next : ℕ) (u : Txn) → Spreading t from found next → next < length found → get_or found next u ≡ u →
      ((v : Txn) → has_txn more v ≡ (has_txn found v || is_step t u v)) → Longer found more → Spreading t from more (next + 1)
  spread_goes_on found more next u s l e h g = record {
    within = omega (arith, l, g.no_less);
    sound = λ v i. (elim (cases_Bool (has_txn found v)) [
      | inl q ↦ s.sound v q
      | inr q ↦ farther u v (s.sound u (at_place found next u l e)) (grind (arith, common_steps, h v, i, q))
    ]);
    first = λ v i. h v ∙ or_left _ _ (s.first v i);
    closed = λ k d b v i.
        ⊎_elim
        (λ (early : k < next). h v ∙ or_left _ _ (s.closed k d early v (subst (λ z. is_step t z v ≡ true) (g.same k d (omega (arith, early, l))) i)))
        (λ (late : next ≤ k).
        let is : k ≡ next = omega (arith, late, b) in
        let same : get_or more k d ≡ u = ap (λ j. get_or more j d) is ∙ g.same next d l ∙ get_or_default found next d u l ∙ e in
        h v ∙ or_right (has_txn found v) _ (subst (λ z. is_step t z v ≡ true) same i))
        (cases_lt k next);
  }

  -- when all were followed, what is reached was found
  module _ (found : List Txn) (next : ℕ) (s : Spreading t from found next) (all : length found ≤ next) where
    follows : (u v : Txn) → has_txn found u ≡ true → is_step t u v ≡ true → has_txn found v ≡ true
    follows u v i e =
        let a = Any-from_list_any (is_txn u) found i in
        let same : a.1 ≡ u = same_txn a.1 u a.4 in
        s.closed a.0 a.1 (omega (arith, a.2, all)) v (subst (λ z. is_step t z v ≡ true) (sym (a.3 ∙ same)) e)

    path_on : {u v : Txn} → has_txn found u ≡ true → Path (Step t) u v → has_txn found v ≡ true
    path_on {u} {v} i (one e) = follows u v i e
    path_on {u} {v} i (cons {u = w} e p) = path_on (follows u w i e) p

    reached_found : (v : Txn) → Reached t from v → has_txn found v ≡ true
    reached_found v (inl i) = s.first v i
    reached_found v (inr r) = path_on (s.first r.0 r.1) r.2

    pub spread_ends : (v : Txn) → (has_txn found v ≡ true) ↔ Reached t from v
    spread_ends v = (s.sound v, reached_found v)
