-- Where one of two controllers in force locks or stamps, only transactions from before the switch hold up its end.
use Rattle.std.proofs.Common.{◌≡◌, ℕ, ◌<◌, ◌⊎◌, inl, inr, Bool, true, false, not, ◌||◌, cond, nat_lt, List, [], ◌∷◌, length, arith, sym, ◌∙◌, ap, subst, refl, Some}
use Rattle.std.specs.Prelude.{is_some}
use Rattle.std.specs.List.{list_any, filter}
use Rattle.std.proofs.lemmas.Bool.{true≢false, or_left}
use Rattle.std.proofs.lemmas.Grind.{common_steps}
use Rattle.raid_base.specs.declared.names.Txn.{Txn}
use Rattle.raid_base.specs.declared.entry.Entry.{Entry as Real}
use Rattle.raid_base.specs.declared.entry.Noted.{Noted as RNoted}
use Rattle.raid_base.specs.declared.verdict.Kind.{Kind as RKind}
use Rattle.raid_base.specs.declared.verdict.Kind.TheVariants.{Lock, Stamp, Valid, Graph}
use Rattle.raid_base.specs.Names.{has_txn}
use Rattle.raid_workload.specs.declared.workload.Workload.{Workload}
use Rattle.raid_workload.specs.Parts.{txns}
use Rattle.raid_rules.specs.History.{noted as noted_in, stamp as stamp_in, is_running}
use Rattle.raid_rules.specs.Conflict.{Edge as REdge, Path, one as rone, cons as rcons, edges, reached}
use Rattle.raid_rules.proofs.Edges.{leads_iff}
use Rattle.raid_legal.specs.Seen.{running}
use Rattle.raid_legal.specs.InForce.{in_force, is_tied, end_due, is_over}
use Rattle.raid_legal.specs.Legal.{Legal}
use Rattle.raid_serial.specs.Kinds.{locks_or_stamps}
use Rattle.raid_serial.proofs.Graph.{Reach, one, cons}
use Rattle.raid_serial.proofs.Model.{Edge}
use Rattle.raid_serial.proofs.Verdicts.{lock, stamp}
use Rattle.raid_serial.proofs.System.{Hist}
use Rattle.raid_serial.proofs.Theorem.{State, inv}
use Rattle.raid_serial.proofs.Corollaries.{none_old}
use Rattle.raid_serial.proofs.Translate.{txn, kind_of, hist_of, cases_true, eq_self, rep_hist, mem_txn}
use Rattle.raid_serial.proofs.Real.{edge_model, run_model, lt_true, true_lt}
use Rattle.raid_serial.proofs.Tamed.{state_of, Now, Stands, legal_stands}
use Rattle.raid_serial.proofs.Force.{legal_spares}
use Rattle.raid_serial.proofs.Views.{same_tests}

pub path_model : (p : List RNoted) → {t u : Txn} → Path (REdge p) t u → Reach (Edge (Hist (hist_of p))) t.0 u.0
path_model p {t} {u} (rone e) = one (edge_model (Hist (hist_of p)) p (rep_hist p) t u e)
path_model p {t} {u} (rcons {u = v} e q) = cons (edge_model (Hist (hist_of p)) p (rep_hist p) t v e) (path_model p q)

-- one of the list passes a test that some of it pass
pub passing : (f : Txn → Bool) (ts : List Txn) → list_any f ts ≡ true → (t : Txn) × (has_txn ts t ≡ true) × (f t ≡ true)
passing f [] e = absurd (true≢false (sym e))
passing f (t ∷ ts) e = elim (cases_true (f t)) [
  | inl q ↦ (t, or_left _ _ (eq_self t.0 t.0 refl), q)
  | inr q ↦ (let r = passing f ts (grind (arith, common_steps, e, q)) in (r.0, grind (arith, common_steps, r.1), r.2))
]

-- tests that agree on those kept agree on whether one of them passes
pub same_any : (f g keep : Txn → Bool) (ts : List Txn) → ((t : Txn) → keep t ≡ true → f t ≡ g t) → list_any f (filter keep ts) ≡ list_any g (filter keep ts)
same_any f g keep [] same = refl
same_any f g keep (t ∷ ts) same = go (keep t) refl (same_any f g keep ts same)
  where
    go : (b : Bool) → keep t ≡ b → list_any f (filter keep ts) ≡ list_any g (filter keep ts) → list_any f (cond b (t ∷ filter keep ts) (filter keep ts)) ≡ list_any g (cond b (t ∷ filter keep ts) (filter keep ts))
    go true q rest = ap (λ b. b || list_any f (filter keep ts)) (same t q) ∙ ap (λ b. g t || b) rest
    go false q rest = rest

abstract_kind : (kind : RKind) → locks_or_stamps kind ≡ true → (kind_of kind ≡ lock) ⊎ (kind_of kind ≡ stamp)
abstract_kind Lock q = inl refl
abstract_kind Stamp q = inr refl
abstract_kind Valid q = absurd (true≢false (sym q))
abstract_kind Graph q = absurd (true≢false (sym q))

either_kind : (a b : RKind) → (locks_or_stamps a || locks_or_stamps b) ≡ true → ((kind_of a ≡ lock) ⊎ (kind_of a ≡ stamp)) ⊎ ((kind_of b ≡ lock) ⊎ (kind_of b ≡ stamp))
either_kind a b q = elim (cases_true (locks_or_stamps a)) [
  | inl e ↦ inl (abstract_kind a e)
  | inr e ↦ inr (abstract_kind b (grind (arith, common_steps, q, e)))
]

module _ (w : Workload) (h : List Real) (l : Legal w h) (c : RKind × ℕ) (both : (in_force w (noted_in h)).next ≡ Some c) (kinds : (locks_or_stamps (in_force w (noted_in h)).kind || locks_or_stamps c.0) ≡ true) where
  abbrev p : List RNoted
  p = noted_in h

  abbrev S : ℕ → ℕ
  S k = stamp_in p (txn k)

  abbrev st : Stands S w p
  st = legal_stands w h l

  abbrev state : State
  state = state_of (hist_of p) (length p) (in_force w p) st.joint st.newer st.since

  now : (st.joint ≡ true) × (st.newer ≡ kind_of c.0) × (st.since ≡ c.1)
  now = subst (Now st.joint st.newer st.since) both st.now

  spared : (in_force w p).off ≡ []
  spared = legal_spares w h l (ap is_some both)

  none_older : (t u : Txn) → is_running p t ≡ true → nat_lt (stamp_in p t) c.1 ≡ false → Path (REdge p) t u → nat_lt (stamp_in p u) c.1 ≡ true → ⊥
  none_older t u run young path old =
      none_old S state (inv S st.tame) now.0 t.0
      (run_model (Hist (hist_of p)) p (rep_hist p) t.0 run, λ m. true≢false (sym (mem_txn t.0 (in_force w p).off m) ∙ ap (λ ts. has_txn ts t) spared))
      (λ less. true≢false (sym (lt_true (stamp_in p t) c.1 (let q : st.since ≡ c.1 = now.2 in let r : stamp_in p t < st.since = less in omega arith)) ∙ young))
      (subst (λ k. ((kind_of (in_force w p).kind ≡ lock) ⊎ (kind_of (in_force w p).kind ≡ stamp)) ⊎ ((k ≡ lock) ⊎ (k ≡ stamp))) (sym now.1) (either_kind (in_force w p).kind c.0 kinds))
      u.0 (path_model p path) (let q : st.since ≡ c.1 = now.2 in let r : stamp_in p u < c.1 = true_lt (stamp_in p u) c.1 old in omega arith)

  -- who runs is tied to the time before the switch only by its own beginning
  pub tied_by_begin : (t : Txn) → is_running p t ≡ true → is_tied p c.1 t ≡ nat_lt (stamp_in p t) c.1
  tied_by_begin t run = same_tests (is_tied p c.1 t) (nat_lt (stamp_in p t) c.1) (λ q. only (nat_lt (stamp_in p t) c.1) refl q) (λ q. or_left _ _ q)
    where
      only : (b : Bool) → nat_lt (stamp_in p t) c.1 ≡ b → (b || list_any (λ u. nat_lt (stamp_in p u) c.1) (reached (edges p) t)) ≡ true → b ≡ true
      only true e q = refl
      only false e q =
          let u = passing (λ u. nat_lt (stamp_in p u) c.1) (reached (edges p) t) q in
          absurd (none_older t u.0 run e ((leads_iff p t u.0).0 u.1) u.2)

  pub end_due_by_begins : end_due w p ≡ not (list_any (λ t. nat_lt (stamp_in p t) c.1) (running w p))
  end_due_by_begins = ap (is_over w p) both ∙ ap not (same_any (is_tied p c.1) (λ t. nat_lt (stamp_in p t) c.1) (is_running p) (txns w) tied_by_begin)
