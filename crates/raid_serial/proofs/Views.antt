-- The views of the controllers in force: in order, and as telling as the history.
use Rattle.std.proofs.Common.{◌≡◌, ℕ, ℤ, ◌+◌, ◌<◌, ◌≤◌, inl, inr, Bool, true, false, not, ◌||◌, ◌==◌, nat_lt, List, [], ◌∷◌, ◌++◌, length, get_or, arith, sym, ◌∙◌, ap, subst, refl, Option, Some, None}
use Rattle.std.specs.List.{All}
use Rattle.std.proofs.lemmas.Bool.{true≢false, and_parts}
use Rattle.std.proofs.lemmas.Grind.{common_steps}
use Rattle.std.proofs.lemmas.List.Elements.{All-cons, All-filter, All-push}
use Rattle.std.proofs.lemmas.List.{get_or_default}
use Rattle.std.proofs.lemmas.List.Kept.{AllPairs-filter}
use Rattle.std.proofs.lemmas.List.Quantifiers.{all_pairs_push}
use Rattle.raid_base.specs.declared.names.Txn.{Txn}
use Rattle.raid_base.specs.declared.names.Item.{Item}
use Rattle.raid_base.specs.declared.entry.Entry.{Entry as Real}
use Rattle.raid_base.specs.declared.entry.Entry.TheVariants.{Commit}
use Rattle.raid_base.specs.declared.entry.Noted.{Noted as RNoted}
use Rattle.raid_base.specs.declared.verdict.Kind.{Kind as RKind}
use Rattle.raid_base.specs.Names.{has_txn}
use Rattle.raid_workload.specs.declared.workload.Workload.{Workload}
use Rattle.raid_rules.specs.Entries.{is_begin, is_read, is_commit, is_begin_of, is_end_of}
use Rattle.raid_rules.specs.History.{noted as noted_in, stamp, has_begun, has_ended, is_running}
use Rattle.raid_rules.specs.Order.{is_of, IsInOrder, AgreesOn, BeginsAtStamp, Fits}
use Rattle.raid_rules.specs.Verdicts.{reading, writing, as_noted}
use Rattle.raid_rules.specs.Views.{View, is_in, view_of, is_backward}
use Rattle.raid_rules.proofs.Push.{same_txn}
use Rattle.raid_legal.specs.InForce.{in_force, controllers, newer, past}
use Rattle.raid_legal.specs.Legal.{Legal}
use Rattle.raid_serial.proofs.System.{Hist, View as InView}
use Rattle.raid_serial.proofs.Theorem.{State, inv}
use Rattle.raid_serial.proofs.Corollaries.{backward_in, backward_out}
use Rattle.raid_serial.proofs.Translate.{txn, numbers_of, Has, contains_has, has_any, any_has, cases_true, not_true, hist_of, rep_hist, mem_txn}
use Rattle.raid_serial.proofs.Real.{filter_has, has_filter, true_lt, rep_view, run_model}
use Rattle.raid_serial.proofs.Backward.{backward_real, backward_model}
use Rattle.raid_serial.proofs.Tamed.{state_of, Stands, legal_stands}
use Rattle.raid_serial.proofs.Ordered.{Ordered, legal_ordered, all_has, own_begin}

pub same_tests : (a b : Bool) → (a ≡ true → b ≡ true) → (b ≡ true → a ≡ true) → a ≡ b
same_tests true b f g = sym (f refl)
same_tests false true f g = g refl
same_tests false false f g = refl

-- who runs and isn't to be aborted is backward over the view exactly where it is backward over the history
pub backward_over_view : (w : Workload) (h : List Real) → Legal w h → (t : Txn) → is_running (noted_in h) t ≡ true → has_txn (in_force w (noted_in h)).off t ≡ false → is_backward (view_of (in_force w (noted_in h)).view (noted_in h)) t ≡ is_backward (noted_in h) t
backward_over_view w h l t run free =
    same_tests (is_backward (view_of v p) t) (is_backward p t)
    (λ b. backward_real (Hist (hist_of p)) p (rep_hist p) t.0 (backward_out state t.0 (backward_model (InView (hist_of p) v.cut (numbers_of v.keep)) (view_of v p) (rep_view v p) t.0 b)))
    (λ b. backward_real (InView (hist_of p) v.cut (numbers_of v.keep)) (view_of v p) (rep_view v p) t.0 (backward_in S state (inv S st.tame) t.0 (run_model (Hist (hist_of p)) p (rep_hist p) t.0 run, λ m. true≢false (sym (mem_txn t.0 (in_force w p).off m) ∙ free)) (backward_model (Hist (hist_of p)) p (rep_hist p) t.0 b)))
  where
    p : List RNoted
    p = noted_in h

    v : View
    v = (in_force w p).view

    S : ℕ → ℕ
    S k = stamp p (txn k)

    st : Stands S w p
    st = legal_stands w h l

    state : State
    state = state_of (hist_of p) (length p) (in_force w p) st.joint st.newer st.since

pub at_has : (p : List RNoted) (k : ℕ) (d : RNoted) → k < length p → Has (get_or p k d) p
at_has p k d l = contains_has p (get_or p k d) k l (go p k d l)
  where
    go : (p : List RNoted) (k : ℕ) (d : RNoted) → k < length p → get_or p k (get_or p k d) ≡ get_or p k d
    go p k d l = get_or_default p k (get_or p k d) d l

-- a Commit is in a view only past its cut
commit_past : (v : View) (n : RNoted) → is_in v n ≡ true → is_commit (λ u request. true) n.entry ≡ true → v.cut < n.at
commit_past v n i c = true_lt v.cut n.at (only (nat_lt v.cut n.at) n.entry i c)
  where
    only : (b : Bool) (e : Real) → (b || is_begin (has_txn v.keep) e || is_read (λ t x s. has_txn v.keep t) e) ≡ true → is_commit (λ u request. true) e ≡ true → b ≡ true
    only true e i c = refl
    only false (Commit u request applied) i c = absurd (true≢false (sym i))
    only false other i c = absurd (true≢false (sym c))

module _ (v : View) (p : List RNoted) (o : Ordered p) where
  in_view : (n : RNoted) → Has n (view_of v p) → Has n p × (is_in v n ≡ true)
  in_view n i = filter_has (is_in v) p n i

  -- whoever has begun, and has no Begin in the view, began before its cut
  begun_early : (t : Txn) → has_begun p t ≡ true → has_begun (view_of v p) t ≡ false → stamp p t ≤ v.cut
  begun_early t begun none =
      let b = any_has (λ n. is_begin_of t n.entry) p begun in
      let begins : (b.0).stamp ≡ (b.0).at = all_has (BeginsAtStamp t) p b.0 (o.in_order.begins t) b.1 b.2 in
      let stamped : (b.0).stamp ≡ stamp p t = all_has (λ m. is_of t m.entry ≡ true → m.stamp ≡ stamp p t) p b.0 (o.stamped t) b.1 (own_begin (b.0).entry t b.2) in
      elim (cases_true (nat_lt v.cut (b.0).at)) [
        | inl late ↦ absurd (true≢false (sym (has_any (λ n. is_begin_of t n.entry) (view_of v p) b.0 (has_filter (is_in v) p b.0 b.1 (grind (arith, common_steps, late))) b.2) ∙ none))
        | inr early ↦ (let l : (b.0).at ≤ v.cut = not_below v.cut (b.0).at early in omega arith)
      ]
    where
      not_below : (a b : ℕ) → nat_lt a b ≡ false → b ≤ a
      not_below a b e = grind (arith, common_steps, e)

  -- the stamp of an entry whose Begin isn't in the view is at most the cut
  stamp_early : (t : Txn) (n : RNoted) → Has n (view_of v p) → is_of t n.entry ≡ true → has_begun (view_of v p) t ≡ false → n.stamp ≤ v.cut
  stamp_early t n i own none =
      let j : Has n p = (in_view n i).0 in
      let stamped : n.stamp ≡ stamp p t = all_has (λ m. is_of t m.entry ≡ true → m.stamp ≡ stamp p t) p n (o.stamped t) j own in
      let early : stamp p t ≤ v.cut = begun_early t (o.whole t (has_any (λ m. is_of t m.entry) p n j own)) none in
      omega arith

  past_cut : (c : RNoted) → Has c (view_of v p) → is_commit (λ u request. true) c.entry ≡ true → v.cut < c.at
  past_cut c i e = commit_past v c (in_view c i).1 e

  pub view_in_order : IsInOrder (view_of v p)
  view_in_order = record {
    counted = All-filter (is_in v) (λ n. 0 < n.at) p o.in_order.counted;
    ascends = AllPairs-filter (λ a b. a.at < b.at) (is_in v) p o.in_order.ascends;
    agrees = λ t. AllPairs-filter (AgreesOn t) (is_in v) p (o.in_order.agrees t);
    begins = λ t. All-filter (is_in v) (BeginsAtStamp t) p (o.in_order.begins t);
    older = λ t none k d l own j c m e.
        let low : (get_or (view_of v p) k d).stamp ≤ v.cut = stamp_early t (get_or (view_of v p) k d) (at_has (view_of v p) k d l) own none in
        let high : v.cut < (get_or (view_of v p) j c).at = past_cut (get_or (view_of v p) j c) (at_has (view_of v p) j c m) e in
        omega arith;
  }

  -- an action of a running transaction may come next
  module _ (t : Txn) (run : is_running p t ≡ true) (n : RNoted) (mine : (u : Txn) → is_of u n.entry ≡ (t.0 == u.0)) (goes : (u : Txn) → is_begin_of u n.entry ≡ false) (same : n.stamp ≡ stamp p t)
      (above : All (λ m. m.at < n.at) (view_of v p)) (more : n.stamp < n.at) where
    begun : has_begun p t ≡ true
    begun = (and_parts (has_begun p t) (not (has_ended p t)) run).0

    pub action_in_order : IsInOrder (view_of v p ++ n ∷ [])
    action_in_order = record {
      counted = All-push (λ m. 0 < m.at) (view_of v p) n view_in_order.counted (omega (arith, more));
      ascends = all_pairs_push (λ a b. a.at < b.at) (view_of v p) n view_in_order.ascends above;
      agrees = λ u. all_pairs_push (AgreesOn u) (view_of v p) n (view_in_order.agrees u) (λ k d l own here.
          (let i : t ≡ u = same_txn t u (sym (mine u) ∙ here) in
          let stamped : (get_or (view_of v p) k d).stamp ≡ stamp p u = all_has (λ m. is_of u m.entry ≡ true → m.stamp ≡ stamp p u) p (get_or (view_of v p) k d) (o.stamped u) (in_view (get_or (view_of v p) k d) (at_has (view_of v p) k d l)).0 own in
          (stamped ∙ sym (ap (stamp p) i) ∙ sym same, goes u)));
      begins = λ u. All-push (BeginsAtStamp u) (view_of v p) n (view_in_order.begins u) (λ b. absurd (true≢false (sym b ∙ goes u)));
      older = λ u none. older u (grind (arith, common_steps, none));
    }
      where
        older : (u : Txn) → has_begun (view_of v p) u ≡ false → All (λ m. is_of u m.entry ≡ true → All (λ c. is_commit (λ y request. true) c.entry ≡ true → m.stamp < c.at) (view_of v p ++ n ∷ [])) (view_of v p ++ n ∷ [])
        older u none = All-push (λ m. is_of u m.entry ≡ true → All (λ c. is_commit (λ y request. true) c.entry ≡ true → m.stamp < c.at) (view_of v p ++ n ∷ [])) (view_of v p) n
            (λ k d l own. All-push (λ c. is_commit (λ y request. true) c.entry ≡ true → (get_or (view_of v p) k d).stamp < c.at) (view_of v p) n (view_in_order.older u none k d l own)
            (λ e. (let a : (get_or (view_of v p) k d).at < n.at = above k d l in let b : (get_or (view_of v p) k d).stamp < (get_or (view_of v p) k d).at + 1 = all_has (λ m. m.stamp < m.at + 1) p (get_or (view_of v p) k d) o.later (in_view (get_or (view_of v p) k d) (at_has (view_of v p) k d l)).0 in omega arith)))
            (λ here. All-push (λ c. is_commit (λ y request. true) c.entry ≡ true → n.stamp < c.at) (view_of v p) n
            (λ k d l e. (let i : t ≡ u = same_txn t u (sym (mine u) ∙ here) in
            let low : stamp p u ≤ v.cut = begun_early u (subst (λ z. has_begun p z ≡ true) i begun) none in
            let high : v.cut < (get_or (view_of v p) k d).at = past_cut (get_or (view_of v p) k d) (at_has (view_of v p) k d l) e in
            let q : n.stamp ≡ stamp p u = same ∙ ap (stamp p) i in
            omega arith))
            (λ e. more))

  goes_on : (t : Txn) → is_running p t ≡ true → has_ended (view_of v p) t ≡ false
  goes_on t run = not_true (has_ended (view_of v p) t) (λ h.
      (let n = any_has (λ n. is_end_of t n.entry) (view_of v p) h in
      let e : has_ended p t ≡ true = has_any (λ n. is_end_of t n.entry) p n.0 (in_view n.0 n.1).0 n.2 in
      true≢false (sym (and_parts (has_begun p t) (not (has_ended p t)) run).1 ∙ ap not e)))

  pub read_fits_view : (t : Txn) (x : Item) → is_running p t ≡ true → Fits (view_of v p) (reading t (stamp p t) x)
  read_fits_view t x run = record { goes_on = goes_on t run; in_order = λ at above more. action_in_order t run (as_noted at (reading t (stamp p t) x)) (λ u. refl) (λ u. refl) refl above more }

  pub commit_fits_view : (t : Txn) (writes : List (Item × ℤ)) → is_running p t ≡ true → Fits (view_of v p) (writing t (stamp p t) writes)
  commit_fits_view t writes run = record { goes_on = goes_on t run; in_order = λ at above more. action_in_order t run (as_noted at (writing t (stamp p t) writes)) (λ u. refl) (λ u. refl) refl above more }

-- what holds of each view holds of those in force
pub each_controller : (P : List RNoted → Type 0) (w : Workload) (p : List RNoted) → ((v : View) → P (view_of v p)) → All (λ c. P c.1) (controllers (in_force w p) p)
each_controller P w p every = go (in_force w p).next
  where
    Fine : RKind × List RNoted → Type 0
    Fine c = P c.1

    none : All Fine []
    none k d l = absurd (omega (arith, l))

    go : (next : Option (RKind × ℕ)) → All Fine (((in_force w p).kind, view_of (in_force w p).view p) ∷ newer p next)
    go None = All-cons Fine ((in_force w p).kind, view_of (in_force w p).view p) [] (every (in_force w p).view) none
    go (Some c) = All-cons Fine ((in_force w p).kind, view_of (in_force w p).view p) ((c.0, view_of (past c.1) p) ∷ []) (every (in_force w p).view) (All-cons Fine (c.0, view_of (past c.1) p) [] (every (past c.1)) none)

pub views_in_order : (w : Workload) (h : List Real) → Legal w h → All (λ c. IsInOrder c.1) (controllers (in_force w (noted_in h)) (noted_in h))
views_in_order w h l = each_controller IsInOrder w (noted_in h) (λ v. view_in_order v (noted_in h) (legal_ordered w h l))

pub reads_fit : (w : Workload) (h : List Real) → Legal w h → (t : Txn) (x : Item) → is_running (noted_in h) t ≡ true → All (λ c. Fits c.1 (reading t (stamp (noted_in h) t) x)) (controllers (in_force w (noted_in h)) (noted_in h))
reads_fit w h l t x run = each_controller (λ view. Fits view (reading t (stamp (noted_in h) t) x)) w (noted_in h) (λ v. read_fits_view v (noted_in h) (legal_ordered w h l) t x run)

pub commits_fit : (w : Workload) (h : List Real) → Legal w h → (t : Txn) (writes : List (Item × ℤ)) → is_running (noted_in h) t ≡ true → All (λ c. Fits c.1 (writing t (stamp (noted_in h) t) writes)) (controllers (in_force w (noted_in h)) (noted_in h))
commits_fit w h l t writes run = each_controller (λ view. Fits view (writing t (stamp (noted_in h) t) writes)) w (noted_in h) (λ v. commit_fits_view v (noted_in h) (legal_ordered w h l) t writes run)
