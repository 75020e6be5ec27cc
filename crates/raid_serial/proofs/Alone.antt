-- The serial machine over the serial order of a legal history: it makes the Commits, and leaves the final values.
use Rattle.std.proofs.Common.{◌≡◌, ℕ, ℤ, inl, inr, Bool, true, false, ◌||◌, ◌==◌, if◌then◌else◌, List, [], ◌∷◌, ◌++◌, length, sym, ◌∙◌, ap, subst, refl, Option, Some, None, append-nil, append_assoc, arith}
use Rattle.std.specs.Prelude.{option_map, unwrap_or, IsSomeAnd}
use Rattle.std.proofs.lemmas.Bool.{true≢false, or_left, eqb-true}
use Rattle.std.proofs.lemmas.Grind.{common_steps}
use Rattle.std.proofs.lemmas.List.Folds.{list_any-append}
use Rattle.raid_base.specs.declared.names.Txn.{Txn}
use Rattle.raid_base.specs.declared.names.Item.{Item}
use Rattle.raid_base.specs.declared.entry.Entry.{Entry as Real}
use Rattle.raid_base.specs.declared.entry.Noted.{Noted as RNoted}
use Rattle.raid_base.specs.Names.{is_txn, has_txn}
use Rattle.raid_base.specs.Find.{first_of}
use Rattle.raid_program.specs.declared.program.Outcome.{Outcome}
use Rattle.raid_program.specs.Run.{Answers, outcome_of, serially, written, is_done, or_else as else_value}
use Rattle.raid_program.specs.declared.program.Want.TheVariants as wants
use Rattle.raid_workload.specs.declared.workload.Workload.{Workload}
use Rattle.raid_workload.specs.Parts.{program, initial as first_value}
use Rattle.raid_rules.specs.Entries.{is_commit_of, writes_of}
use Rattle.raid_rules.specs.History.{noted as noted_in, stamp as stamp_in, has_committed}
use Rattle.raid_rules.specs.Conflict.{committed, request_of, serial_order}
use Rattle.raid_rules.proofs.Push.{same_txn}
use Rattle.raid_legal.specs.Seen.{value_of}
use Rattle.raid_legal.specs.InForce.{in_force}
use Rattle.raid_legal.specs.Legal.{Legal}
use Rattle.raid_legal.specs.Serial.{RunsInOrder, table_after, first_table}
use Rattle.raid_rules.specs.Committed.{CommittedEdge, AllOnce, is_before, IsSerialOrder}
use Rattle.raid_serial.proofs.Model.{Member}
use Rattle.raid_serial.proofs.Verdicts.{HasCommitted}
use Rattle.raid_serial.proofs.System.{Hist, CEdge}
use Rattle.raid_serial.proofs.Theorem.{State}
use Rattle.raid_serial.proofs.Serial.{or_else, Val, Listing}
use Rattle.raid_serial.proofs.Values.{commits, reads, finals}
use Rattle.raid_serial.proofs.Translate.{txn, noted_of, hist_of, cases_true, not_true, eq_self, rep_hist}
use Rattle.raid_serial.proofs.Real.{com_real, com_model, edge_real}
use Rattle.raid_serial.proofs.Tamed.{state_of, Stands, legal_stands}
use Rattle.raid_serial.proofs.Agree.{outcome_agrees}
use Rattle.raid_serial.proofs.Lists.{once, order_is_serial}
use Rattle.raid_serial.proofs.Runs.{wr, none, mark, wrote, number_at, decode, wrote_at, number, writes, value_is, Done, all_done, find_request}

once_mid : (before : List Txn) (t : Txn) (ts : List Txn) → AllOnce (before ++ t ∷ ts) → has_txn before t ≡ false
once_mid [] t ts d = refl
once_mid (x ∷ xs) t ts d = not_true _ (λ h. elim (cases_true (x.0 == t.0)) [
  | inl q ↦ true≢false (sym (sub_end xs t ts) ∙ subst (λ z. has_txn (xs ++ t ∷ ts) z ≡ false) (same_txn x t q) d.0)
  | inr q ↦ true≢false (sym (grind (arith, common_steps, h, q)) ∙ once_mid xs t ts d.1)
])
  where
    sub_end : (xs : List Txn) (t : Txn) (ts : List Txn) → has_txn (xs ++ t ∷ ts) t ≡ true
    sub_end xs t ts = list_any-append (is_txn t) xs (t ∷ ts) ∙ right (has_txn xs t) _ (or_left (t.0 == t.0) (has_txn ts t) (eq_self t.0 t.0 refl))
      where
        right : (b c : Bool) → c ≡ true → (b || c) ≡ true
        right true c e = refl
        right false c e = e

before_has : (xs : List Txn) (u t : Txn) → is_before xs u t ≡ true → has_txn xs t ≡ true
before_has [] u t h = h
before_has (x ∷ xs) u t h = elim (cases_true (is_before xs u t)) [
  | inl q ↦ grind (arith, common_steps, before_has xs u t q)
  | inr q ↦ grind (arith, common_steps, h, q)
]

before_mid : (before : List Txn) (u t : Txn) (ts : List Txn) → AllOnce (before ++ t ∷ ts) → is_before (before ++ t ∷ ts) u t ≡ true → has_txn before u ≡ true
before_mid [] u t ts d h = elim (cases_true (is_before ts u t)) [
  | inl q ↦ absurd (true≢false (sym (before_has ts u t q) ∙ d.0))
  | inr q ↦ absurd (true≢false (sym (grind (arith, common_steps, h, q)) ∙ d.0))
]
before_mid (x ∷ xs) u t ts d h = elim (cases_true (x.0 == u.0)) [
  | inl q ↦ or_left _ _ q
  | inr q ↦ grind (arith, common_steps, q, before_mid xs u t ts d.1 (grind (arith, common_steps, h, q)))
]

module _ (S : ℕ → ℕ) (w : Workload) (p : List RNoted) (d : AllOnce (committed p)) (st : Stands S w p) (dones : (t : Txn) → has_committed p t ≡ true → Done w p t) (order : List Txn) (o : IsSerialOrder p order) where
  abbrev s : State
  s = state_of (hist_of p) (length p) (in_force w p) st.joint st.newer st.since

  abbrev val : List ℕ → ℕ → ℕ
  val xs x = Val (wr p d) (none p d) (number_at p d) xs x

  abbrev lists : List ℕ → Type 0
  lists xs = Listing (wr p d) (none p d) (number_at p d) (CEdge (hist_of p)) xs

  -- the table after those before
  abbrev Tab : Answers → List ℕ → Type 0
  Tab table back = (x : Item) → table x ≡ Some (decode p d (first_value w x) x.0 (val back x.0))

  pub record Before (before : List Txn) (back : List ℕ) : Type 0 where
    pub mem : (u : ℕ) → Member u back → has_txn before (txn u) ≡ true
    pub into : (u : ℕ) → has_txn before (txn u) ≡ true → Member u back
    pub list : lists back

  com_of : (before : List Txn) (back : List ℕ) (rest : List Txn) → order ≡ before ++ rest → Before before back → (u : ℕ) → Member u back → HasCommitted (Hist (hist_of p)) u
  com_of before back rest e b u m = com_model (Hist (hist_of p)) p (rep_hist p) u (sym (o.lists (txn u)) ∙ ap (λ xs. has_txn xs (txn u)) e ∙ list_any-append (is_txn (txn u)) before rest ∙ or_left _ _ (b.mem u m))

  step : (before : List Txn) (back : List ℕ) (t : Txn) (ts : List Txn) → order ≡ before ++ t ∷ ts → Before before back → Before (before ++ t ∷ []) (t.0 ∷ back)
  step before back t ts e b = record { mem = mem; into = into; list = (fresh, sources, b.list) }
    where
      all : AllOnce (before ++ t ∷ ts)
      all = subst AllOnce e o.once

      fresh : Member t.0 back → ⊥
      fresh m = true≢false (sym (b.mem t.0 m) ∙ once_mid before t ts all)

      sources : (u : ℕ) → CEdge (hist_of p) u t.0 → Member u back
      sources u c =
          let r : CommittedEdge p (txn u) t = (edge_real (Hist (hist_of p)) p (rep_hist p) u t.0 c.0, com_real (Hist (hist_of p)) p (rep_hist p) u c.1, com_real (Hist (hist_of p)) p (rep_hist p) t.0 c.2) in
          b.into u (before_mid before (txn u) t ts all (subst (λ xs. is_before xs (txn u) t ≡ true) e (o.onward (txn u) t r)))

      mem : (u : ℕ) → Member u (t.0 ∷ back) → has_txn (before ++ t ∷ []) (txn u) ≡ true
      mem u (inl q) = list_any-append (is_txn (txn u)) before (t ∷ []) ∙ right (has_txn before (txn u)) _ (or_left _ _ (eq_self t.0 u (sym q)))
        where
          right : (b c : Bool) → c ≡ true → (b || c) ≡ true
          right true c e = refl
          right false c e = e
      mem u (inr m) = list_any-append (is_txn (txn u)) before (t ∷ []) ∙ or_left _ _ (b.mem u m)

      into : (u : ℕ) → has_txn (before ++ t ∷ []) (txn u) ≡ true → Member u (t.0 ∷ back)
      into u h = elim (cases_true (has_txn before (txn u))) [
        | inl q ↦ inr (b.into u q)
        | inr q ↦ inl (sym (eqb-true t.0 u (grind (arith, common_steps, h, q, list_any-append (is_txn (txn u)) before (t ∷ [])))))
      ]

  table_step : (init : ℤ) (t x k : ℕ) (a : Option ℤ) (b : Option ℤ) → wrote p d t x ≡ a → b ≡ Some (decode p d init x k) → else_value a b ≡ Some (decode p d init x (or_else (mark p d t a) k))
  table_step init t x k None b e h = h
  table_step init t x k (Some v) b e h = ap Some (sym (ap (λ q. unwrap_or q init) e))

  -- the program of the next one makes its Commit on the table
  runs : (before : List Txn) (back : List ℕ) (t : Txn) (ts : List Txn) (table : Answers) → order ≡ before ++ t ∷ ts → Before before back → Tab table back → (c : has_committed p t ≡ true) →
      outcome_of (program w t) table ≡ record { end = wants.Done; reads = (dones t c).request.reads; writes = (dones t c).request.writes }
  runs before back t ts table e b tab c = outcome_agrees (dones t c).answers table agrees (program w t) (ap (λ (z : Outcome). z.end) (dones t c).makes) ∙ (dones t c).makes
    where
      agrees : (x : Item) (v : ℤ) → (dones t c).answers x ≡ Some v → table x ≡ Some v
      agrees x v q =
          let f = (dones t c).seen x v q in
          let same : val (commits (hist_of f.1)) x.0 ≡ val back x.0 = reads S s st.tame (wr p d) (none p d) (number_at p d) (number p d) (writes p d) back t.0 x.0 (noted_of f.0) (hist_of f.1) (step before back t ts e b).list (com_of before back (t ∷ ts) e b) (com_model (Hist (hist_of p)) p (rep_hist p) t.0 c) f.2 f.3 in
          tab x ∙ ap Some (ap (decode p d (first_value w x) x.0) (sym same) ∙ sym (value_is p d (first_value w x) x.0 f.1 f.5) ∙ f.4)

  next_table : (before : List Txn) (back : List ℕ) (t : Txn) (ts : List Txn) (table : Answers) → order ≡ before ++ t ∷ ts → Before before back → Tab table back → has_committed p t ≡ true → Tab (serially table (program w t)) (t.0 ∷ back)
  next_table before back t ts table e b tab c x =
      let n = dones t c in
      let q : wrote p d t.0 x.0 ≡ first_of x n.request.writes = wrote_at p d n.at t.0 x.0 n.has (ap (is_commit_of t) n.is ∙ eq_self t.0 t.0 refl) ∙ ap (λ z. first_of x (writes_of z)) n.is in
      ap (λ (z : Outcome). (if is_done z.end then written table z.writes else table) x) (runs before back t ts table e b tab c)
      ∙ subst (λ a. else_value a (table x) ≡ Some (decode p d (first_value w x) x.0 (or_else (mark p d t.0 (wrote p d t.0 x.0)) (val back x.0)))) q (table_step (first_value w x) t.0 x.0 (val back x.0) (wrote p d t.0 x.0) (table x) refl (tab x))

  run : (rest before : List Txn) (back : List ℕ) (table : Answers) → order ≡ before ++ rest → Before before back → Tab table back →
      RunsInOrder w p table rest × ((x : Item) → table_after w table rest x ≡ Some (value_of w p x))
  run [] before back table e b tab = (tt, λ x. tab x ∙ ap Some (ap (decode p d (first_value w x) x.0) (sym (final x)) ∙ sym (value_is p d (first_value w x) x.0 p (λ n i. i))))
    where
      whole : (u : ℕ) → HasCommitted (Hist (hist_of p)) u → Member u back
      whole u c = b.into u (ap (λ xs. has_txn xs (txn u)) (sym (append-nil before) ∙ sym e) ∙ o.lists (txn u) ∙ com_real (Hist (hist_of p)) p (rep_hist p) u c)

      final : (x : Item) → val (commits (hist_of p)) x.0 ≡ val back x.0
      final x = finals S s st.tame (wr p d) (none p d) (number_at p d) (number p d) (writes p d) back x.0 b.list (com_of before back [] e b) whole
  run (t ∷ ts) before back table e b tab =
      let c : has_committed p t ≡ true = sym (o.lists t) ∙ ap (λ xs. has_txn xs t) e ∙ list_any-append (is_txn t) before (t ∷ ts) ∙ (grind (arith, common_steps)) in
      let n = dones t c in
      let r : request_of p t ≡ Some n.request = ap (option_map (λ c. c.1)) (find_request p n.at t n.request n.applied d n.has n.is) in
      let rest = run ts (before ++ t ∷ []) (t.0 ∷ back) (serially table (program w t)) (e ∙ sym (append_assoc before (t ∷ []) ts)) (step before back t ts e b) (next_table before back t ts table e b tab c) in
      ((subst (λ o. IsSomeAnd o (λ request. outcome_of (program w t) table ≡ record { end = wants.Done; reads = request.reads; writes = request.writes })) (sym r) (runs before back t ts table e b tab c), rest.0), rest.1)

  pub run_all : RunsInOrder w p (first_table w) order × ((x : Item) → table_after w (first_table w) order x ≡ Some (value_of w p x))
  run_all = run order [] [] (first_table w) refl (record { mem = λ u m. absurd m; into = λ u h. absurd (true≢false (sym h)); list = tt }) (λ x. refl)

pub serial_runs : (w : Workload) (h : List Real) → Legal w h → RunsInOrder w (noted_in h) (first_table w) (serial_order (noted_in h)) × ((x : Item) → table_after w (first_table w) (serial_order (noted_in h)) x ≡ Some (value_of w (noted_in h) x))
serial_runs w h l = run_all (λ t. stamp_in (noted_in h) (txn t)) w (noted_in h) (once w h l) (legal_stands w h l) (all_done w h l) (serial_order (noted_in h)) (order_is_serial w h l)
