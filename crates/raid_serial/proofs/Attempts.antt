-- At most one attempt at each program has a Commit.
use Rattle.std.proofs.Common.{◌≡◌, ℕ, zero, suc, ◌+◌, ◌-◌, ◌*◌, ◌/◌, ◌%◌, ◌<◌, ◌≤◌, ◌⊎◌, inl, inr, true, not, ◌&&◌, ◌==◌, nat_lt, List, [], ◌∷◌, ◌++◌, length, map, arith, sym, ◌∙◌, ap, subst, refl}
use Rattle.std.specs.List.{list_any}
use Rattle.std.proofs.lemmas.Bool.{true≢false, and_parts, or_left, eqb-true}
use Rattle.std.proofs.lemmas.Grind.{common_steps}
use Rattle.std.proofs.lemmas.Nat.{div-mul-add}
use Rattle.std.proofs.lemmas.List.Folds.{list_any-append}
use Rattle.raid_base.specs.declared.names.Txn.{Txn}
use Rattle.raid_base.specs.declared.entry.Entry.{Entry as Real}
use Rattle.raid_base.specs.declared.entry.Entry.TheVariants.{Begin, Commit, Abort}
use Rattle.raid_base.specs.declared.entry.Noted.{Noted as RNoted}
use Rattle.raid_base.specs.Names.{is_txn, has_txn, program_of, attempt_of}
use Rattle.raid_workload.specs.declared.workload.Workload.{Workload}
use Rattle.raid_workload.specs.Parts.{txns, home, count_from}
use Rattle.raid_rules.specs.Entries.{is_begin_of, is_abort_of, is_commit_of}
use Rattle.raid_rules.specs.History.{noted as noted_in, add, next, stamp, has_begun, has_committed, has_aborted}
use Rattle.raid_rules.specs.Order.{is_of}
use Rattle.raid_rules.proofs.Push.{same_txn, has_begun_push, noted_push}
use Rattle.raid_legal.specs.Seen.{attempt, previous, again, is_restart, is_restartable, has_down_after}
use Rattle.raid_legal.specs.Legal.{Legal}
use Rattle.raid_legal.proofs.Push.{legal_push}
use Rattle.raid_serial.proofs.System.{Hist}
use Rattle.raid_serial.proofs.Theorem.{inv}
use Rattle.raid_serial.proofs.Translate.{txn, has_any, any_has, cases_true, hist_of, rep_hist}
use Rattle.raid_serial.proofs.Real.{com_model, ab_model}
use Rattle.raid_serial.proofs.Facts.{Fact, fact}
use Rattle.raid_rules.proofs.Places.{by_last}
use Rattle.raid_serial.proofs.Tamed.{legal_stands}
use Rattle.raid_serial.proofs.Ordered.{Ordered, legal_ordered}

-- each later attempt that has begun comes after an Abort of the one before it
abbrev pub Follows : Workload → List RNoted → Type 0
Follows w p = (t : Txn) → has_begun p t ≡ true → (attempt w t ≡ 0) ⊎ (has_aborted p (previous w t) ≡ true)

restart_aborts : (t : Txn) (e : Real) → is_restart t e ≡ true → is_abort_of t e ≡ true
restart_aborts t (Abort u cause act) q = (and_parts (is_txn t u) (is_restartable cause) q).0
restart_aborts t other q = absurd (true≢false (sym q))

again_aborted : (w : Workload) (p : List RNoted) (t : Txn) → again w p t ≡ true → has_aborted p (previous w t) ≡ true
again_aborted w p t q =
    let any = (and_parts (nat_lt 0 (attempt w t)) (list_any (λ n. is_restart (previous w t) n.entry && not (has_down_after p n.at (home w t))) p) q).1 in
    let n = any_has (λ n. is_restart (previous w t) n.entry && not (has_down_after p n.at (home w t))) p any in
    has_any (λ m. is_abort_of (previous w t) m.entry) p n.0 n.1 (restart_aborts (previous w t) (n.0).entry (and_parts (is_restart (previous w t) (n.0).entry) (not (has_down_after p (n.0).at (home w t))) n.2).0)

begin_follows : (w : Workload) (p : List RNoted) (e : Real) (t : Txn) → Fact w p e → is_begin_of t e ≡ true → (attempt w t ≡ 0) ⊎ (has_aborted p (previous w t) ≡ true)
begin_follows w p (Begin u home) t f q = subst (λ z. (attempt w z ≡ 0) ⊎ (has_aborted p (previous w z) ≡ true)) (same_txn u t q) (elim f.2 [ inl first ↦ inl first | inr due ↦ inr (again_aborted w p u due) ])
begin_follows w p other t f q = absurd (true≢false (sym q))

stays_aborted : (p : List RNoted) (n : RNoted) (t : Txn) → has_aborted p t ≡ true → has_aborted (p ++ n ∷ []) t ≡ true
stays_aborted p n t h = list_any-append (λ m. is_abort_of t m.entry) p (n ∷ []) ∙ or_left _ _ h

follows_add : (w : Workload) (p : List RNoted) (e : Real) → Follows w p → Fact w p e → Follows w (add p e)
follows_add w p e rest f t b = later (elim (cases_true (has_begun p t)) [
  | inl old ↦ rest t old
  | inr none ↦ begin_follows w p e t f (grind (arith, common_steps, b, none, has_begun_push p (next p e) t))
])
  where
    later : (attempt w t ≡ 0) ⊎ (has_aborted p (previous w t) ≡ true) → (attempt w t ≡ 0) ⊎ (has_aborted (add p e) (previous w t) ≡ true)
    later (inl first) = inl first
    later (inr due) = inr (stays_aborted p (next p e) (previous w t) due)

pub legal_follows : (w : Workload) (h : List Real) → Legal w h → Follows w (noted_in h)
legal_follows w = by_last (λ h. Legal w h → Follows w (noted_in h)) (λ l t q. absurd (true≢false (sym q))) more
  where
    more : (h : List Real) (e : Real) → (Legal w h → Follows w (noted_in h)) → Legal w (h ++ e ∷ []) → Follows w (noted_in (h ++ e ∷ []))
    more h e rest l =
        let q = (legal_push w h e).0 l in
        subst (Follows w) (sym (noted_push h e)) (follows_add w (noted_in h) e (rest q.0) (fact w (noted_in h) e q.1))

-- the transactions of a workload are counted from 1, and none where it has no program
pub counted : (first many k : ℕ) → has_txn (map txn (count_from first many)) (txn k) ≡ true → (first ≤ k) × (0 < many)
counted first zero k q = absurd (true≢false (sym q))
counted first (suc many) k q = (
  elim (cases_true (first == k)) [
    | inl e ↦ omega (arith, eqb-true first k e)
    | inr e ↦ let r = counted (first + 1) many k (grind (arith, common_steps, q, e)) in omega (arith, r.0)
  ],
  omega arith,
)

known_txn : (w : Workload) (t : Txn) → has_txn (txns w) t ≡ true → (1 ≤ t.0) × (0 < length w.programs)
known_txn w t q = let r = counted 1 (length w.programs * (w.restarts + 1)) t.0 q in (r.0, positive (length w.programs) r.1)
  where
    positive : (n : ℕ) → 0 < n * (w.restarts + 1) → 0 < n
    positive zero h = omega (arith, h)
    positive (suc n) h = omega arith

-- the transaction of a program's number, counted from 0, and an attempt
abbrev numbered : ℕ → ℕ → ℕ → Txn
numbered programs program attempt = txn (1 + (attempt * programs + program))

attempt_is : (programs program k : ℕ) → program < programs → attempt_of (numbered programs program k) programs ≡ k
attempt_is programs program k l = let e : 1 + (k * programs + program) - 1 ≡ k * programs + program = omega arith in ap (λ z. z / programs) e ∙ div-mul-add k programs program l

module _ (w : Workload) (p : List RNoted) (o : Ordered p) (f : Follows w p) (program : ℕ) (below : program < length w.programs) where
  aborted_begun : (t : Txn) → has_aborted p t ≡ true → has_begun p t ≡ true
  aborted_begun t h =
      let n = any_has (λ m. is_abort_of t m.entry) p h in
      o.whole t (has_any (λ m. is_of t m.entry) p n.0 n.1 (of_abort (n.0).entry n.2))
    where
      of_abort : (e : Real) → is_abort_of t e ≡ true → is_of t e ≡ true
      of_abort (Abort u cause act) q = q
      of_abort other q = absurd (true≢false (sym q))

  before_is : (k : ℕ) → previous w (numbered (length w.programs) program (suc k)) ≡ numbered (length w.programs) program k
  before_is k = ap txn (omega arith)

  -- each earlier attempt has an Abort
  earlier_aborted : (more k : ℕ) → has_begun p (numbered (length w.programs) program (suc (more + k))) ≡ true → has_aborted p (numbered (length w.programs) program k) ≡ true
  earlier_aborted zero k h = elim (f (numbered (length w.programs) program (suc k)) (subst (λ z. has_begun p (numbered (length w.programs) program (suc z)) ≡ true) (let e : zero + k ≡ k = omega arith in e) h)) [
    | inl first ↦ absurd (let e : attempt w (numbered (length w.programs) program (suc k)) ≡ suc k = attempt_is (length w.programs) program (suc k) below in omega (arith, first, e))
    | inr due ↦ subst (λ z. has_aborted p z ≡ true) (before_is k) due
  ]
  earlier_aborted (suc more) k h = elim (f (numbered (length w.programs) program (suc (suc more + k))) h) [
    | inl first ↦ absurd (let e : attempt w (numbered (length w.programs) program (suc (suc more + k))) ≡ suc (suc more + k) = attempt_is (length w.programs) program (suc (suc more + k)) below in omega (arith, first, e))
    | inr due ↦ earlier_aborted more k (subst (λ z. has_begun p (numbered (length w.programs) program z) ≡ true) (let e : suc more + k ≡ suc (more + k) = omega arith in e) (aborted_begun _ (subst (λ z. has_aborted p z ≡ true) (before_is (suc more + k)) due)))
  ]

  -- no attempt before one that has begun has a Commit
  pub no_earlier : ((t : Txn) → has_committed p t ≡ true → has_aborted p t ≡ true → ⊥) → (j k : ℕ) → j < k → has_begun p (numbered (length w.programs) program k) ≡ true → has_committed p (numbered (length w.programs) program j) ≡ true → ⊥
  no_earlier once j k l b c = once (numbered (length w.programs) program j) c (earlier_aborted (k - suc j) j (subst (λ z. has_begun p (numbered (length w.programs) program z) ≡ true) (omega arith) b))

pub one_attempt : (w : Workload) (h : List Real) → Legal w h → (t u : Txn) → program_of t (length w.programs) ≡ program_of u (length w.programs) → has_committed (noted_in h) t ≡ true → has_committed (noted_in h) u ≡ true → t ≡ u
one_attempt w h l t u same ct cu = compare (attempt w t) (attempt w u) refl refl
  where
    p : List RNoted
    p = noted_in h

    o : Ordered p
    o = legal_ordered w h l

    begun : (v : Txn) → has_committed p v ≡ true → has_begun p v ≡ true
    begun v c =
        let n = any_has (λ m. is_commit_of v m.entry) p c in
        o.whole v (has_any (λ m. is_of v m.entry) p n.0 n.1 (of_commit (n.0).entry n.2))
      where
        of_commit : (e : Real) → is_commit_of v e ≡ true → is_of v e ≡ true
        of_commit (Commit y request applied) q = q
        of_commit other q = absurd (true≢false (sym q))

    once : (v : Txn) → has_committed p v ≡ true → has_aborted p v ≡ true → ⊥
    once v c a =
        let base = (inv (λ k. stamp p (txn k)) (legal_stands w h l).tame).base in
        base.once v.0 (com_model (Hist (hist_of p)) p (rep_hist p) v.0 c) (ab_model (Hist (hist_of p)) p (rep_hist p) v.0 a)

    programs : ℕ
    programs = length w.programs

    program : ℕ
    program = (t.0 - 1) % programs

    positive : 0 < programs
    positive = (known_txn w t ((legal_stands w h l).known t (begun t ct))).1

    below : program < programs
    below = omega (arith, positive)

    is_numbered : (v : Txn) → has_committed p v ≡ true → (v.0 - 1) % programs ≡ program → v ≡ numbered programs program (attempt w v)
    is_numbered v c e = ap txn (omega (arith, known_txn w v ((legal_stands w h l).known v (begun v c))))

    same_program : (u.0 - 1) % programs ≡ program
    same_program = omega (arith, same)

    compare : (j k : ℕ) → attempt w t ≡ j → attempt w u ≡ k → t ≡ u
    compare j k ej ek = elim (order j k) [
      | inl less ↦ absurd (no_earlier w p o (legal_follows w h l) program below once j k less (at u cu same_program k ek (begun u cu)) (at_commit t ct refl j ej ct))
      | inr (inl more) ↦ absurd (no_earlier w p o (legal_follows w h l) program below once k j more (at t ct refl j ej (begun t ct)) (at_commit u cu same_program k ek cu))
      | inr (inr equal) ↦ is_numbered t ct refl ∙ ap (λ z. numbered programs program z) (ej ∙ equal ∙ sym ek) ∙ sym (is_numbered u cu same_program)
    ]
      where
        order : (a b : ℕ) → (a < b) ⊎ ((b < a) ⊎ (a ≡ b))
        order zero zero = inr (inr refl)
        order zero (suc b) = inl (omega arith)
        order (suc a) zero = inr (inl (omega arith))
        order (suc a) (suc b) = elim (order a b) [ inl x ↦ inl (omega arith) | inr (inl x) ↦ inr (inl (omega arith)) | inr (inr x) ↦ inr (inr (ap suc x)) ]

        at : (v : Txn) → has_committed p v ≡ true → (v.0 - 1) % programs ≡ program → (a : ℕ) → attempt w v ≡ a → has_begun p v ≡ true → has_begun p (numbered programs program a) ≡ true
        at v c e a q b = subst (λ z. has_begun p z ≡ true) (is_numbered v c e ∙ ap (λ z. numbered programs program z) q) b

        at_commit : (v : Txn) → has_committed p v ≡ true → (v.0 - 1) % programs ≡ program → (a : ℕ) → attempt w v ≡ a → has_committed p v ≡ true → has_committed p (numbered programs program a) ≡ true
        at_commit v c e a q b = subst (λ z. has_committed p z ≡ true) (is_numbered v c e ∙ ap (λ z. numbered programs program z) q) b
