-- A run under way stays one of its program.
use Rattle.std.proofs.Common.{◌≡◌, ◌≤◌, ℕ, suc, ◌+◌, ℤ, Bool, true, false, if◌then◌else◌, List, [], ◌∷◌, ◌++◌, length, drop, slice_get, Option, Some, None, Result, Ok, Err, refl, sym, ap, subst, ◌∙◌, arith, add-one, drop-cons}
use Rattle.std.specs.Prelude.{int_lt}
use Rattle.std.proofs.Math.ListN.{drop_of_length-le}
use Rattle.std.proofs.lemmas.Option.{slice_get_within, get_or_from_slice_get}
use Rattle.raid_base.specs.declared.names.Item.{Item}
use Rattle.raid_base.specs.Names.{holds}
use Rattle.raid_base.specs.Find.{first_of}
use Rattle.raid_program.specs.declared.program.Statement.{Statement}
use Rattle.raid_program.specs.declared.program.Statement.TheVariants as statements
use Rattle.raid_program.specs.declared.program.Want.{Want}
use Rattle.raid_program.specs.declared.program.Want.TheVariants.{Read, Done, Own, Overflow}
use Rattle.raid_program.specs.Run.{Answers, Progress, Outcome, opened, ended, expr_value, known, or_else, loads, asks, writes, with_value, run_from, outcome_of, given, asks_for, Agree}
use Rattle.raid_program.proofs.Finds.{front, still_holds, back, holds_last}
use Rattle.raid_program.specs.Course.{Course, progress, step_of, Passes, Stops, IsOf}

-- a choice by a value that goes on in one way goes on in the other way too
value_ok : {S W O : Type 0} (o : Option ℤ) (w : W) (f : ℤ → Result S W) (s : S) (stop goal : O) (go : ℤ → O) →
    ((v : ℤ) → f v ≡ Ok s → go v ≡ goal) → with_value o (Err w) f ≡ Ok s → with_value o stop go ≡ goal
value_ok (Some v) w f s stop goal go h e = h v e
value_ok None w f s stop goal go h e = absurd (cc e)

-- and one that stops
value_err : {S W O : Type 0} (o : Option ℤ) (w want : W) (f : ℤ → Result S W) (stop goal : O) (go : ℤ → O) →
    ((v : ℤ) → f v ≡ Err want → go v ≡ goal) → (w ≡ want → stop ≡ goal) → with_value o (Err w) f ≡ Err want → with_value o stop go ≡ goal
value_err (Some v) w want f stop goal go h stopped e = h v e
value_err None w want f stop goal go h stopped e = stopped (cc e)

-- a run passes a statement
test_ok : (b : Bool) (s s' : Progress) (stop goal : Outcome) (go : Progress → Outcome) → go s' ≡ goal →
    (if b then Err Own else Ok s) ≡ Ok s' → (if b then stop else go s) ≡ goal
test_ok true s s' stop goal go h e = absurd (cc e)
test_ok false s s' stop goal go h e = let same : s ≡ s' = cc e in ap go same ∙ h

pub run_passes : (a : Answers) (s : Progress) (p : Statement) (rest : List Statement) (s' : Progress) → step_of s p ≡ Ok s' → run_from a s (p ∷ rest) ≡ run_from a s' rest
run_passes a s (statements.Read x reg) rest s' e =
    value_ok (known s x) (Read x) (λ v. Ok (loads s reg v)) s' _ (run_from a s' rest) (λ v. run_from a (loads s reg v) rest)
    (λ v q. let same : loads s reg v ≡ s' = cc q in ap (λ z. run_from a z rest) same) e
run_passes a s (statements.Write x expr) rest s' e =
    value_ok (expr_value s.registers expr) Overflow (λ v. Ok (writes s x v)) s' _ (run_from a s' rest) (λ v. run_from a (writes s x v) rest)
    (λ v q. let same : writes s x v ≡ s' = cc q in ap (λ z. run_from a z rest) same) e
run_passes a s (statements.StopIf left right) rest s' e =
    value_ok (expr_value s.registers left) Overflow (λ l. with_value (expr_value s.registers right) (Err Overflow) (λ r. if int_lt l r then Err Own else Ok s)) s' _ (run_from a s' rest)
    (λ l. with_value (expr_value s.registers right) (ended Overflow s) (λ r. if int_lt l r then ended Own s else run_from a s rest))
    (λ l q. value_ok (expr_value s.registers right) Overflow (λ r. if int_lt l r then Err Own else Ok s) s' _ (run_from a s' rest) (λ r. if int_lt l r then ended Own s else run_from a s rest)
    (λ r t. test_ok (int_lt l r) s s' (ended Own s) (run_from a s' rest) (λ z. run_from a z rest) refl t) q) e

-- a run stops before a statement, where the answers have no value for the item that it waits for
test_err : (b : Bool) (s : Progress) (want : Want) (go : Outcome) → (if b then Err Own else Ok s) ≡ Err want → (if b then ended Own s else go) ≡ ended want s
test_err true s want go e = let same : Own ≡ want = cc e in ap (λ w. ended w s) same
test_err false s want go e = absurd (cc e)

pub run_stops : (a : Answers) (s : Progress) (p : Statement) (rest : List Statement) (want : Want) → step_of s p ≡ Err want →
    ((x : Item) → want ≡ Read x → a x ≡ None) → run_from a s (p ∷ rest) ≡ ended want s
run_stops a s (statements.Read x reg) rest want e none =
    value_err (known s x) (Read x) want (λ v. Ok (loads s reg v)) _ (ended want s) (λ v. run_from a (loads s reg v) rest)
    (λ v q. absurd (cc q))
    (λ same. ap (λ o. with_value o (ended (Read x) s) (λ v. run_from a (loads (asks s x v) reg v) rest)) (none x (sym same)) ∙ ap (λ w. ended w s) same) e
run_stops a s (statements.Write x expr) rest want e none =
    value_err (expr_value s.registers expr) Overflow want (λ v. Ok (writes s x v)) _ (ended want s) (λ v. run_from a (writes s x v) rest)
    (λ v q. absurd (cc q)) (λ same. ap (λ w. ended w s) same) e
run_stops a s (statements.StopIf left right) rest want e none =
    value_err (expr_value s.registers left) Overflow want (λ l. with_value (expr_value s.registers right) (Err Overflow) (λ r. if int_lt l r then Err Own else Ok s)) _ (ended want s)
    (λ l. with_value (expr_value s.registers right) (ended Overflow s) (λ r. if int_lt l r then ended Own s else run_from a s rest))
    (λ l q. value_err (expr_value s.registers right) Overflow want (λ r. if int_lt l r then Err Own else Ok s) _ (ended want s) (λ r. if int_lt l r then ended Own s else run_from a s rest)
    (λ r t. test_err (int_lt l r) s want _ t) (λ same. ap (λ w. ended w s) same) q)
    (λ same. ap (λ w. ended w s) same) e

-- what is left from a place begins with its statement
left_at : (p : List Statement) (k : ℕ) (s : Statement) → slice_get p k ≡ Some s → drop k p ≡ s ∷ drop (k + 1) p
left_at p k s here =
    rw (add-one) (drop-cons p k s (slice_get_within p k s here) ∙ ap (λ z. z ∷ drop (suc k) p) (get_or_from_slice_get p k s s here))

-- a new run is one of the program
pub of_new : (c : Course) (p : List Statement) → c.place ≡ 0 → progress c ≡ opened → c.asked ≡ None → IsOf c p
of_new c p first start idle = record {
  within = omega arith;
  goes_on = λ a agree. rw (first, start) refl;
  waits = λ x e. absurd (cc (idle, e));
}

-- a run that waits for nothing any more
pub of_idle : (c d : Course) (p : List Statement) → IsOf c p → progress d ≡ progress c → d.place ≡ c.place → d.asked ≡ None → IsOf d p
of_idle c d p o same place idle = record {
  within = omega (arith, o.within, place);
  goes_on = λ a agree.
      o.goes_on a (subst (λ (s : Progress). Agree (λ x. holds x s.reads) a (given s.reads)) same agree) ∙ ap (λ s. run_from a s (drop c.place p)) (sym same) ∙ ap (λ k. run_from a (progress d) (drop k p)) (sym place);
  waits = λ x e. absurd (cc (idle, e));
}

-- a run that has passed its next statement
pub of_pass : (c d : Course) (p : List Statement) (s : Statement) → IsOf c p → slice_get p c.place ≡ Some s → Passes c d s → IsOf d p
of_pass c d p s o here t = record {
  within = omega (arith, slice_get_within p c.place s here, t.place);
  goes_on = λ a agree.
      o.goes_on a (subst (λ reads. Agree (λ x. holds x reads) a (given reads)) t.reads agree) ∙ ap (λ z. run_from a (progress c) z) (left_at p c.place s here) ∙
      run_passes a (progress c) s (drop (c.place + 1) p) (progress d) t.step ∙ ap (λ k. run_from a (progress d) (drop k p)) (sym t.place);
  waits = λ x e. absurd (cc (t.asked, e));
}

-- a wish for a value is told by its item
asked_is : (want : Want) (x : Item) → asks_for want ≡ Some x → want ≡ Read x
asked_is (Read y) x e = let same : y ≡ x = cc e in ap (λ z. Read z) same
asked_is Done x e = absurd (cc e)
asked_is Own x e = absurd (cc e)
asked_is Overflow x e = absurd (cc e)

-- what stops at a read is an unknown value
unknown : (o : Option ℤ) (x y : Item) (f : ℤ → Progress) → with_value o (Err (Read y)) (λ v. Ok (f v)) ≡ Err (Read x) → o ≡ None
unknown (Some v) x y f e = absurd (cc e)
unknown None x y f e = refl

neither : {X : Type 0} (o r : Option X) → or_else o r ≡ None → r ≡ None
neither (Some x) r e = absurd (cc e)
neither None r e = e

-- a step that waits for a value finds none of the item
step_unknown : (s : Progress) (p : Statement) (x : Item) (reg : ℕ) → p ≡ statements.Read x reg → step_of s p ≡ Err (Read x) → known s x ≡ None
step_unknown s p x reg is e = unknown (known s x) x x (λ v. loads s reg v) (ap (λ z. step_of s z) (sym is) ∙ e)

-- a run that has stopped before its next statement
pub of_stop : (c d : Course) (p : List Statement) (s : Statement) (want : Want) → IsOf c p → slice_get p c.place ≡ Some s → Stops c d s want → IsOf d p
of_stop c d p s want o here t = record {
  within = omega (arith, o.within, t.place);
  goes_on = λ a agree.
      o.goes_on a (subst (λ (z : Progress). Agree (λ x. holds x z.reads) a (given z.reads)) t.same agree) ∙ ap (λ z. run_from a z (drop c.place p)) (sym t.same) ∙ ap (λ k. run_from a (progress d) (drop k p)) (sym t.place);
  waits = λ x e.
      let reads : want ≡ Read x = asked_is want x (sym t.asked ∙ e) in
      let is : s ≡ statements.Read x d.register = t.reads x reads in (
        ap (λ k. slice_get p k) t.place ∙ here ∙ ap (λ z. Some z) is,
        ap (λ z. known z x) t.same ∙ step_unknown (progress c) s x d.register is (t.step ∙ ap (λ w. Err w) reads),
      );
}

-- the outcome on the answers given, where the run stops before its next statement, and where none is left
pub outcome_stops : (c d : Course) (p : List Statement) (s : Statement) (want : Want) → IsOf c p → slice_get p c.place ≡ Some s → Stops c d s want →
    outcome_of p (given c.reads) ≡ record { end = want; reads = d.reads; writes = d.writes }
outcome_stops c d p s want o here t =
    o.goes_on (given c.reads) (λ x h. refl) ∙ ap (λ z. run_from (given c.reads) (progress c) z) (left_at p c.place s here) ∙
    run_stops (given c.reads) (progress c) s (drop (c.place + 1) p) want t.step (λ x reads. neither (first_of x c.writes) (first_of x c.reads) (step_unknown (progress c) s x d.register (t.reads x reads) (t.step ∙ ap (λ w. Err w) reads))) ∙ ap (λ z. ended want z) (sym t.same)

pub outcome_done : (c : Course) (p : List Statement) → IsOf c p → length p ≤ c.place → outcome_of p (given c.reads) ≡ record { end = Done; reads = c.reads; writes = c.writes }
outcome_done c p o all = o.goes_on (given c.reads) (λ x h. refl) ∙ ap (λ z. run_from (given c.reads) (progress c) z) (drop_of_length-le p all)

-- a read of an unknown item for which the answers have the value
run_reads : (a : Answers) (s : Progress) (x : Item) (reg : ℕ) (v : ℤ) (rest : List Statement) → known s x ≡ None → a x ≡ Some v →
    run_from a s (statements.Read x reg ∷ rest) ≡ run_from a (loads (asks s x v) reg v) rest
run_reads a s x reg v rest unknown answer =
    ap (λ o. with_value o (with_value (a x) (ended (Read x) s) (λ v. run_from a (loads (asks s x v) reg v) rest)) (λ v. run_from a (loads s reg v) rest)) unknown ∙
    ap (λ o. with_value o (ended (Read x) s) (λ v. run_from a (loads (asks s x v) reg v) rest)) answer

-- a run that was given the value that it waited for
pub of_give : (c d : Course) (p : List Statement) (x : Item) (v : ℤ) → c.asked ≡ Some x → d.place ≡ c.place + 1 →
    progress d ≡ loads (asks (progress c) x v) c.register v → d.asked ≡ None → IsOf c p → IsOf d p
of_give c d p x v asked place same idle o =
    let here = (o.waits x asked).0 in
    let none = (o.waits x asked).1 in
    let more : d.reads ≡ c.reads ++ (x, v) ∷ [] = ap (λ (s : Progress). s.reads) same in
    record {
      within = omega (arith, slice_get_within p c.place (statements.Read x c.register) here, place);
      goes_on = λ a agree.
          let agree-more = subst (λ reads. Agree (λ x. holds x reads) a (given reads)) more agree in
          o.goes_on a (λ y h. agree-more y (still_holds y c.reads _ h) ∙ front y c.reads _ h) ∙
          ap (λ z. run_from a (progress c) z) (left_at p c.place (statements.Read x c.register) here) ∙
          run_reads a (progress c) x c.register v (drop (c.place + 1) p) none (agree-more x (holds_last x v c.reads) ∙ back x v c.reads (neither (first_of x c.writes) (first_of x c.reads) none)) ∙
          ap (λ s. run_from a s (drop (c.place + 1) p)) (sym same) ∙ ap (λ k. run_from a (progress d) (drop k p)) (sym place);
      waits = λ y e. absurd (cc (idle, e));
    }
