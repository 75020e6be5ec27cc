-- A run that is given the value that it ended with a wish for reads just that one more.
use Rattle.std.proofs.Common.{◌≡◌, ℕ, ℤ, Bool, true, false, if◌then◌else◌, List, [], ◌∷◌, ◌++◌, Option, Some, None, refl, sym, ap, subst, ◌∙◌, arith}
use Rattle.std.specs.Prelude.{int_lt}
use Rattle.std.proofs.lemmas.Grind.{common_steps}
use Rattle.raid_base.specs.declared.names.Item.{Item}
use Rattle.raid_base.specs.Names.{holds}
use Rattle.raid_base.specs.Find.{first_of}
use Rattle.raid_program.specs.declared.program.Statement.{Statement}
use Rattle.raid_program.specs.declared.program.Statement.TheVariants as statements
use Rattle.raid_program.specs.declared.program.Want.TheVariants.{Read, Own, Overflow}
use Rattle.raid_program.specs.Run.{Answers, Progress, Outcome, opened, ended, expr_value, known, or_else, loads, asks, writes, with_value, run_from, outcome_of, given, put}
use Rattle.raid_program.proofs.Finds.{front, still_holds, back, holds_last}
use Rattle.raid_program.proofs.Asked.{run_keeps, end_told}

-- what holds of both ways of a choice holds of the choice, and of two choices by the same value
value_keeps : (o : Option ℤ) (stop : Outcome) (go : ℤ → Outcome) (P : Outcome → Type 0) → (o ≡ None → P stop) → ((v : ℤ) → o ≡ Some v → P (go v)) → P (with_value o stop go)
value_keeps (Some v) stop go P none some = some v refl
value_keeps None stop go P none some = none refl

if_keeps : (b : Bool) (x y : Outcome) (P : Outcome → Type 0) → P x → P y → P (if b then x else y)
if_keeps true x y P h k = h
if_keeps false x y P h k = k

both_values : (o : Option ℤ) (stop stop' : Outcome) (go go' : ℤ → Outcome) (P : Outcome → Outcome → Type 0) → P stop stop' → ((v : ℤ) → P (go v) (go' v)) → P (with_value o stop go) (with_value o stop' go')
both_values (Some v) stop stop' go go' P none some = some v
both_values None stop stop' go go' P none some = none

both_ifs : (b : Bool) (x x' y y' : Outcome) (P : Outcome → Outcome → Type 0) → P x x' → P y y' → P (if b then x else y) (if b then x' else y')
both_ifs true x x' y y' P h k = h
both_ifs false x x' y y' P h k = k

-- an item of which no value is known was not read
unread : {X : Type 0} (o r : Option X) → or_else o r ≡ None → r ≡ None
unread (Some x) r e = absurd (cc e)
unread None r e = e

-- what was read stays read
still_read : (a : Answers) (ps : List Statement) (s : Progress) (x : Item) → holds x s.reads ≡ true → holds x (run_from a s ps).reads ≡ true
still_read a ps s x h =
    run_keeps a (λ s. holds x s.reads ≡ true) (λ o. holds x o.reads ≡ true)
    (record { loads = λ s reg v i. i; asks = λ s y v e i. still_holds x s.reads ((y, v) ∷ []) i; writes = λ s y v i. i; ends = λ s want none i. i })
    ps s h

-- a run that has read all that there are answers to reads no more
module _ (a : Answers) (all : List (Item × ℤ)) (only : (x : Item) → first_of x all ≡ None → a x ≡ None) where
  abbrev Reads : Outcome → Type 0
  Reads o = o.reads ≡ all

  no_value : (o : Option ℤ) (v : ℤ) → o ≡ None → o ≡ Some v → ⊥
  no_value o v none some = cc (none, some)

  reads_no_more : (ps : List Statement) (s : Progress) → s.reads ≡ all → Reads (run_from a s ps)
  reads_no_more [] s h = h
  reads_no_more (statements.Read x reg ∷ rest) s h =
      value_keeps (known s x) (with_value (a x) (ended (Read x) s) (λ v. run_from a (loads (asks s x v) reg v) rest)) (λ v. run_from a (loads s reg v) rest) Reads
      (λ unknown. value_keeps (a x) (ended (Read x) s) (λ v. run_from a (loads (asks s x v) reg v) rest) Reads (λ none. h)
      (λ v e. absurd (no_value (a x) v (only x (subst (λ z. first_of x z ≡ None) h (unread (first_of x s.writes) (first_of x s.reads) unknown))) e)))
      (λ v e. reads_no_more rest (loads s reg v) h)
  reads_no_more (statements.Write x expr ∷ rest) s h =
      value_keeps (expr_value s.registers expr) (ended Overflow s) (λ v. run_from a (writes s x v) rest) Reads (λ none. h) (λ v e. reads_no_more rest (writes s x v) h)
  reads_no_more (statements.StopIf left right ∷ rest) s h =
      value_keeps (expr_value s.registers left) (ended Overflow s) (λ l. with_value (expr_value s.registers right) (ended Overflow s) (λ r. if int_lt l r then ended Own s else run_from a s rest)) Reads (λ none. h)
      (λ l e. value_keeps (expr_value s.registers right) (ended Overflow s) (λ r. if int_lt l r then ended Own s else run_from a s rest) Reads (λ none. h)
      (λ r e. if_keeps (int_lt l r) (ended Own s) (run_from a s rest) Reads h (reads_no_more rest s h)))

-- the second answers are the first with one value more
module _ (a b : Answers) (reads : List (Item × ℤ)) (x : Item) (v : ℤ) (same : (y : Item) → holds y reads ≡ true → b y ≡ a y) (told : b x ≡ Some v)
    (only : (y : Item) → first_of y (reads ++ (x, v) ∷ []) ≡ None → b y ≡ None) where
  -- where the first run ends with a wish for the item, the second has read it too, and no more
  abbrev Goes : Outcome → Outcome → Type 0
  Goes o p = o.end ≡ Read x → o.reads ≡ reads → p.reads ≡ reads ++ (x, v) ∷ []

  asked_both : (y : Item) (reg : ℕ) (rest : List Statement) (s : Progress) → ((u : ℤ) → Goes (run_from a (loads (asks s y u) reg u) rest) (run_from b (loads (asks s y u) reg u) rest)) →
      (o p : Option ℤ) → a y ≡ o → b y ≡ p →
      Goes (with_value o (ended (Read y) s) (λ u. run_from a (loads (asks s y u) reg u) rest)) (with_value p (ended (Read y) s) (λ u. run_from b (loads (asks s y u) reg u) rest))
  asked_both y reg rest s more (Some u) p qa qb e r =
      let here : holds y reads ≡ true = subst (λ z. holds y z ≡ true) r (still_read a rest (loads (asks s y u) reg u) y (holds_last y u s.reads)) in
      let known : p ≡ Some u = sym qb ∙ same y here ∙ qa in
      ap (λ o. (with_value o (ended (Read y) s) (λ u. run_from b (loads (asks s y u) reg u) rest)).reads) known ∙ more u e r
  asked_both y reg rest s more None p qa qb e r =
      let is : y ≡ x = cc e in
      let known : p ≡ Some v = sym qb ∙ ap b is ∙ told in
      ap (λ o. (with_value o (ended (Read y) s) (λ u. run_from b (loads (asks s y u) reg u) rest)).reads) known ∙
      reads_no_more b (reads ++ (x, v) ∷ []) only rest (loads (asks s y v) reg v) (ap (λ z. z ++ (y, v) ∷ []) r ∙ ap (λ z. reads ++ (z, v) ∷ []) is)

  goes : (ps : List Statement) (s : Progress) → Goes (run_from a s ps) (run_from b s ps)
  goes [] s = λ e r. absurd (cc e)
  goes (statements.Read y reg ∷ rest) s =
      both_values (known s y) (with_value (a y) (ended (Read y) s) (λ u. run_from a (loads (asks s y u) reg u) rest)) (with_value (b y) (ended (Read y) s) (λ u. run_from b (loads (asks s y u) reg u) rest))
      (λ u. run_from a (loads s reg u) rest) (λ u. run_from b (loads s reg u) rest) Goes
      (asked_both y reg rest s (λ u. goes rest (loads (asks s y u) reg u)) (a y) (b y) refl refl) (λ u. goes rest (loads s reg u))
  goes (statements.Write y expr ∷ rest) s =
      both_values (expr_value s.registers expr) (ended Overflow s) (ended Overflow s) (λ u. run_from a (writes s y u) rest) (λ u. run_from b (writes s y u) rest) Goes
      (λ e r. absurd (cc e)) (λ u. goes rest (writes s y u))
  goes (statements.StopIf left right ∷ rest) s =
      both_values (expr_value s.registers left) (ended Overflow s) (ended Overflow s)
      (λ l. with_value (expr_value s.registers right) (ended Overflow s) (λ r. if int_lt l r then ended Own s else run_from a s rest))
      (λ l. with_value (expr_value s.registers right) (ended Overflow s) (λ r. if int_lt l r then ended Own s else run_from b s rest)) Goes
      (λ e r. absurd (cc e))
      (λ l. both_values (expr_value s.registers right) (ended Overflow s) (ended Overflow s) (λ r. if int_lt l r then ended Own s else run_from a s rest) (λ r. if int_lt l r then ended Own s else run_from b s rest) Goes
      (λ e r. absurd (cc e))
      (λ r. both_ifs (int_lt l r) (ended Own s) (ended Own s) (run_from a s rest) (run_from b s rest) Goes (λ e r. absurd (cc e)) (goes rest s)))

-- where a run on the values given ends with a wish, having read just these, the run on one value more has read just those
pub gives_one : (p : List Statement) (reads : List (Item × ℤ)) (x : Item) (v : ℤ) → (outcome_of p (given reads)).end ≡ Read x → (outcome_of p (given reads)).reads ≡ reads →
    (outcome_of p (given (reads ++ (x, v) ∷ []))).reads ≡ reads ++ (x, v) ∷ []
gives_one p reads x v wish all =
    goes (given reads) (given (reads ++ (x, v) ∷ [])) reads x v (λ y here. front y reads ((x, v) ∷ []) here) (back x v reads (end_told p (given reads) x wish)) (λ y none. none) p opened wish all

-- a run that is given nothing has read nothing
pub gives_none : (p : List Statement) → (outcome_of p (given [])).reads ≡ []
gives_none p = reads_no_more (given []) [] (λ x none. none) p opened refl

-- the value of an item that has none is put at the end
pub put_last : (ps : List (Item × ℤ)) (x : Item) (v : ℤ) → first_of x ps ≡ None → put ps x v ≡ ps ++ (x, v) ∷ []
put_last [] x v none = refl
put_last (p ∷ ps) x v none = grind (arith, common_steps, put_last ps x v)
