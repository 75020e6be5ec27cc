-- What a run asked for decides its outcome.
use Rattle.std.proofs.Common.{◌≡◌, ℕ, ℤ, Bool, true, false, if◌then◌else◌, List, [], ◌∷◌, Option, Some, None, refl, ap, subst, ◌∙◌, arith}
use Rattle.std.specs.Prelude.{int_lt, ⊤}
use Rattle.std.specs.List.{All}
use Rattle.std.proofs.lemmas.Bool.{or_left}
use Rattle.std.proofs.lemmas.List.Elements.{All-push}
use Rattle.std.proofs.lemmas.Grind.{common_steps}
use Rattle.raid_base.specs.declared.names.Item.{Item}
use Rattle.raid_base.specs.Names.{holds}
use Rattle.raid_program.specs.declared.program.Statement.{Statement}
use Rattle.raid_program.specs.declared.program.Statement.TheVariants as statements
use Rattle.raid_program.specs.declared.program.Want.{Want}
use Rattle.raid_program.specs.declared.program.Want.TheVariants.{Read, Done, Own, Overflow}
use Rattle.raid_program.specs.Run.{Answers, Progress, Outcome, opened, ended, expr_value, known, loads, asks, writes, with_value, run_from, outcome_of, has_asked, Agree}
use Rattle.raid_program.proofs.Finds.{still_holds, holds_last}

-- what holds of both ways of a choice holds of the choice
value_keeps : {X : Type 0} (o : Option ℤ) (stop : X) (go : ℤ → X) (P : X → Type 0) → (o ≡ None → P stop) → ((v : ℤ) → o ≡ Some v → P (go v)) → P (with_value o stop go)
value_keeps (Some v) stop go P none some = some v refl
value_keeps None stop go P none some = none refl

if_keeps : {X : Type 0} (b : Bool) (x y : X) (P : X → Type 0) → P x → P y → P (if b then x else y)
if_keeps true x y P h k = h
if_keeps false x y P h k = k

-- a fact of the progress that every statement keeps holds of the outcome
pub record Kept (a : Answers) (I : Progress → Type 0) (P : Outcome → Type 0) : Type 0 where
  pub loads : (s : Progress) (reg : ℕ) (v : ℤ) → I s → I (loads s reg v)
  pub asks : (s : Progress) (x : Item) (v : ℤ) → a x ≡ Some v → I s → I (asks s x v)
  pub writes : (s : Progress) (x : Item) (v : ℤ) → I s → I (writes s x v)
  pub ends : (s : Progress) (want : Want) → ((x : Item) → want ≡ Read x → a x ≡ None) → I s → P (ended want s)

pub run_keeps : (a : Answers) (I : Progress → Type 0) (P : Outcome → Type 0) → Kept a I P → (ps : List Statement) (s : Progress) → I s → P (run_from a s ps)
run_keeps a I P k [] s i = k.ends s Done (λ x e. absurd (cc e)) i
run_keeps a I P k (statements.Read x reg ∷ rest) s i =
    value_keeps (known s x) (with_value (a x) (ended (Read x) s) (λ v. run_from a (loads (asks s x v) reg v) rest)) (λ v. run_from a (loads s reg v) rest) P
    (λ unknown. value_keeps (a x) (ended (Read x) s) (λ v. run_from a (loads (asks s x v) reg v) rest) P
    (λ none. k.ends s (Read x) (λ y e. let same : x ≡ y = cc e in subst (λ z. a z ≡ None) same none) i)
    (λ v e. run_keeps a I P k rest (loads (asks s x v) reg v) (k.loads (asks s x v) reg v (k.asks s x v e i))))
    (λ v e. run_keeps a I P k rest (loads s reg v) (k.loads s reg v i))
run_keeps a I P k (statements.Write x expr ∷ rest) s i =
    value_keeps (expr_value s.registers expr) (ended Overflow s) (λ v. run_from a (writes s x v) rest) P
    (λ none. k.ends s Overflow (λ y e. absurd (cc e)) i) (λ v e. run_keeps a I P k rest (writes s x v) (k.writes s x v i))
run_keeps a I P k (statements.StopIf left right ∷ rest) s i =
    value_keeps (expr_value s.registers left) (ended Overflow s) (λ l. with_value (expr_value s.registers right) (ended Overflow s) (λ r. if int_lt l r then ended Own s else run_from a s rest)) P
    (λ none. k.ends s Overflow (λ y e. absurd (cc e)) i)
    (λ l e. value_keeps (expr_value s.registers right) (ended Overflow s) (λ r. if int_lt l r then ended Own s else run_from a s rest) P
    (λ none. k.ends s Overflow (λ y e. absurd (cc e)) i)
    (λ r e. if_keeps (int_lt l r) (ended Own s) (run_from a s rest) P (k.ends s Own (λ y e. absurd (cc e)) i) (run_keeps a I P k rest s i)))

-- the reads are the answers' values
pub reads_told : (p : List Statement) (a : Answers) → All (λ r. a r.0 ≡ Some r.1) (outcome_of p a).reads
reads_told p a =
    run_keeps a (λ s. All (λ r. a r.0 ≡ Some r.1) s.reads) (λ o. All (λ r. a r.0 ≡ Some r.1) o.reads)
    (record { loads = λ s reg v i. i; asks = λ s x v e i. All-push (λ (r : Item × ℤ). a r.0 ≡ Some r.1) s.reads (x, v) i e; writes = λ s x v i. i; ends = λ s want none i. i })
    p opened (λ k d below. absurd (omega arith))

-- a run that ends with a wish has no answer to it
pub end_told : (p : List Statement) (a : Answers) (x : Item) → (outcome_of p a).end ≡ Read x → a x ≡ None
end_told p a x e =
    run_keeps a (λ s. ⊤) (λ o. o.end ≡ Read x → a x ≡ None)
    (record { loads = λ s reg v i. i; asks = λ s y v e i. i; writes = λ s y v i. i; ends = λ s want none i. none x })
    p opened tt e

-- what was read stays read
still_read : (a : Answers) (ps : List Statement) (s : Progress) (x : Item) → holds x s.reads ≡ true → holds x (run_from a s ps).reads ≡ true
still_read a ps s x h =
    run_keeps a (λ s. holds x s.reads ≡ true) (λ o. holds x o.reads ≡ true)
    (record { loads = λ s reg v i. i; asks = λ s y v e i. still_holds x s.reads ((y, v) ∷ []) i; writes = λ s y v i. i; ends = λ s want none i. i })
    ps s h

-- the same on two answers that agree
same_read : (a b : Answers) (x : Item) (s : Progress) (f f' : ℤ → Outcome) (oa ob : Option ℤ) →
    ((v : ℤ) → holds x (f v).reads ≡ true) → ((v : ℤ) → Agree (has_asked (f v)) b a → f' v ≡ f v) →
    (has_asked (with_value oa (ended (Read x) s) f) x ≡ true → ob ≡ oa) → Agree (has_asked (with_value oa (ended (Read x) s) f)) b a →
    with_value ob (ended (Read x) s) f' ≡ with_value oa (ended (Read x) s) f
same_read a b x s f f' (Some v) ob held go same agree =
    let given : ob ≡ Some v = same (or_left _ _ (held v)) in
    ap (λ o. with_value o (ended (Read x) s) f') given ∙ go v agree
same_read a b x s f f' None ob held go same agree =
    let none : ob ≡ None = same (grind (arith, common_steps)) in
    ap (λ o. with_value o (ended (Read x) s) f') none

same_value : (a b : Answers) (o : Option ℤ) (stop stop' : Outcome) (go go' : ℤ → Outcome) →
    (o ≡ None → Agree (has_asked stop) b a → stop' ≡ stop) → ((v : ℤ) → Agree (has_asked (go v)) b a → go' v ≡ go v) →
    Agree (has_asked (with_value o stop go)) b a → with_value o stop' go' ≡ with_value o stop go
same_value a b (Some v) stop stop' go go' none some agree = some v agree
same_value a b None stop stop' go go' none some agree = none refl agree

same_if : (a b : Answers) (t : Bool) (stop go go' : Outcome) → (Agree (has_asked go) b a → go' ≡ go) → Agree (has_asked (if t then stop else go)) b a → (if t then stop else go') ≡ (if t then stop else go)
same_if a b true stop go go' h agree = refl
same_if a b false stop go go' h agree = h agree

pub same_run : (a b : Answers) (ps : List Statement) (s : Progress) → Agree (has_asked (run_from a s ps)) b a → run_from b s ps ≡ run_from a s ps
same_run a b [] s agree = refl
same_run a b (statements.Read x reg ∷ rest) s agree =
    same_value a b (known s x) (with_value (a x) (ended (Read x) s) (λ v. run_from a (loads (asks s x v) reg v) rest)) (with_value (b x) (ended (Read x) s) (λ v. run_from b (loads (asks s x v) reg v) rest))
    (λ v. run_from a (loads s reg v) rest) (λ v. run_from b (loads s reg v) rest)
    (λ unknown agree. same_read a b x s (λ v. run_from a (loads (asks s x v) reg v) rest) (λ v. run_from b (loads (asks s x v) reg v) rest) (a x) (b x)
    (λ v. still_read a rest (loads (asks s x v) reg v) x (holds_last x v s.reads)) (λ v. same_run a b rest (loads (asks s x v) reg v)) (agree x) agree)
    (λ v. same_run a b rest (loads s reg v)) agree
same_run a b (statements.Write x expr ∷ rest) s agree =
    same_value a b (expr_value s.registers expr) (ended Overflow s) (ended Overflow s) (λ v. run_from a (writes s x v) rest) (λ v. run_from b (writes s x v) rest)
    (λ none agree. refl) (λ v. same_run a b rest (writes s x v)) agree
same_run a b (statements.StopIf left right ∷ rest) s agree =
    same_value a b (expr_value s.registers left) (ended Overflow s) (ended Overflow s)
    (λ l. with_value (expr_value s.registers right) (ended Overflow s) (λ r. if int_lt l r then ended Own s else run_from a s rest))
    (λ l. with_value (expr_value s.registers right) (ended Overflow s) (λ r. if int_lt l r then ended Own s else run_from b s rest))
    (λ none agree. refl)
    (λ l. same_value a b (expr_value s.registers right) (ended Overflow s) (ended Overflow s) (λ r. if int_lt l r then ended Own s else run_from a s rest) (λ r. if int_lt l r then ended Own s else run_from b s rest)
    (λ none agree. refl) (λ r. same_if a b (int_lt l r) (ended Own s) (run_from a s rest) (run_from b s rest) (same_run a b rest s))) agree
