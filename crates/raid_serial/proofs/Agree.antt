-- A program that is done on some answers runs the same on all that agree with them.
use Rattle.std.proofs.Common.{◌≡◌, ℤ, Bool, true, false, if◌then◌else◌, List, [], ◌∷◌, ◌∙◌, ap, refl, Option, Some, None}
use Rattle.std.specs.Prelude.{int_lt}
use Rattle.raid_base.specs.declared.names.Item.{Item}
use Rattle.raid_program.specs.declared.program.Statement.{Statement}
use Rattle.raid_program.specs.declared.program.Statement.TheVariants as statements
use Rattle.raid_program.specs.declared.program.Want.TheVariants.{Read, Done, Own, Overflow}
use Rattle.raid_program.specs.declared.program.Outcome.{Outcome}
use Rattle.raid_program.specs.Run.{Answers, Progress, ended, expr_value, known, loads, asks, writes, with_value, run_from, outcome_of, opened}

agree_read : (k oa ob : Option ℤ) (x : Item) (s : Progress) (f f' g g' : ℤ → Outcome) → ((v : ℤ) → oa ≡ Some v → ob ≡ Some v) → ((v : ℤ) → (f v).end ≡ Done → f' v ≡ f v) → ((v : ℤ) → (g v).end ≡ Done → g' v ≡ g v) →
    (with_value k (with_value oa (ended (Read x) s) f) g).end ≡ Done → with_value k (with_value ob (ended (Read x) s) f') g' ≡ with_value k (with_value oa (ended (Read x) s) f) g
agree_read (Some v) oa ob x s f f' g g' a hf hg d = hg v d
agree_read None None ob x s f f' g g' a hf hg d = absurd (cc d)
agree_read None (Some v) ob x s f f' g g' a hf hg d = ap (λ o. with_value o (ended (Read x) s) f') (a v refl) ∙ hf v d

agree_value : (k : Option ℤ) (stop : Outcome) (g g' : ℤ → Outcome) → ((v : ℤ) → (g v).end ≡ Done → g' v ≡ g v) → (with_value k stop g).end ≡ Done → with_value k stop g' ≡ with_value k stop g
agree_value (Some v) stop g g' h d = h v d
agree_value None stop g g' h d = refl

agree_if : (b : Bool) (stop o o' : Outcome) → (o.end ≡ Done → o' ≡ o) → (if b then stop else o).end ≡ Done → (if b then stop else o') ≡ (if b then stop else o)
agree_if true stop o o' h d = refl
agree_if false stop o o' h d = h d

pub run_agrees : (a b : Answers) → ((x : Item) (v : ℤ) → a x ≡ Some v → b x ≡ Some v) → (ps : List Statement) (s : Progress) → (run_from a s ps).end ≡ Done → run_from b s ps ≡ run_from a s ps
run_agrees a b h [] s d = refl
run_agrees a b h (statements.Read x reg ∷ rest) s d =
    agree_read (known s x) (a x) (b x) x s (λ v. run_from a (loads (asks s x v) reg v) rest) (λ v. run_from b (loads (asks s x v) reg v) rest) (λ v. run_from a (loads s reg v) rest) (λ v. run_from b (loads s reg v) rest) (h x)
    (λ v. run_agrees a b h rest (loads (asks s x v) reg v)) (λ v. run_agrees a b h rest (loads s reg v)) d
run_agrees a b h (statements.Write x e ∷ rest) s d =
    agree_value (expr_value s.registers e) (ended Overflow s) (λ v. run_from a (writes s x v) rest) (λ v. run_from b (writes s x v) rest) (λ v. run_agrees a b h rest (writes s x v)) d
run_agrees a b h (statements.StopIf left right ∷ rest) s d =
    agree_value (expr_value s.registers left) (ended Overflow s) (λ l. with_value (expr_value s.registers right) (ended Overflow s) (λ r. if int_lt l r then ended Own s else run_from a s rest)) (λ l. with_value (expr_value s.registers right) (ended Overflow s) (λ r. if int_lt l r then ended Own s else run_from b s rest))
    (λ l. agree_value (expr_value s.registers right) (ended Overflow s) (λ r. if int_lt l r then ended Own s else run_from a s rest) (λ r. if int_lt l r then ended Own s else run_from b s rest)
    (λ r. agree_if (int_lt l r) (ended Own s) (run_from a s rest) (run_from b s rest) (run_agrees a b h rest s))) d

pub outcome_agrees : (a b : Answers) → ((x : Item) (v : ℤ) → a x ≡ Some v → b x ≡ Some v) → (ps : List Statement) → (outcome_of ps a).end ≡ Done → outcome_of ps b ≡ outcome_of ps a
outcome_agrees a b h ps d = run_agrees a b h ps opened d
