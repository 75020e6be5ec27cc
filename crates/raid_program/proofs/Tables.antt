-- A run that is given a table's values has the program's outcome on the table.
use Rattle.std.proofs.Common.{◌≡◌, ℤ, Bool, true, false, ◌||◌, if◌then◌else◌, List, [], ◌∷◌, ◌++◌, Option, Some, None, refl, sym, ap, subst, ◌∙◌, arith}
use Rattle.std.specs.Option.{option_map_or}
use Rattle.std.specs.List.{All}
use Rattle.std.proofs.lemmas.Bool.{eqb-true}
use Rattle.std.proofs.lemmas.List.Elements.{All-head, All-tail}
use Rattle.std.proofs.lemmas.Grind.{common_steps}
use Rattle.raid_base.specs.declared.names.Item.{Item}
use Rattle.raid_base.specs.Names.{is_item, holds}
use Rattle.raid_base.specs.Find.{first_of}
use Rattle.raid_program.specs.declared.program.Statement.{Statement}
use Rattle.raid_program.specs.declared.program.Want.{Want}
use Rattle.raid_program.specs.declared.program.Want.TheVariants.{Read, Done, Own, Overflow}
use Rattle.raid_program.specs.Run.{Answers, Outcome, opened, outcome_of, given, asks_for, has_asked, Agree, or_else, written, values}
use Rattle.raid_program.proofs.Finds.{front, back}
use Rattle.raid_program.proofs.Asked.{same_run, reads_told, end_told}

-- items with one number are one
same_item : (x y : Item) → is_item x y ≡ true → y ≡ x
same_item x y e = ap (λ k. let r : Item = record { 0 = k } in r) (eqb-true y.0 x.0 e)

-- one more value of the table was given
more_here : (reads : List (Item × ℤ)) (x : Item) (v : ℤ) (t : Answers) → Agree (λ y. holds y reads) t (given reads) → t x ≡ Some v → first_of x reads ≡ None →
    (y : Item) (b : Bool) → holds y reads ≡ b → (holds y reads || is_item y x) ≡ true → t y ≡ first_of y (reads ++ (x, v) ∷ [])
more_here reads x v t agree told none y true here h = agree y here ∙ sym (front y reads ((x, v) ∷ []) here)
more_here reads x v t agree told none y false here h =
    let same : x ≡ y = same_item y x (grind (arith, common_steps)) in
    subst (λ z. t z ≡ first_of z (reads ++ (x, v) ∷ [])) same (told ∙ sym (back x v reads none))

pub agree_more : (reads : List (Item × ℤ)) (x : Item) (v : ℤ) (t : Answers) → Agree (λ y. holds y reads) t (given reads) → t x ≡ Some v → first_of x reads ≡ None →
    Agree (λ y. holds y (reads ++ (x, v) ∷ [])) t (given (reads ++ (x, v) ∷ []))
agree_more reads x v t agree told none y h = more_here reads x v t agree told none y (holds y reads) refl (grind (arith, common_steps, h))

-- what a run asked for is what it read, or what it ends with a wish for
asked_cases : (o : Outcome) (t u : Answers) → Agree (λ x. holds x o.reads) t u → ((x : Item) → o.end ≡ Read x → t x ≡ u x) →
    (y : Item) (b : Bool) → holds y o.reads ≡ b → (want : Want) → o.end ≡ want → (holds y o.reads || option_map_or (is_item y) (asks_for want) false) ≡ true → t y ≡ u y
asked_cases o t u read wish y true here want is h = read y here
asked_cases o t u read wish y false here (Read x) is h =
    let one : x ≡ y = same_item y x (grind (arith, common_steps)) in
    subst (λ z. t z ≡ u z) one (wish x is)
asked_cases o t u read wish y false here Done is h = absurd (grind (arith, common_steps))
asked_cases o t u read wish y false here Own is h = absurd (grind (arith, common_steps))
asked_cases o t u read wish y false here Overflow is h = absurd (grind (arith, common_steps))

agree_asked : (o : Outcome) (t u : Answers) → Agree (λ x. holds x o.reads) t u → ((x : Item) → o.end ≡ Read x → t x ≡ u x) → Agree (has_asked o) t u
agree_asked o t u read wish y h = asked_cases o t u read wish y (holds y o.reads) refl o.end refl h

-- the outcome on the values given is the outcome on the table
pub on_table : (p : List Statement) (reads : List (Item × ℤ)) (t : Answers) (o : Outcome) → outcome_of p (given reads) ≡ o → o.reads ≡ reads →
    Agree (λ x. holds x reads) t (given reads) → ((x : Item) → o.end ≡ Read x → t x ≡ None) → outcome_of p t ≡ o
on_table p reads t o is same agree wish =
    same_run (given reads) t p opened
    (subst (λ z. Agree (has_asked z) t (given reads)) (sym is)
    (agree_asked o t (given reads) (λ y h. agree y (ap (λ z. holds y z) (sym same) ∙ h))
    (λ x e. wish x e ∙ sym (end_told p (given reads) x (ap (λ (z : Outcome). z.end) is ∙ e))))) ∙ is

-- answers that the pairs tell truly are those that they give
first_told : (a : Answers) (p : Item × ℤ) (ps : List (Item × ℤ)) (x : Item) (b : Bool) → is_item x p.0 ≡ b → a p.0 ≡ Some p.1 → (holds x ps ≡ true → first_of x ps ≡ a x) →
    (is_item x p.0 || holds x ps) ≡ true → first_of x (p ∷ ps) ≡ a x
first_told a p ps x true here told rest h =
    let same : p.0 ≡ x = same_item x p.0 here in
    ap (λ b. if b then Some p.1 else first_of x ps) here ∙ sym told ∙ ap a same
first_told a p ps x false here told rest h = ap (λ b. if b then Some p.1 else first_of x ps) here ∙ rest (grind (arith, common_steps))

pairs_told : (a : Answers) (ps : List (Item × ℤ)) (x : Item) → All (λ r. a r.0 ≡ Some r.1) ps → holds x ps ≡ true → first_of x ps ≡ a x
pairs_told a [] x all here = absurd (cc here)
pairs_told a (p ∷ ps) x all here =
    first_told a p ps x (is_item x p.0) refl (All-head (λ (r : Item × ℤ). a r.0 ≡ Some r.1) p ps all) (pairs_told a ps x (All-tail (λ (r : Item × ℤ). a r.0 ≡ Some r.1) p ps all)) here

-- no pair of an item gives it nothing
none_told : (x : Item) (ps : List (Item × ℤ)) → holds x ps ≡ false → first_of x ps ≡ None
none_told x [] none = refl
none_told x (p ∷ ps) none = grind (arith, common_steps, none_told x ps)

-- what is wished for in vain is not among the reads
wish_told : (a : Answers) (o : Outcome) (x : Item) (b : Bool) → holds x o.reads ≡ b → All (λ r. a r.0 ≡ Some r.1) o.reads → a x ≡ None → first_of x o.reads ≡ a x
wish_told a o x true here all none = pairs_told a o.reads x all here
wish_told a o x false here all none = none_told x o.reads here ∙ sym none

-- a run's reads alone give the run again
pub replays : (p : List Statement) (a : Answers) → outcome_of p (given (outcome_of p a).reads) ≡ outcome_of p a
replays p a =
    let o = outcome_of p a in
    same_run a (given o.reads) p opened
    (agree_asked o (given o.reads) a (λ y h. pairs_told a o.reads y (reads_told p a) h)
    (λ x e. wish_told a o x (holds x o.reads) refl (reads_told p a) (end_told p a x e)))

-- a table that was told pairs alone gives what they give
or_none : {X : Type 0} (o : Option X) → or_else o None ≡ o
or_none (Some x) = refl
or_none None = refl

pub told_alone : (pairs : List (Item × ℤ)) → written (values []) pairs ≡ given pairs
told_alone pairs i x = or_none (first_of x pairs) i
