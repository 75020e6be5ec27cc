-- A program's run names only items that the workload has.
use Rattle.std.proofs.Common.{◌≡◌, ℤ, Bool, true, false, ◌&&◌, List, [], ◌∷◌, length, Option, Some, None, if◌then◌else◌, subst, refl}
use Rattle.std.specs.Prelude.{int_lt}
use Rattle.std.specs.List.{list_all}
use Rattle.std.specs.Option.{option_map_or}
use Rattle.std.proofs.lemmas.Bool.{and_parts, and_from}
use Rattle.raid_base.specs.declared.names.Txn.{Txn}
use Rattle.raid_base.specs.declared.names.Item.{Item}
use Rattle.raid_base.specs.Names.{is_item}
use Rattle.raid_program.specs.declared.program.Statement.{Statement}
use Rattle.raid_program.specs.declared.program.Statement.TheVariants as statements
use Rattle.raid_program.specs.declared.program.Want.{Want}
use Rattle.raid_program.specs.declared.program.Want.TheVariants.{Read, Done, Own, Overflow}
use Rattle.raid_program.specs.Form.{is_formed}
use Rattle.raid_program.specs.Run.{Answers, Progress, Outcome, opened, ended, expr_value, put, loads, asks, writes, known, with_value, run_from, outcome_of}
use Rattle.raid_workload.specs.declared.workload.Workload.{Workload}
use Rattle.raid_workload.specs.declared.workload.Homed.{Homed}
use Rattle.raid_workload.specs.Parts.{homed, program}
use Rattle.raid_workload.specs.Rules.{is_homed, is_statement, is_of_i64, names_items}
use Rattle.raid_steps.specs.Fits.{knows_item, knows_pairs}
use Rattle.raid_steps.proofs.Parts.{all_got, all_appended}

value_keeps : (o : Option ℤ) (stop : Outcome) (go : ℤ → Outcome) (P : Outcome → Type 0) → P stop → ((v : ℤ) → P (go v)) → P (with_value o stop go)
value_keeps (Some v) stop go P none some = some v
value_keeps None stop go P none some = none

if_keeps : (b : Bool) (x y : Outcome) (P : Outcome → Type 0) → P x → P y → P (if b then x else y)
if_keeps true x y P h k = h
if_keeps false x y P h k = k

module _ (w : Workload) where
  -- what a run has read and written, and what it wants, are items of the workload
  pub record IsNamed (o : Outcome) : Type 0 where
    pub wish : (x : Item) → o.end ≡ Read x → knows_item w x ≡ true
    pub reads : knows_pairs w o.reads ≡ true
    pub writes : knows_pairs w o.writes ≡ true

  put_known : (x : Item) (v : ℤ) (ps : List (Item × ℤ)) → knows_item w x ≡ true → knows_pairs w ps ≡ true → knows_pairs w (put ps x v) ≡ true
  put_known x v [] is all = and_from (knows_item w x) true is refl
  put_known x v (p ∷ ps) is all = (let both = and_parts (knows_item w p.0) (knows_pairs w ps) all in go (is_item x p.0) both.0 both.1 (put_known x v ps is both.1))
    where
      go : (b : Bool) → knows_item w p.0 ≡ true → knows_pairs w ps ≡ true → knows_pairs w (put ps x v) ≡ true → knows_pairs w (if b then (x, v) ∷ ps else p ∷ put ps x v) ≡ true
      go true first rest later = and_from (knows_item w x) (knows_pairs w ps) is rest
      go false first rest later = and_from (knows_item w p.0) (knows_pairs w (put ps x v)) first later

  ends : (want : Want) (s : Progress) → ((x : Item) → want ≡ Read x → knows_item w x ≡ true) → knows_pairs w s.reads ≡ true → knows_pairs w s.writes ≡ true → IsNamed (ended want s)
  ends want s wish r q = record { wish = wish; reads = r; writes = q }

  run_named : (a : Answers) (ps : List Statement) (s : Progress) → list_all (names_items (length w.items)) ps ≡ true → knows_pairs w s.reads ≡ true → knows_pairs w s.writes ≡ true → IsNamed (run_from a s ps)
  run_named a [] s all r q = ends Done s (λ x e. absurd (cc e)) r q
  run_named a (statements.Read x reg ∷ rest) s all r q =
      let both = and_parts (knows_item w x) (list_all (names_items (length w.items)) rest) all in
      value_keeps (known s x) (with_value (a x) (ended (Read x) s) (λ v. run_from a (loads (asks s x v) reg v) rest)) (λ v. run_from a (loads s reg v) rest) IsNamed
      (value_keeps (a x) (ended (Read x) s) (λ v. run_from a (loads (asks s x v) reg v) rest) IsNamed
      (ends (Read x) s (λ y e. let same : x ≡ y = cc e in subst (λ z. knows_item w z ≡ true) same both.0) r q)
      (λ v. run_named a rest (loads (asks s x v) reg v) both.1 (all_appended (λ (p : Item × ℤ). knows_item w p.0) s.reads ((x, v) ∷ []) r (and_from (knows_item w x) true both.0 refl)) q))
      (λ v. run_named a rest (loads s reg v) both.1 r q)
  run_named a (statements.Write x e ∷ rest) s all r q =
      let both = and_parts (knows_item w x) (list_all (names_items (length w.items)) rest) all in
      value_keeps (expr_value s.registers e) (ended Overflow s) (λ v. run_from a (writes s x v) rest) IsNamed
      (ends Overflow s (λ y e. absurd (cc e)) r q) (λ v. run_named a rest (writes s x v) both.1 r (put_known x v s.writes both.0 q))
  run_named a (statements.StopIf left right ∷ rest) s all r q =
      value_keeps (expr_value s.registers left) (ended Overflow s) (λ l. with_value (expr_value s.registers right) (ended Overflow s) (λ r. if int_lt l r then ended Own s else run_from a s rest)) IsNamed
      (ends Overflow s (λ y e. absurd (cc e)) r q)
      (λ l. value_keeps (expr_value s.registers right) (ended Overflow s) (λ r. if int_lt l r then ended Own s else run_from a s rest) IsNamed
      (ends Overflow s (λ y e. absurd (cc e)) r q)
      (λ n. if_keeps (int_lt l n) (ended Own s) (run_from a s rest) IsNamed (ends Own s (λ y e. absurd (cc e)) r q) (run_named a rest s (and_parts true (list_all (names_items (length w.items)) rest) all).1 r q)))

  statements_named : (ps : List Statement) → list_all (is_statement (length w.items)) ps ≡ true → list_all (names_items (length w.items)) ps ≡ true
  statements_named [] all = refl
  statements_named (s ∷ ps) all =
      let both = and_parts (is_statement (length w.items) s) (list_all (is_statement (length w.items)) ps) all in
      and_from (names_items (length w.items) s) (list_all (names_items (length w.items)) ps) (and_parts (is_formed s) (names_items (length w.items) s) (and_parts (is_formed s && names_items (length w.items) s) (is_of_i64 s) both.0).0).1 (statements_named ps both.1)

  program_named : (t : Txn) → list_all (names_items (length w.items)) (program w t) ≡ true
  program_named t = (let rules = and_parts _ _ w.kept in go (homed w t) refl rules.1)
    where
      go : (o : Option Homed) → homed w t ≡ o → list_all (is_homed w.sites (length w.items)) w.programs ≡ true → list_all (names_items (length w.items)) (option_map_or (λ (h : Homed). h.program) o []) ≡ true
      go None q homes = refl
      go (Some h) q homes = (let rules = and_parts _ _ (all_got (is_homed w.sites (length w.items)) w.programs _ h homes q) in statements_named h.program rules.1)

  pub outcome_named : (t : Txn) (a : Answers) → IsNamed (outcome_of (program w t) a)
  outcome_named t a = run_named a (program w t) opened (program_named t) refl refl
