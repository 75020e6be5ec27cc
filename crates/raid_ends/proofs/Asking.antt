-- A program that asks for an item has read fewer items than it has statements.
use Rattle.std.proofs.Common.{◌≡◌, ℕ, ℤ, zero, suc, ◌+◌, ◌≤◌, nat_le, Bool, true, false, ◌&&◌, List, [], ◌∷◌, ◌++◌, length, Option, Some, None, if◌then◌else◌, arith, sym, ap, ◌∙◌, refl, length-append}
use Rattle.std.specs.Prelude.{slice_get, int_lt}
use Rattle.std.specs.List.{list_all}
use Rattle.std.specs.Option.{option_map_or}
use Rattle.std.proofs.lemmas.Bool.{and_parts}
use Rattle.raid_base.specs.declared.names.Txn.{Txn}
use Rattle.raid_base.specs.declared.names.Item.{Item}
use Rattle.raid_program.specs.declared.program.Statement.{Statement}
use Rattle.raid_program.specs.declared.program.Statement.TheVariants as statements
use Rattle.raid_program.specs.declared.program.Want.TheVariants.{Read, Own, Overflow}
use Rattle.raid_program.specs.Run.{Answers, Progress, Outcome, opened, ended, expr_value, loads, asks, writes, known, with_value, run_from, outcome_of}
use Rattle.raid_workload.specs.declared.workload.Workload.{Workload}
use Rattle.raid_workload.specs.declared.workload.Homed.{Homed}
use Rattle.raid_workload.specs.Rules.{is_within, is_site_of, are_restarts, are_items, are_switches, are_events, is_homed, is_statement}
use Rattle.raid_workload.specs.Parts.{homed, program}
use Rattle.raid_measure.specs.Measure.{most_reads}

-- what holds of both ways of a choice
of_value : (o : Option ℤ) (stop : Outcome) (go : ℤ → Outcome) (P : Outcome → Type 0) → P stop → ((v : ℤ) → P (go v)) → P (with_value o stop go)
of_value (Some v) stop go P none some = some v
of_value None stop go P none some = none

of_if : (b : Bool) (x y : Outcome) (P : Outcome → Type 0) → P x → P y → P (if b then x else y)
of_if true x y P h k = h
of_if false x y P h k = k

module _ (a : Answers) (y : Item) where
  -- a run that ends with a wish has read less than it might in so many statements
  abbrev Less : ℕ → Outcome → Type 0
  Less n o = o.end ≡ Read y → length o.reads + 1 ≤ n

  reads_less : (ps : List Statement) (s : Progress) → Less (length s.reads + length ps) (run_from a s ps)
  reads_less [] s = λ e. absurd (cc e)
  reads_less (statements.Read x reg ∷ rest) s =
      of_value (known s x) (with_value (a x) (ended (Read x) s) (λ v. run_from a (loads (asks s x v) reg v) rest)) (λ v. run_from a (loads s reg v) rest) (Less (length s.reads + suc (length rest)))
      (of_value (a x) (ended (Read x) s) (λ v. run_from a (loads (asks s x v) reg v) rest) (Less (length s.reads + suc (length rest))) (λ e. omega arith)
      (λ v e. let less = reads_less rest (loads (asks s x v) reg v) e in let long : length (s.reads ++ (x, v) ∷ []) ≡ length s.reads + 1 = length-append s.reads ((x, v) ∷ []) in omega (arith, less, long)))
      (λ v e. let less = reads_less rest (loads s reg v) e in omega (arith, less))
  reads_less (statements.Write x expr ∷ rest) s =
      of_value (expr_value s.registers expr) (ended Overflow s) (λ v. run_from a (writes s x v) rest) (Less (length s.reads + suc (length rest))) (λ e. absurd (cc e)) (λ v e. let less = reads_less rest (writes s x v) e in omega (arith, less))
  reads_less (statements.StopIf left right ∷ rest) s =
      of_value (expr_value s.registers left) (ended Overflow s) (λ l. with_value (expr_value s.registers right) (ended Overflow s) (λ r. if int_lt l r then ended Own s else run_from a s rest)) (Less (length s.reads + suc (length rest)))
      (λ e. absurd (cc e))
      (λ l. of_value (expr_value s.registers right) (ended Overflow s) (λ r. if int_lt l r then ended Own s else run_from a s rest) (Less (length s.reads + suc (length rest)))
      (λ e. absurd (cc e))
      (λ r. of_if (int_lt l r) (ended Own s) (run_from a s rest) (Less (length s.reads + suc (length rest))) (λ e. absurd (cc e)) (λ e. let less = reads_less rest s e in omega (arith, less))))

-- a workload's programs are short
all_at : {X : Type 0} (test : X → Bool) (xs : List X) (k : ℕ) (x : X) → list_all test xs ≡ true → slice_get xs k ≡ Some x → test x ≡ true
all_at test [] k x a q = absurd (cc q)
all_at test (y ∷ ys) zero x a q = ap test (sym (let e : y ≡ x = cc q in e)) ∙ (and_parts (test y) (list_all test ys) a).0
all_at test (y ∷ ys) (suc k) x a q = all_at test ys k x (and_parts (test y) (list_all test ys) a).1 q

last_rule : (a b : Bool) → (a && b) ≡ true → b ≡ true
last_rule a b q = (and_parts a b q).1

all_homed : (w : Workload) → list_all (is_homed w.sites (length w.items)) w.programs ≡ true
all_homed w =
    last_rule
    (are_restarts w.version w.restarts && is_within 1 8 w.sites && is_within 1 16 w.together && nat_le (length w.items) 1024 && are_items w.sites w.items
    && nat_le (length w.switches) 64 && are_switches w.structure w.kind 1 w.switches && nat_le (length w.events) 64 && are_events w.sites [] 1 w.events && nat_le (length w.programs) 2000)
    (list_all (is_homed w.sites (length w.items)) w.programs) w.kept

short_program : (w : Workload) (t : Txn) → length (program w t) ≤ most_reads
short_program w t = go (homed w t) refl
  where
    at_most : (n : ℕ) → nat_le n 32 ≡ true → n ≤ 32
    at_most n q = grind (arith, q)

    go : (o : Option Homed) → homed w t ≡ o → length (option_map_or (λ (h : Homed). h.program) o []) ≤ most_reads
    go None q = omega arith
    go (Some h) q =
        let all = all_at (is_homed w.sites (length w.items)) w.programs _ h (all_homed w) q in
        at_most (length h.program) (and_parts (is_site_of w.sites h.home) (nat_le (length h.program) 32) (and_parts (is_site_of w.sites h.home && nat_le (length h.program) 32) (list_all (is_statement (length w.items)) h.program) all).0).1

pub few_reads : (w : Workload) (t : Txn) (a : Answers) (x : Item) → (outcome_of (program w t) a).end ≡ Read x → length (outcome_of (program w t) a).reads + 1 ≤ most_reads
few_reads w t a x e =
    let less : length (outcome_of (program w t) a).reads + 1 ≤ 0 + length (program w t) = reads_less a x (program w t) opened e in
    let short = short_program w t in
    omega (arith, less, short)
