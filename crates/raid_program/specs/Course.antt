-- A run under way: where it stands, and of which programs it is.
use Rattle.std.specs.Prelude.{◌≡◌, ◌≤◌, ◌+◌, ℕ, ℤ, List, drop, length, slice_get, Option, Some, None, Result, Ok, Err, int_lt, if◌then◌else◌}
use Rattle.raid_base.specs.declared.names.Item.{Item}
use Rattle.raid_base.specs.Names.{holds}
use Rattle.raid_program.specs.declared.program.Statement.{Statement}
use Rattle.raid_program.specs.declared.program.Statement.TheVariants as statements
use Rattle.raid_program.specs.declared.program.Want.{Want}
use Rattle.raid_program.specs.declared.program.Want.TheVariants.{Read, Own, Overflow}
use Rattle.raid_program.specs.Run.{Answers, Progress, expr_value, known, loads, writes, with_value, run_from, outcome_of, given, asks_for, Agree}

-- where a run stands: the place of its next statement, its progress, and the item whose value it waits for, with the register that gets it
pub record Course : Type 0 where
  pub place : ℕ
  pub registers : List ℤ
  pub reads : List (Item × ℤ)
  pub writes : List (Item × ℤ)
  pub asked : Option Item
  pub register : ℕ

abbrev pub progress : Course → Progress
progress c = record { registers = c.registers; reads = c.reads; writes = c.writes }

-- one statement without answers: the progress after it, or else how the run stops before it
abbrev pub step_of : Progress → Statement → Result Progress Want
step_of s (statements.Read x reg) = with_value (known s x) (Err (Read x)) (λ v. Ok (loads s reg v))
step_of s (statements.Write x e) = with_value (expr_value s.registers e) (Err Overflow) (λ v. Ok (writes s x v))
step_of s (statements.StopIf left right) =
    with_value (expr_value s.registers left) (Err Overflow) (λ l.
    with_value (expr_value s.registers right) (Err Overflow) (λ r.
    if int_lt l r then Err Own else Ok s))

-- the run has passed the statement
pub record Passes (before after : Course) (s : Statement) : Type 0 where
  pub step : step_of (progress before) s ≡ Ok (progress after)
  pub place : after.place ≡ before.place + 1
  pub reads : after.reads ≡ before.reads
  pub asked : after.asked ≡ None

-- the run has stopped before the statement
pub record Stops (before after : Course) (s : Statement) (want : Want) : Type 0 where
  pub step : step_of (progress before) s ≡ Err want
  pub same : progress after ≡ progress before
  pub place : after.place ≡ before.place
  pub asked : after.asked ≡ asks_for want
  pub reads : (x : Item) → want ≡ Read x → s ≡ statements.Read x after.register

-- the run is one of the program: on any answers that agree with those given, the program's outcome is that of what is left of it
pub record IsOf (c : Course) (p : List Statement) : Type 0 where
  pub within : c.place ≤ length p
  pub goes_on : (a : Answers) → Agree (λ x. holds x c.reads) a (given c.reads) → outcome_of p a ≡ run_from a (progress c) (drop c.place p)
  pub waits : (x : Item) → c.asked ≡ Some x → (slice_get p c.place ≡ Some (statements.Read x c.register)) × (known (progress c) x ≡ None)
