-- What a run of a program is, all answers being given, and what the serial machine does.
use Rattle.std.specs.Prelude.{◌≡◌, ◌||◌, ℕ, ℤ, pos, negsuc, ◌+ℤ◌, ◌-ℤ◌, ◌-◌, ◌^◌, int_lt, int_le, Bool, true, false, ◌&&◌, List, [], ◌∷◌, ◌++◌, fold, replicate, slice_index_or, slice_set, Option, Some, None, option_and_then, if◌then◌else◌}
use Rattle.std.specs.Option.{option_map_or}
use Rattle.raid_base.specs.declared.names.Item.{Item}
use Rattle.raid_base.specs.Names.{is_item, holds}
use Rattle.raid_base.specs.Find.{first_of}
use Rattle.raid_program.specs.declared.program.Term.{Term}
use Rattle.raid_program.specs.declared.program.Term.TheVariants.{Reg, Value}
use Rattle.raid_program.specs.declared.program.Expr.{Expr}
use Rattle.raid_program.specs.declared.program.Statement.{Statement}
use Rattle.raid_program.specs.declared.program.Statement.TheVariants as statements
use Rattle.raid_program.specs.declared.program.Outcome.{Outcome as Ended}
use Rattle.raid_program.specs.declared.program.Want.{Want}
use Rattle.raid_program.specs.declared.program.Want.TheVariants.{Read, Done, Own, Overflow}

-- the values of some items: what a program is answered when it reads
abbrev pub Answers : Type 0
Answers = Item → Option ℤ

-- the registers, the reads so far in order, and the writes so far, each item once
pub record Progress : Type 0 where
  pub registers : List ℤ
  pub reads : List (Item × ℤ)
  pub writes : List (Item × ℤ)

-- how a run ended, with its reads and writes by then
abbrev pub Outcome : Type 0
Outcome = Ended

-- the progress before the first statement: all registers are 0
abbrev pub opened : Progress
opened = record { registers = replicate 16 (pos 0); reads = []; writes = [] }

-- the outcome of a run that ends so with this progress
abbrev pub ended : Want → Progress → Outcome
ended end s = record { end = end; reads = s.reads; writes = s.writes }

-- the number is one that an i64 can hold
abbrev pub is_i64 : ℤ → Bool
is_i64 z = int_le (negsuc (2 ^ 63 - 1)) z && int_lt z (pos (2 ^ 63))

-- what a register holds, or the value itself
abbrev pub term_value : List ℤ → Term → ℤ
term_value registers (Reg k) = slice_index_or registers k (pos 0)
term_value registers (Value v) = v

-- the sum or difference, if an i64 can hold it; true is plus
abbrev pub plus : ℤ → Bool → ℤ → Option ℤ
plus a sign b = let c = if sign then a +ℤ b else a -ℤ b in if is_i64 c then Some c else None

-- the sum so far with one more term
abbrev pub with_term : List ℤ → Option ℤ → Bool × Term → Option ℤ
with_term registers sum t = option_and_then (λ a. plus a t.0 (term_value registers t.1)) sum

-- an expression's value, computed from left to right, if no step leaves i64
abbrev pub expr_value : List ℤ → Expr → Option ℤ
expr_value registers e = fold (with_term registers) (Some (term_value registers e.first)) e.rest

-- the pairs with the item's value replaced, or added at the end
abbrev pub put : List (Item × ℤ) → Item → ℤ → List (Item × ℤ)
put [] x v = (x, v) ∷ []
put (p ∷ ps) x v = if is_item x p.0 then (x, v) ∷ ps else p ∷ put ps x v

-- a register gets a value
abbrev pub loads : Progress → ℕ → ℤ → Progress
loads s reg v = record s { registers = slice_set s.registers reg v }

-- the value of an item was asked for and given
abbrev pub asks : Progress → Item → ℤ → Progress
asks s x v = record s { reads = s.reads ++ (x, v) ∷ [] }

-- the write of a value is noted; it is applied only after the run
abbrev pub writes : Progress → Item → ℤ → Progress
writes s x v = record s { writes = put s.writes x v }

-- the first one's value, or else the second's
abbrev pub or_else : {X : Type 0} → Option X → Option X → Option X
or_else (Some x) other = Some x
or_else None other = other

-- the value that the program gave the item, or else was given, before
abbrev pub known : Progress → Item → Option ℤ
known s x = or_else (first_of x s.writes) (first_of x s.reads)

-- what goes on with the value, or stops where there is none
abbrev pub with_value : {X : Type 0} → Option ℤ → X → (ℤ → X) → X
with_value (Some v) stop go = go v
with_value None stop go = stop

-- the statements run in order: a read asks only for an item that was neither written nor read before
abbrev pub run_from : Answers → Progress → List Statement → Outcome
run_from a s [] = ended Done s
run_from a s (statements.Read x reg ∷ rest) =
    with_value (known s x)
    (with_value (a x) (ended (Read x) s) (λ v. run_from a (loads (asks s x v) reg v) rest))
    (λ v. run_from a (loads s reg v) rest)
run_from a s (statements.Write x e ∷ rest) =
    with_value (expr_value s.registers e) (ended Overflow s) (λ v. run_from a (writes s x v) rest)
run_from a s (statements.StopIf left right ∷ rest) =
    with_value (expr_value s.registers left) (ended Overflow s) (λ l.
    with_value (expr_value s.registers right) (ended Overflow s) (λ r.
    if int_lt l r then ended Own s else run_from a s rest))

-- the whole program
abbrev pub outcome_of : List Statement → Answers → Outcome
outcome_of p a = run_from a opened p

-- the table after writes are applied
abbrev pub written : Answers → List (Item × ℤ) → Answers
written table ws x = or_else (first_of x ws) (table x)

-- all statements have run
abbrev pub is_done : Want → Bool
is_done (Read x) = false
is_done Done = true
is_done Own = false
is_done Overflow = false

-- the serial machine: the table after the program has run on it; writes are applied only where it is done
abbrev pub serially : Answers → List Statement → Answers
serially table p = let o = outcome_of p table in if is_done o.end then written table o.writes else table

-- the answers that the pairs give
abbrev pub given : List (Item × ℤ) → Answers
given pairs x = first_of x pairs

-- the item whose value is wanted at the end
abbrev pub asks_for : Want → Option Item
asks_for (Read x) = Some x
asks_for Done = None
asks_for Own = None
asks_for Overflow = None

-- the run asked for the item's value: it read it, or ends with that wish
abbrev pub has_asked : Outcome → Item → Bool
has_asked o x = holds x o.reads || option_map_or (is_item x) (asks_for o.end) false

-- the answers give the same for each item that passes the test
abbrev pub Agree : (Item → Bool) → Answers → Answers → Type 0
Agree test a b = (x : Item) → test x ≡ true → a x ≡ b x

-- the answers of a table, in which an item's value stands at the place of its number
abbrev pub values : List (Option ℤ) → Answers
values slots x = slice_index_or slots x.0 None
