-- Short words for worked examples: who, what and where, and the parts of a workload.
use Rattle.std.specs.Prelude.{ℕ, ℤ, Bool, true, false, List, []}
use Rattle.raid_base.specs.declared.names.Txn.{Txn}
use Rattle.raid_base.specs.declared.names.Item.{Item}
use Rattle.raid_base.specs.declared.names.Site.{Site}
use Rattle.raid_base.specs.declared.request.Request.{Request}
use Rattle.raid_base.specs.declared.verdict.Kind.{Kind}
use Rattle.raid_base.specs.declared.verdict.Method.{Method}
use Rattle.raid_base.specs.declared.report.CopyLine.{CopyLine}
use Rattle.raid_program.specs.declared.program.Term.{Term}
use Rattle.raid_program.specs.declared.program.Term.TheVariants.{Value}
use Rattle.raid_program.specs.declared.program.Expr.{Expr}
use Rattle.raid_program.specs.declared.program.Statement.{Statement}
use Rattle.raid_program.specs.declared.program.Statement.TheVariants.{Read, Write, StopIf}
use Rattle.raid_workload.specs.declared.workload.ItemLine.{ItemLine}
use Rattle.raid_workload.specs.declared.workload.Switch.{Switch}
use Rattle.raid_workload.specs.declared.workload.Event.{Event}
use Rattle.raid_workload.specs.declared.workload.Homed.{Homed}

infixr 5 ◌also◌
-- two facts, one after the other: the facts on the entries of a history stand in a row so
abbrev pub ◌also◌ : {A B : Type 0} → A → B → A × B
a also b = (a, b)

-- a transaction, an item and a site by their numbers
abbrev pub txn : ℕ → Txn
txn n = record { 0 = n }

abbrev pub item : ℕ → Item
item n = record { 0 = n }

abbrev pub site : ℕ → Site
site n = record { 0 = n }

-- the first transactions
abbrev pub t1 : Txn
t1 = txn 1

abbrev pub t2 : Txn
t2 = txn 2

abbrev pub t3 : Txn
t3 = txn 3

abbrev pub t4 : Txn
t4 = txn 4

-- the first items
abbrev pub x : Item
x = item 0

abbrev pub y : Item
y = item 1

abbrev pub z : Item
z = item 2

-- the first sites
abbrev pub s1 : Site
s1 = site 1

abbrev pub s2 : Site
s2 = site 2

abbrev pub s3 : Site
s3 = site 3

-- what is asked to be committed: reads, writes, and the vector that the home knew
abbrev pub request : List (Item × ℤ) → List (Item × ℤ) → List ℕ → Request
request reads writes under = record { reads = reads; writes = writes; under = under }

-- an item with its name, as bytes, its first value and its holders
abbrev pub item_line : List ℕ → ℤ → List Site → ItemLine
item_line name value holders = record { name = name; value = value; holders = holders }

-- a switch to a kind by a method, once so many have ended
abbrev pub switch : Kind → Method → ℕ → Switch
switch kind method trigger = record { kind = kind; method = method; trigger = trigger }

-- a site stops, or returns, once so many have ended
abbrev pub stops : Site → ℕ → Event
stops s trigger = record { stop = true; site = s; trigger = trigger }

abbrev pub returns : Site → ℕ → Event
returns s trigger = record { stop = false; site = s; trigger = trigger }

-- a program at its home
abbrev pub home_at : Site → List Statement → Homed
home_at s program = record { home = s; program = program }

-- an expression of terms, true for those that are added
abbrev pub sum : Term → List (Bool × Term) → Expr
sum first rest = record { first = first; rest = rest }

-- the expression that is a number
abbrev pub number : ℤ → Expr
number v = sum (Value v) []

-- the statements
abbrev pub load : Item → ℕ → Statement
load item register = Read item register

abbrev pub store : Item → Expr → Statement
store item e = Write item e

abbrev pub stop_if : Expr → Expr → Statement
stop_if left right = StopIf left right

-- a line of a report's copies
abbrev pub copy_line : Site → Item → ℤ → ℕ → CopyLine
copy_line s item value version = record { site = s; item = item; value = value; version = version }
