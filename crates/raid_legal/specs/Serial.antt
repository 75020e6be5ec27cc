-- When a report is serial: its committed transactions, run one at a time in its order, give what it says. And when its copies are right.
use Rattle.std.specs.Prelude.{◌≡◌, ℤ, ◌==◌, true, not, ◌&&◌, List, [], ◌∷◌, map, filter, flat_map, count_by, Option, Some, IsSomeAnd, ⊤}
use Rattle.std.specs.Bool.{OnTrue}
use Rattle.std.specs.List.{list_all}
use Rattle.raid_base.specs.declared.names.Txn.{Txn}
use Rattle.raid_base.specs.declared.names.Item.{Item}
use Rattle.raid_base.specs.declared.names.Site.{Site}
use Rattle.raid_base.specs.declared.entry.Noted.{Noted}
use Rattle.raid_base.specs.declared.report.Report.{Report}
use Rattle.raid_base.specs.declared.report.CopyLine.{CopyLine}
use Rattle.raid_base.specs.Names.{is_txn, has_site}
use Rattle.raid_base.specs.Find.{first_of}
use Rattle.raid_program.specs.declared.program.Want.TheVariants.{Done}
use Rattle.raid_program.specs.Run.{Answers, outcome_of, serially}
use Rattle.raid_workload.specs.declared.workload.Workload.{Workload}
use Rattle.raid_workload.specs.Parts.{items, sites, initial, program, placement}
use Rattle.raid_rules.specs.History.{noted, has_committed, version}
use Rattle.raid_rules.specs.Conflict.{committed, request_of, serial_order}
use Rattle.raid_rules.specs.Sessions.{holders}
use Rattle.raid_legal.specs.Seen.{value_of, is_up, is_locked}

-- the values that the items have at first, as a table for programs to run on
abbrev pub first_table : Workload → Answers
first_table w x = Some (initial w x)

-- the fact holds of each element of the list
abbrev pub Each : {X : Type 0} → (X → Type 0) → List X → Type 0
Each P [] = ⊤
Each P (x ∷ xs) = P x × Each P xs

-- the transaction's program, run alone on the table, is done with just the reads and writes of its Commit
abbrev pub MakesCommit : Workload → List Noted → Answers → Txn → Type 0
MakesCommit w p table t = IsSomeAnd (request_of p t) (λ request. outcome_of (program w t) table ≡ record { end = Done; reads = request.reads; writes = request.writes })

-- each transaction of the list does so on the table that those before it left
abbrev pub RunsInOrder : Workload → List Noted → Answers → List Txn → Type 0
RunsInOrder w p table [] = ⊤
RunsInOrder w p table (t ∷ ts) = MakesCommit w p table t × RunsInOrder w p (serially table (program w t)) ts

-- the table that the programs of the list leave, run one after the other
abbrev pub table_after : Workload → Answers → List Txn → Answers
table_after w table [] = table
table_after w table (t ∷ ts) = table_after w (serially table (program w t)) ts

-- each item with its value in a table
abbrev pub values_in : Workload → Answers → List (Item × Option ℤ)
values_in w table = map (λ x. (x, table x)) (items w)

-- the report is serial: its order is the serial order of its history; it lists each committed transaction once, and no other; the
-- programs, run in it from the initial values, make the Commits; what they leave are the final values told, and those of the history.
-- The two facts on the list are tests, so that a report's proof is a computation; the laws say them for every transaction
pub record Serial (w : Workload) (report : Report) : Type 0 where
  pub in_order : report.order ≡ serial_order (noted report.entries)
  pub all : list_all (λ t. count_by (is_txn t) report.order == 1) (committed (noted report.entries)) ≡ true
  pub no_other : list_all (has_committed (noted report.entries)) report.order ≡ true
  pub runs : RunsInOrder w (noted report.entries) (first_table w) report.order
  pub ends : values_in w (table_after w (first_table w) report.order) ≡ map (λ p. (p.0, Some p.1)) report.finals
  pub finals : report.finals ≡ map (λ x. (x, value_of w (noted report.entries) x)) (items w)

-- where there are copies: each site with each item that it holds, by site, then item
abbrev pub places : Workload → List (Site × Item)
places w = flat_map (λ s. map (λ x. (s, x)) (filter (λ x. has_site (holders (placement w) x) s) (items w))) (sites w)

-- where the site is up and the copy isn't locked, the copy has the item's final value, and the number of the Commit that wrote it
abbrev pub IsCurrent : Workload → List Noted → List (Item × ℤ) → CopyLine → Type 0
IsCurrent w p finals c = OnTrue (is_up w p c.site && not (is_locked w p c.site c.item)) ((Some c.value ≡ first_of c.item finals) × (c.version ≡ version p c.item))

-- the copies are right: all of them are told, and each that may be read is current
pub record Copies (w : Workload) (report : Report) : Type 0 where
  pub all : map (λ (c : CopyLine). (c.site, c.item)) report.copies ≡ places w
  pub current : Each (IsCurrent w (noted report.entries) report.finals) report.copies
