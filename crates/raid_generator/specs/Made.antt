-- The generated workload of a seed and a count of programs.
use Rattle.std.specs.Prelude.{◌≡◌, ℕ, ℤ, pos, zero, suc, ◌+◌, ◌*◌, ◌/◌, ◌%◌, ◌^◌, ◌||◌, Bool, true, false, List, [], ◌∷◌, map, max, filter}
use Rattle.raid_base.specs.declared.names.Item.{Item}
use Rattle.raid_base.specs.declared.names.Site.{Site}
use Rattle.raid_base.specs.declared.verdict.Kind.{Kind}
use Rattle.raid_base.specs.declared.verdict.Kind.TheVariants.{Lock, Stamp, Valid}
use Rattle.raid_base.specs.declared.verdict.Method.{Method}
use Rattle.raid_base.specs.declared.verdict.Method.TheVariants.{Convert, Suffix}
use Rattle.raid_base.specs.declared.verdict.Structure.TheVariants.{Native}
use Rattle.raid_base.specs.Names.{is_site}
use Rattle.raid_base.specs.Sites.{site, all_sites}
use Rattle.raid_program.specs.declared.program.Term.{Term}
use Rattle.raid_program.specs.declared.program.Term.TheVariants.{Reg, Value}
use Rattle.raid_program.specs.declared.program.Expr.{Expr}
use Rattle.raid_program.specs.declared.program.Statement.{Statement}
use Rattle.raid_program.specs.declared.program.Statement.TheVariants.{Read, Write, StopIf}
use Rattle.raid_workload.specs.Parts.{count_from}
use Rattle.raid_workload.specs.declared.workload.ItemLine.{ItemLine}
use Rattle.raid_workload.specs.declared.workload.Switch.{Switch}
use Rattle.raid_workload.specs.declared.workload.Homed.{Homed}
use Rattle.raid_workload.specs.declared.workload.Workload.{Workload}

-- the state after a draw, a linear congruence; and the number drawn, its upper half
abbrev pub next : ℕ → ℕ
next state = (state * 1664525 + 1013904223) % 2 ^ 32

abbrev pub drawn : ℕ → ℕ
drawn state = state / 2 ^ 16

-- ---- items

-- the digit of a number that has this weight
abbrev pub digit : ℕ → ℕ → ℕ
digit weight k = 0x30 + k / weight % 10

-- the letter i and four digits
abbrev pub name_of : ℕ → List ℕ
name_of k = 0x69 ∷ digit 1000 k ∷ digit 100 k ∷ digit 10 k ∷ digit 1 k ∷ []

-- two of the four sites in turn
abbrev pub holders_of : ℕ → List Site
holders_of k = filter (λ s. is_site (site (1 + k % 4)) s || is_site (site (1 + (k + 1) % 4)) s) all_sites

abbrev pub item_line : ℕ → ItemLine
item_line k = record { name = name_of k; value = pos 1000; holders = holders_of k }

unfoldable pub item_lines : List ItemLine
item_lines = map item_line (count_from 0 1024)

-- ---- switches

-- at a quarter, at a half and at three quarters of the programs, but not before the first end
abbrev pub switch : Kind → Method → ℕ → Switch
switch kind method trigger = record { kind = kind; method = method; trigger = max 1 trigger }

abbrev pub switches_of : ℕ → List Switch
switches_of count = switch Valid Suffix (count / 4) ∷ switch Stamp Convert (count / 2) ∷ switch Lock Suffix (3 * count / 4) ∷ []

-- ---- programs

abbrev pub item : ℕ → Item
item k = record { 0 = k }

abbrev pub alone : Term → Expr
alone t = record { first = t; rest = [] }

-- a register with the amount added, or taken away
abbrev pub changed : ℕ → Bool → ℕ → Expr
changed reg plus amount = record { first = Reg reg; rest = (plus, Value (pos amount)) ∷ [] }

-- an amount goes from one item to another, unless the first has less
abbrev pub transfer : Item → Item → ℕ → List Statement
transfer from to amount =
    Read from 0 ∷ Read to 1 ∷ StopIf (alone (Reg 0)) (alone (Value (pos amount)))
    ∷ Write from (changed 0 false amount) ∷ Write to (changed 1 true amount) ∷ []

-- the transfer that three draws choose
abbrev pub chosen : ℕ → ℕ → ℕ → List Statement
chosen first second third = transfer (item (first % 1024)) (item ((first % 1024 + 1 + second % 1023) % 1024)) (1 + third % 50)

-- so many programs from a state on, at the four sites in turn
abbrev pub programs_from : ℕ → ℕ → ℕ → List Homed
programs_from state k zero = []
programs_from state k (suc n) =
    let a = next state in
    let b = next a in
    let c = next b in
    record { home = site (1 + k % 4); program = chosen (drawn a) (drawn b) (drawn c) } ∷ programs_from c (k + 1) n

-- ---- the whole

-- the workload is the one that the seed and the count make
pub record IsMade (seed count : ℕ) (w : Workload) : Type 0 where
  pub version : w.version ≡ 1
  pub restarts : w.restarts ≡ 0
  pub sites : w.sites ≡ 4
  pub together : w.together ≡ 8
  pub items : w.items ≡ item_lines
  pub kind : w.kind ≡ Lock
  pub structure : w.structure ≡ Native
  pub switches : w.switches ≡ switches_of count
  pub events : w.events ≡ []
  pub programs : w.programs ≡ programs_from seed 0 count
