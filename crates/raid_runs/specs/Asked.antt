-- What separates an upheld report from a legal one: that programs asked for what they read, and were told the values of the last writers.
use Rattle.std.specs.Prelude.{◌≡◌, ℤ, true, List, [], None, ⊤}
use Rattle.raid_base.specs.declared.names.Txn.{Txn}
use Rattle.raid_base.specs.declared.names.Item.{Item}
use Rattle.raid_base.specs.declared.entry.Act.{Act}
use Rattle.raid_base.specs.declared.entry.Act.TheVariants as acts
use Rattle.raid_base.specs.declared.entry.Entry.{Entry}
use Rattle.raid_base.specs.declared.entry.Entry.TheVariants.{Read, Wait, Commit, Abort}
use Rattle.raid_base.specs.declared.entry.Noted.{Noted}
use Rattle.raid_base.specs.Names.{holds}
use Rattle.raid_program.specs.Run.{given, Agree}
use Rattle.raid_workload.specs.declared.workload.Workload.{Workload}
use Rattle.raid_rules.specs.History.{noted}
use Rattle.raid_legal.specs.Seen.{seen}
use Rattle.raid_legal.specs.Forced.{forced}
use Rattle.raid_legal.specs.Legal.{is_asked, EachSeeing}

-- the values that are told of a transaction's reads are those that the history says it has seen
abbrev pub IsSeen : Workload → List Noted → Txn → List (Item × ℤ) → Type 0
IsSeen w p t reads = Agree (λ x. holds x reads) (seen w p t) (given reads)

-- what an abort says that its transaction asked for, it may ask for, or it made it of what it has seen
abbrev pub IsAskedAct : Workload → List Noted → Txn → Act → Type 0
IsAskedAct w p t (acts.Read x) = is_asked w p t x ≡ true
IsAskedAct w p t (acts.Commit request) = IsSeen w p t request.reads
IsAskedAct w p t (acts.Ended reads) = IsSeen w p t reads
IsAskedAct w p t other = ⊤

-- so of what the entry answers; of an entry that answers no program nothing is said
abbrev pub IsAsked : Workload → List Noted → Entry → Type 0
IsAsked w p (Read t x s) = is_asked w p t x ≡ true
IsAsked w p (Wait t request) = IsSeen w p t request.reads
IsAsked w p (Commit t request applied) = IsSeen w p t request.reads
IsAsked w p (Abort t cause act) = IsAskedAct w p t act
IsAsked w p other = ⊤

-- so of each entry that was not forced, after those before it
abbrev pub AreAsked : Workload → List Entry → Type 0
AreAsked w h = EachSeeing (λ p n. forced w p ≡ None → IsAsked w p n.entry) [] (noted h)
