-- What entries say beside whom they name.
use Rattle.std.specs.Prelude.{List, ⊤}
use Rattle.std.specs.List.{AllByRecursion}
use Rattle.raid_base.specs.declared.entry.Entry.{Entry}
use Rattle.raid_base.specs.declared.entry.Entry.TheVariants.{Begin, Read, Wait, Commit, Abort, Ack, SwitchOn, SwitchEnd, Down, Up, Clear}
use Rattle.raid_workload.specs.declared.workload.Workload.{Workload}
use Rattle.raid_report.specs.Known.{KnowsSite, KnowsItem, KnowsRequest, IsActOf}

-- the sites, items and requests of the entry are the workload's, and an abort's act is one that its cause has
abbrev pub Rest : Workload → Entry → Type 0
Rest w (Begin t s) = KnowsSite w s
Rest w (Read t x s) = KnowsItem w x × KnowsSite w s
Rest w (Wait t r) = KnowsRequest w r
Rest w (Commit t r applied) = KnowsRequest w r × AllByRecursion (KnowsSite w) applied
Rest w (Abort t cause act) = IsActOf w cause act
Rest w (Ack t s) = KnowsSite w s
Rest w (SwitchOn k kind method) = ⊤
Rest w (SwitchEnd k) = ⊤
Rest w (Down s) = KnowsSite w s
Rest w (Up s session) = KnowsSite w s
Rest w (Clear s x version) = KnowsSite w s × KnowsItem w x

-- so of all entries
abbrev pub Told : Workload → List Entry → Type 0
Told w h = AllByRecursion (Rest w) h
