-- Which reports are of a workload: they name only what it has, and leave nothing out.
use Rattle.std.specs.Prelude.{◌≡◌, ℤ, ◌+◌, ◌*◌, ◌<◌, ◌≤◌, List, [], map, filter, flat_map, length, slice_index_or, ⊤}
use Rattle.std.specs.List.{AllByRecursion}
use Rattle.raid_base.specs.declared.names.Txn.{Txn}
use Rattle.raid_base.specs.declared.names.Item.{Item}
use Rattle.raid_base.specs.declared.names.Site.{Site}
use Rattle.raid_base.specs.declared.request.Request.{Request}
use Rattle.raid_base.specs.declared.entry.Entry.{Entry}
use Rattle.raid_base.specs.declared.entry.Entry.TheVariants.{Begin, Read, Wait, Commit, Abort, Ack, SwitchOn, SwitchEnd, Down, Up, Clear}
use Rattle.raid_base.specs.declared.entry.Act.{Act}
use Rattle.raid_base.specs.declared.entry.Act.TheVariants as acts
use Rattle.raid_base.specs.declared.entry.Cause.{Cause}
use Rattle.raid_base.specs.declared.entry.Cause.TheVariants as causes
use Rattle.raid_base.specs.declared.report.Report.{Report}
use Rattle.raid_base.specs.declared.report.CopyLine.{CopyLine}
use Rattle.raid_base.specs.Names.{has_site}
use Rattle.raid_workload.specs.declared.workload.Workload.{Workload}
use Rattle.raid_workload.specs.Parts.{items, sites, placement}

-- the transaction is an attempt at one of the workload's programs
pub record KnowsTxn (w : Workload) (t : Txn) : Type 0 where
  pub first : 1 ≤ t.0
  pub last : t.0 ≤ length w.programs * (w.restarts + 1)

-- the site is one of the workload's
pub record KnowsSite (w : Workload) (s : Site) : Type 0 where
  pub first : 1 ≤ s.0
  pub last : s.0 ≤ w.sites

-- the item is one of the workload's
abbrev pub KnowsItem : Workload → Item → Type 0
KnowsItem w x = x.0 < length w.items

abbrev pub KnowsPair : Workload → Item × ℤ → Type 0
KnowsPair w p = KnowsItem w p.0

-- the items of the request are the workload's, and its vector has a number per site
pub record KnowsRequest (w : Workload) (r : Request) : Type 0 where
  pub reads : AllByRecursion (KnowsPair w) r.reads
  pub writes : AllByRecursion (KnowsPair w) r.writes
  pub under : length r.under ≡ w.sites

-- the items of the act are the workload's, and its vector has a number per site
abbrev pub KnowsAct : Workload → Act → Type 0
KnowsAct w acts.Nothing = ⊤
KnowsAct w (acts.Ended reads) = AllByRecursion (KnowsPair w) reads
KnowsAct w (acts.Read x) = KnowsItem w x
KnowsAct w (acts.Commit r) = KnowsRequest w r

-- the act is the action that was refused
abbrev pub IsRefused : Workload → Act → Type 0
IsRefused w acts.Nothing = ⊥
IsRefused w (acts.Ended reads) = ⊥
IsRefused w (acts.Read x) = KnowsItem w x
IsRefused w (acts.Commit r) = KnowsRequest w r

-- the act is the program's own end
abbrev pub IsEnded : Workload → Act → Type 0
IsEnded w acts.Nothing = ⊥
IsEnded w (acts.Ended reads) = AllByRecursion (KnowsPair w) reads
IsEnded w (acts.Read x) = ⊥
IsEnded w (acts.Commit r) = ⊥

abbrev pub IsNothing : Act → Type 0
IsNothing acts.Nothing = ⊤
IsNothing (acts.Ended reads) = ⊥
IsNothing (acts.Read x) = ⊥
IsNothing (acts.Commit r) = ⊥

-- the act is one that the cause has
abbrev pub IsActOf : Workload → Cause → Act → Type 0
IsActOf w causes.Own act = IsEnded w act
IsActOf w causes.Overflow act = IsEnded w act
IsActOf w causes.Late act = IsRefused w act
IsActOf w causes.Invalid act = IsRefused w act
IsActOf w causes.Cycle act = IsRefused w act
IsActOf w causes.Deadlock act = IsRefused w act
IsActOf w (causes.SwitchOff k) act = IsNothing act
IsActOf w causes.HomeDown act = IsNothing act
IsActOf w (causes.Stale v) act = (length v ≡ w.sites) × IsRefused w act
IsActOf w causes.NoCopy act = IsRefused w act

-- the entry names only what the workload has
abbrev pub IsEntryOf : Workload → Entry → Type 0
IsEntryOf w (Begin t s) = KnowsTxn w t × KnowsSite w s
IsEntryOf w (Read t x s) = KnowsTxn w t × KnowsItem w x × KnowsSite w s
IsEntryOf w (Wait t r) = KnowsTxn w t × KnowsRequest w r
IsEntryOf w (Commit t r applied) = KnowsTxn w t × KnowsRequest w r × AllByRecursion (KnowsSite w) applied
IsEntryOf w (Abort t cause act) = KnowsTxn w t × IsActOf w cause act
IsEntryOf w (Ack t s) = KnowsTxn w t × KnowsSite w s
IsEntryOf w (SwitchOn k kind method) = ⊤
IsEntryOf w (SwitchEnd k) = ⊤
IsEntryOf w (Down s) = KnowsSite w s
IsEntryOf w (Up s session) = KnowsSite w s
IsEntryOf w (Clear s x version) = KnowsSite w s × KnowsItem w x

-- the holders of an item
abbrev pub holders_of : Workload → Item → List Site
holders_of w x = slice_index_or (placement w) x.0 []

-- the items of which a site has copies
abbrev pub held_at : Workload → Site → List Item
held_at w s = filter (λ x. has_site (holders_of w x) s) (items w)

-- all copies, by site, then item
abbrev pub places : Workload → List (Site × Item)
places w = flat_map (λ s. map (λ x. (s, x)) (held_at w s)) (sites w)

-- the place of a copy
abbrev pub place_of : CopyLine → Site × Item
place_of c = (c.site, c.item)

abbrev pub KnowsCopy : Workload → CopyLine → Type 0
KnowsCopy w c = KnowsItem w c.item

-- the report names only what the workload has; its finals are all items in order, its copies all copies in order
pub record IsReportOf (w : Workload) (r : Report) : Type 0 where
  pub entries : AllByRecursion (IsEntryOf w) r.entries
  pub order : AllByRecursion (KnowsTxn w) r.order
  pub finals : map (λ p. p.0) r.finals ≡ items w
  pub copies : map place_of r.copies ≡ places w
