-- Which reports a program can hold: their numbers are within their types, and their sets of sites ascend.
use Rattle.std.specs.Prelude.{◌≡◌, ℕ, ℤ, ◌-◌, ◌<◌, ◌^◌, List, length, filter, ⊤}
use Rattle.std.specs.List.{AllByRecursion}
use Rattle.raid_base.specs.declared.names.Item.{Item}
use Rattle.raid_base.specs.declared.names.Site.{Site}
use Rattle.raid_base.specs.declared.request.Request.{Request}
use Rattle.raid_base.specs.declared.entry.Entry.{Entry}
use Rattle.raid_base.specs.declared.entry.Entry.TheVariants.{Begin, Read, Wait, Commit, Abort, Ack, SwitchOn, SwitchEnd, Down, Up, Clear}
use Rattle.raid_base.specs.declared.entry.Act.{Act}
use Rattle.raid_base.specs.declared.entry.Act.TheVariants as acts
use Rattle.raid_base.specs.declared.entry.Cause.{Cause}
use Rattle.raid_base.specs.declared.entry.Cause.TheVariants as causes
use Rattle.raid_base.specs.declared.report.Report.{Report}
use Rattle.raid_base.specs.declared.report.CopyLine.{CopyLine}
use Rattle.raid_base.specs.Names.{has_site}
use Rattle.raid_base.specs.Sites.{all_sites}
use Rattle.raid_pieces.specs.Numbers.{IsValue}

abbrev pub IsTypedPair : Item × ℤ → Type 0
IsTypedPair p = IsValue p.1

abbrev pub IsSession : ℕ → Type 0
IsSession n = n < 2 ^ 32

pub record IsTypedRequest (r : Request) : Type 0 where
  pub reads : AllByRecursion IsTypedPair r.reads
  pub writes : AllByRecursion IsTypedPair r.writes
  pub under : AllByRecursion IsSession r.under

abbrev pub IsTypedAct : Act → Type 0
IsTypedAct acts.Nothing = ⊤
IsTypedAct (acts.Ended reads) = AllByRecursion IsTypedPair reads
IsTypedAct (acts.Read x) = ⊤
IsTypedAct (acts.Commit r) = IsTypedRequest r

abbrev pub IsTypedCause : Cause → Type 0
IsTypedCause causes.Own = ⊤
IsTypedCause causes.Overflow = ⊤
IsTypedCause causes.Late = ⊤
IsTypedCause causes.Invalid = ⊤
IsTypedCause causes.Cycle = ⊤
IsTypedCause causes.Deadlock = ⊤
IsTypedCause (causes.SwitchOff k) = k < 2 ^ 8
IsTypedCause causes.HomeDown = ⊤
IsTypedCause (causes.Stale v) = AllByRecursion IsSession v
IsTypedCause causes.NoCopy = ⊤

-- the sites are those of a set, ascending
abbrev pub IsSet : List Site → Type 0
IsSet sites = filter (has_site sites) all_sites ≡ sites

abbrev pub IsTypedEntry : Entry → Type 0
IsTypedEntry (Begin t s) = ⊤
IsTypedEntry (Read t x s) = ⊤
IsTypedEntry (Wait t r) = IsTypedRequest r
IsTypedEntry (Commit t r applied) = IsTypedRequest r × IsSet applied
IsTypedEntry (Abort t cause act) = IsTypedCause cause × IsTypedAct act
IsTypedEntry (Ack t s) = ⊤
IsTypedEntry (SwitchOn k kind method) = k < 2 ^ 8
IsTypedEntry (SwitchEnd k) = k < 2 ^ 8
IsTypedEntry (Down s) = ⊤
IsTypedEntry (Up s session) = session < 2 ^ 32
IsTypedEntry (Clear s x version) = version < 2 ^ 32

pub record IsTypedCopy (c : CopyLine) : Type 0 where
  pub value : IsValue c.value
  pub version : c.version < 2 ^ 32

-- its numbers and sets are within their types
pub record IsTyped (r : Report) : Type 0 where
  pub entries : AllByRecursion IsTypedEntry r.entries
  pub finals : AllByRecursion IsTypedPair r.finals
  pub copies : AllByRecursion IsTypedCopy r.copies

-- the report is one that a program can hold: the numbers of its entries are within their type too
pub record IsHeld (r : Report) : Type 0 where
  pub typed : IsTyped r
  pub few : length r.entries < 2 ^ 32 - 1
