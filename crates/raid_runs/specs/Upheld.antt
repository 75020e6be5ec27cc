-- What a report of a run keeps to, in whatever order the servers took their letters.
use Rattle.std.specs.Prelude.{◌≡◌, map, None}
use Rattle.raid_base.specs.declared.report.Report.{Report}
use Rattle.raid_workload.specs.declared.workload.Workload.{Workload}
use Rattle.raid_workload.specs.Parts.{items}
use Rattle.raid_rules.specs.History.{noted}
use Rattle.raid_rules.specs.Conflict.{serial_order}
use Rattle.raid_rules.specs.Committed.{IsSerialOrder}
use Rattle.raid_legal.specs.Seen.{value_of}
use Rattle.raid_legal.specs.Forced.{forced}
use Rattle.raid_legal.specs.Switched.{Switched}
use Rattle.raid_placed.specs.Placed.{Placed}
use Rattle.raid_report.specs.Known.{IsReportOf}
use Rattle.raid_made.specs.Made.{EntriesMade}
use Rattle.raid_sessions.specs.Due.{AreDue}

-- the report is upheld: its history is placed, and what it tells beside that is what the history makes of it
pub record Upheld (w : Workload) (r : Report) : Type 0 where
  -- each entry is the one that the rules force after those before it, or else one that they let come there: for a read or a commit it is their
  -- answer to it. So an abort has the cause that they give; that of a program which ends itself is the program's, as `made` says
  pub placed : Placed w r.entries
  -- at the end none is forced: no switch, no abort and no answer to a waiting request is left out
  pub unforced : forced w (noted r.entries) ≡ None
  -- each switch aborted just those of its list, directly behind it; each action while two controllers were in force was granted by both; and
  -- each Read came from an up site with an unlocked copy
  pub switched : Switched w r.entries
  -- the order is the serial order of the history
  pub in_order : r.order ≡ serial_order (noted r.entries)
  -- it lists each committed transaction once and no other, and each conflict of committed ones leads onward in it
  pub serial : IsSerialOrder (noted r.entries) r.order
  -- the final value of an item is that of the last Commit that wrote it, else its initial one
  pub values : r.finals ≡ map (λ x. (x, value_of w (noted r.entries) x)) (items w)
  -- each commit, made, waiting or refused, is just what its program makes of the reads that it tells; and a program that ends itself ends as
  -- its abort says on the reads that it tells. Whether the values read are those of the last writers is no part of it
  pub made : EntriesMade w r.entries
  -- each stop and each return that is told was due, and each copy that was cleared was locked, at an up site, and has the item's version
  pub due : AreDue w r.entries
  -- the report names only what the workload has, and leaves no item and no copy out; and each abort has an act that its cause has
  pub known : IsReportOf w r
