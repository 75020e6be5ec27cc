-- What is claimed of a report of a run in which no letter is left.
use Rattle.std.specs.Prelude.{◌≡◌, None}
use Rattle.raid_base.specs.declared.report.Report.{Report}
use Rattle.raid_workload.specs.declared.workload.Workload.{Workload}
use Rattle.raid_rules.specs.History.{noted}
use Rattle.raid_legal.specs.Forced.{forced}
use Rattle.raid_legal.specs.Legal.{Legal}
use Rattle.raid_legal.specs.Serial.{Serial, Copies}
use Rattle.raid_legal.specs.Switched.{Switched}

-- the report is truthful: it is sound but for one thing, that nothing is left to do
pub record Truthful (w : Workload) (r : Report) : Type 0 where
  -- its history is legal
  pub legal : Legal w r.entries
  -- its order is the serial order, in which the programs, run alone, make the commits and leave the finals
  pub serial : Serial w r
  -- its copies are all there, and each that may be read is current
  pub copies : Copies w r
  -- its switches did what they may
  pub switched : Switched w r.entries
  -- and no entry is forced
  pub unforced : forced w (noted r.entries) ≡ None
