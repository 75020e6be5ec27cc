-- What a controller by stamps stands for.
use Rattle.std.specs.Prelude.{List}
use Rattle.raid_base.specs.declared.entry.Noted.{Noted}
use Rattle.raid_tables.specs.Running.{KnowsRunning}
use Rattle.raid_tables.specs.Stamps.{KnowsStamps}
use Rattle.raid_tables.specs.Commits.{KnowsCommits}
use Rattle.raid_stamp.specs.declared.control.StampControl.{StampControl}

-- each of its tables answers as the view does
pub record Known (c : StampControl) (view : List Noted) : Type 0 where
  pub running : KnowsRunning c.running view
  pub stamps : KnowsStamps c.stamps view
  pub commits : KnowsCommits c.commits view
