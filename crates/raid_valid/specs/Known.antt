-- What a controller by validation stands for.
use Rattle.std.specs.Prelude.{List}
use Rattle.raid_base.specs.declared.entry.Noted.{Noted}
use Rattle.raid_tables.specs.Running.{KnowsRunning}
use Rattle.raid_tables.specs.Commits.{KnowsCommits}
use Rattle.raid_valid.specs.declared.control.ValidControl.{ValidControl}

-- each of its tables answers as the view does
pub record Known (c : ValidControl) (view : List Noted) : Type 0 where
  pub running : KnowsRunning c.running view
  pub commits : KnowsCommits c.commits view
