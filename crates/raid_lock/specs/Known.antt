-- What a controller by locks stands for.
use Rattle.std.specs.Prelude.{List}
use Rattle.raid_base.specs.declared.entry.Noted.{Noted}
use Rattle.raid_tables.specs.Running.{KnowsRunning}
use Rattle.raid_tables.specs.Readers.{KnowsReaders}
use Rattle.raid_tables.specs.Commits.{KnowsCommits}
use Rattle.raid_lock.specs.declared.control.LockControl.{LockControl}

-- each of its tables answers as the view does
pub record Known (c : LockControl) (view : List Noted) : Type 0 where
  pub running : KnowsRunning c.running view
  pub readers : KnowsReaders c.readers view
  pub commits : KnowsCommits c.commits view
