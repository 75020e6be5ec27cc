-- What a generic controller stands for, whatever its kind.
use Rattle.std.specs.Prelude.{List}
use Rattle.raid_base.specs.declared.entry.Noted.{Noted}
use Rattle.raid_tables.specs.Running.{KnowsRunning}
use Rattle.raid_tables.specs.Readers.{KnowsReaders}
use Rattle.raid_tables.specs.Stamps.{KnowsStamps}
use Rattle.raid_tables.specs.Commits.{KnowsCommits}
use Rattle.raid_conflict.specs.Live.{Stands}
use Rattle.raid_generic.specs.declared.control.GenericControl.{GenericControl}

-- its graph stands for the view, and each of its tables answers as the view does
pub record Known (c : GenericControl) (view : List Noted) : Type 0 where
  pub graph : Stands c.graph view
  pub running : KnowsRunning c.running view
  pub readers : KnowsReaders c.readers view
  pub stamps : KnowsStamps c.stamps view
  pub commits : KnowsCommits c.commits view
