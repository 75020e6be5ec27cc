-- What a controller by the conflict graph stands for.
use Rattle.std.specs.Prelude.{List}
use Rattle.raid_base.specs.declared.entry.Noted.{Noted}
use Rattle.raid_tables.specs.Running.{KnowsRunning}
use Rattle.raid_tables.specs.Commits.{KnowsCommits}
use Rattle.raid_conflict.specs.Live.{Stands}
use Rattle.raid_graph.specs.declared.control.GraphControl.{GraphControl}

-- its graph stands for the view, and each of its tables answers as the view does
pub record Known (c : GraphControl) (view : List Noted) : Type 0 where
  pub graph : Stands c.graph view
  pub running : KnowsRunning c.running view
  pub commits : KnowsCommits c.commits view
