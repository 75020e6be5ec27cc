-- A site's session, as the history has it and as the site itself has it.
use Rattle.std.specs.Prelude.{ℕ, ◌+◌, if◌then◌else◌}
use Rattle.raid_base.specs.Sites.{session, site}
use Rattle.raid_workload.specs.declared.workload.Workload.{Workload}
use Rattle.raid_rules.specs.History.{noted}
use Rattle.raid_rules.specs.Sessions as rules
use Rattle.raid_legal.specs.Seen.{vector}
use Rattle.raid_steps.specs.State.{SiteState}
use Rattle.raid_steps.specs.World.{World}

-- the session in which the history has the site at a place, counted from 0; 0 where it is down
abbrev pub told_session : Workload → World → ℕ → ℕ
told_session w state k = session (vector w (noted state.servers.sequencer.history)) (site (k + 1))

-- the last session of the site that the history tells of
abbrev pub last_told : World → ℕ → ℕ
last_told state k = rules.last_session (noted state.servers.sequencer.history) (site (k + 1))

-- the session that the site itself is in, 0 where it is stopped
abbrev pub own_session : SiteState → ℕ
own_session state = if state.up then state.session else 0
