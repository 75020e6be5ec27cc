-- The programs of a site as its state shows them. A program that is done is in preparation as long as votes for it are counted, and its
-- CommitAsk was sent after that.
use Rattle.std.specs.Prelude.{List, map, Option, Some, None}
use Rattle.raid_base.specs.declared.names.Txn.{Txn}
use Rattle.raid_base.specs.declared.names.Site.{Site}
use Rattle.raid_steps.specs.State.{Phase, asking, preparing, sent, Running, SiteState}
use Rattle.raid_driver.specs.declared.task.Task.{Task}
use Rattle.raid_driver.specs.declared.task.Doing.{Doing}
use Rattle.raid_driver.specs.declared.task.Doing.TheVariants.{Asking, Done, Over}
use Rattle.raid_driver.specs.Drive.{Drive}

-- for each transaction the sites whose votes are awaited, if its votes are counted
abbrev pub Votes : Type 0
Votes = Txn → Option (List Site)

-- what a program is about, given its votes
abbrev pub phase_of : Option (List Site) → Doing → Phase
phase_of votes (Asking k x s) = asking k x s
phase_of (Some awaited) (Done reads writes) = preparing reads writes awaited
phase_of None (Done reads writes) = sent
phase_of votes Over = sent

-- a program as the site's state shows it
abbrev pub shown : Votes → Task → Running
shown votes r = record { txn = r.txn; answers = r.answers; asks = r.asks; phase = phase_of (votes r.txn) r.doing }

-- the site's state with these programs
abbrev pub with_drive : Votes → Drive → SiteState → SiteState
with_drive votes d state = record state { next = d.next; running = map (shown votes) d.running }
