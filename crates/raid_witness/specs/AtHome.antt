-- Where the programs are whose transactions run, or are about to.
use Rattle.std.specs.Prelude.{◌≡◌, ℕ, ◌+◌, true, Some, slice_get}
use Rattle.raid_base.specs.declared.names.Txn.{Txn}
use Rattle.raid_base.specs.Names.{is_site, has_txn}
use Rattle.raid_base.specs.Sites.{site}
use Rattle.raid_workload.specs.declared.workload.Workload.{Workload}
use Rattle.raid_workload.specs.Parts.{home}
use Rattle.raid_rules.specs.History.{noted, is_running}
use Rattle.raid_legal.specs.Seen.{is_up}
use Rattle.raid_steps.specs.State.{Running, SiteState}
use Rattle.raid_steps.specs.Programs.{running_of}
use Rattle.raid_steps.specs.World.{World, link}
use Rattle.raid_sessions.specs.Present.{last_told}
use Rattle.raid_asks.specs.Way.{begins_of}

-- a program of the transaction runs at the site
abbrev pub RunsAt : SiteState → Txn → Type 0
RunsAt s t = (r : Running) × (running_of s t ≡ Some r)

-- the site at a place, counted from 0, is up, in the last session of it that the history tells of
pub record IsAwake (state : World) (k : ℕ) (s : SiteState) : Type 0 where
  pub at : slice_get state.servers.sites k ≡ Some s
  pub up : s.up ≡ true
  pub last : last_told state k ≡ s.session

-- the programs of transactions that run are at their homes
pub record AreAtHome (w : Workload) (state : World) : Type 0 where
  -- the history has the home up
  pub up : (t : Txn) → is_running (noted state.servers.sequencer.history) t ≡ true →
      is_up w (noted state.servers.sequencer.history) (home w t) ≡ true
  -- where the home is awake, the program runs there
  pub runs : (k : ℕ) (s : SiteState) → IsAwake state k s → (t : Txn) →
      is_running (noted state.servers.sequencer.history) t ≡ true →
      is_site (site (k + 1)) (home w t) ≡ true → RunsAt s t
  -- and so it does whose Begin is on its way from an awake site, sent in its session
  pub begins : (k : ℕ) (s : SiteState) → IsAwake state k s → (t : Txn) →
      has_txn (begins_of s.session (link state.links 1 (k + 2))) t ≡ true → RunsAt s t
