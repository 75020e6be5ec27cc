-- A world in which each server may hear whatever letter it might take next.
use Rattle.std.specs.Prelude.{◌≡◌, ℕ, ◌+◌, List, ◌∷◌, Some, slice_get}
use Rattle.raid_base.specs.Sites.{site}
use Rattle.raid_workload.specs.declared.workload.Workload.{Workload}
use Rattle.raid_rules.specs.History.{noted}
use Rattle.raid_message.specs.declared.letter.Letter.{Letter}
use Rattle.raid_steps.specs.State.{SiteState}
use Rattle.raid_steps.specs.World.{World, link}
use Rattle.raid_ends.specs.Placing.{MayHear}
use Rattle.raid_ends.specs.Ready.{Ready}

-- each site stands in its place, and is ready for the front letter of each of its links; so is the sequencer for those of its own. The monitor
-- always is
pub record AreReady (w : Workload) (state : World) : Type 0 where
  pub places : (k : ℕ) (s : SiteState) → slice_get state.servers.sites k ≡ Some s → s.site ≡ site (k + 1)
  pub sites : (k : ℕ) (s : SiteState) → slice_get state.servers.sites k ≡ Some s → (from : ℕ) (letter : Letter) (rest : List Letter) → link state.links (k + 2) from ≡ letter ∷ rest →
      Ready w (noted state.servers.sequencer.history) s from letter
  pub sequencer : (from : ℕ) (letter : Letter) (rest : List Letter) → link state.links 1 from ≡ letter ∷ rest → MayHear w state.servers.sequencer from letter
