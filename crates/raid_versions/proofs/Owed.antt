-- What is known of a world besides, and what each kind of step owes for copies to have the last versions.
use Rattle.std.proofs.Common.{◌≡◌, ℕ, suc, ◌+◌, List, ◌∷◌, Some}
use Rattle.std.specs.Prelude.{slice_get, slice_set}
use Rattle.raid_base.specs.declared.names.Item.{Item}
use Rattle.raid_base.specs.Sites.{site}
use Rattle.raid_workload.specs.declared.workload.Workload.{Workload}
use Rattle.raid_rules.specs.History.{noted}
use Rattle.raid_message.specs.declared.letter.Letter.{Letter}
use Rattle.raid_steps.specs.State.{SiteState}
use Rattle.raid_steps.specs.Copies.{holds_copy}
use Rattle.raid_steps.specs.Site.{hear_site}
use Rattle.raid_steps.specs.World.{World, link}
use Rattle.raid_sessions.proofs.Mail.{moved}
use Rattle.raid_asks.proofs.Waits.{Waits}
use Rattle.raid_letters.specs.Says.{is_held}
use Rattle.raid_letters.proofs.Runs.{WorldSays}
use Rattle.raid_staged.specs.Agree.{PartsAgree}
use Rattle.raid_staged.specs.Staged.{StagedFirst}
use Rattle.raid_versions.specs.Versions.{LastVersions, HaveLastVersions}

module _ (w : Workload) where
  -- the site at a place has copies of just the items that it holds
  abbrev pub HoldsOwn : ℕ → SiteState → Type 0
  HoldsOwn k s = (x : Item) → holds_copy s x ≡ is_held w (site (k + 1)) x

  -- what holds in each run below this layer
  pub record Known (state : World) : Type 0 where
    pub says : WorldSays w state
    pub cares : Waits w state.servers state.links
    pub staged : StagedFirst w state
    pub agree : PartsAgree w state
    pub held : (k : ℕ) (s : SiteState) → slice_get state.servers.sites k ≡ Some s → HoldsOwn k s

  -- a site's step keeps all of it
  abbrev pub SiteOwes : Type 0
  SiteOwes =
      (state : World) → Known state → HaveLastVersions state → (from clock : ℕ) (letter : Letter) (rest : List Letter) (k : ℕ) (own : SiteState) →
      slice_get state.servers.sites k ≡ Some own → link state.links (suc (suc k)) from ≡ letter ∷ rest →
      LastVersions (noted state.servers.sequencer.history) (slice_set state.servers.sites k (hear_site w own from letter).state)
      (moved state.links (suc (suc k)) from (hear_site w own from letter).state.session clock rest (hear_site w own from letter).outs)
