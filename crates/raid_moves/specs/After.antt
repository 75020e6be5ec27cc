-- What moves leave as it was, and what each program that runs at a site has come to after a step that goes through all of them.
use Rattle.std.specs.Prelude.{◌≡◌, ◌+◌, ◌==◌, nat_le, Bool, true, false, ◌||◌, [], length, Some, None, if◌then◌else◌}
use Rattle.std.specs.List.{AllByRecursion}
use Rattle.raid_base.specs.declared.names.Site.{Site}
use Rattle.raid_base.specs.Names.{is_site, has_site}
use Rattle.raid_workload.specs.declared.workload.Workload.{Workload}
use Rattle.raid_legal.specs.Seen.{holds_some}
use Rattle.raid_steps.specs.State.{Phase, asking, preparing, sent, Running, SiteState}
use Rattle.raid_steps.specs.Programs.{with_vote}
use Rattle.raid_moves.specs.Moves.{but}

-- the site, whether it is up, its session, its vector and its copies are left as they were
pub record Leaves (a b : SiteState) : Type 0 where
  pub site : b.site ≡ a.site
  pub up : b.up ≡ a.up
  pub session : b.session ≡ a.session
  pub vector : b.vector ≡ a.vector
  pub copies : b.copies ≡ a.copies

-- a site is down: a read that it was to serve is asked again, and its vote isn't awaited
abbrev pub lost_in : Site → Running → Phase → Running
lost_in s r (asking k x (Some q)) = if is_site s q then record r { asks = r.asks + 1; phase = asking (r.asks + 1) x None } else r
lost_in s r (preparing reads writes awaited) = record r { phase = preparing reads writes (but s awaited) }
lost_in s r other = r

abbrev pub lost : Site → Running → Running
lost s r = lost_in s r r.phase

-- a site is up again: its vote is awaited where a written item is held there
abbrev pub joined_in : Workload → Site → Running → Phase → Running
joined_in w s r (preparing reads writes awaited) = if holds_some w writes s then record r { phase = preparing reads writes (with_vote s awaited) } else r
joined_in w s r other = r

abbrev pub joined : Workload → Site → Running → Running
joined w s r = joined_in w s r r.phase

-- where no vote is awaited any more, the commit was asked for
abbrev pub committed_in : Running → Phase → Running
committed_in r (preparing reads writes []) = record r { phase = sent }
committed_in r other = r

abbrev pub committed : Running → Running
committed r = committed_in r r.phase

-- the program's commit may be asked for
abbrev pub is_ready : Phase → Bool
is_ready (preparing reads writes []) = true
is_ready other = false

-- the program awaits something of the site
abbrev pub needs : Site → Phase → Bool
needs s (asking k x (Some q)) = is_site s q
needs s (preparing reads writes awaited) = has_site awaited s
needs s other = false

-- no program's commit is still to be asked for; none awaits something of the site
abbrev pub NoneIsReady : SiteState → Type 0
NoneIsReady state = AllByRecursion (λ (r : Running). is_ready r.phase ≡ false) state.running

abbrev pub NoneNeeds : Site → SiteState → Type 0
NoneNeeds s state = AllByRecursion (λ (r : Running). needs s r.phase ≡ false) state.running

-- as many programs run as may, or none is left to begin
abbrev pub is_full : Workload → SiteState → Bool
is_full w state = state.next == 0 || nat_le w.together (length state.running)
