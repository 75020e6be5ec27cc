-- The server of a site: which site it is, and what its parts rest on while it runs.
use Rattle.std.specs.Prelude.{ℕ, ◌+◌, ◌≤◌, ◌≡◌, Bool, true, false, List, nat_le}
use Rattle.std.specs.List.{list_all}
use Rattle.raid_workload.specs.declared.workload.Workload.{Workload}
use Rattle.raid_steps.specs.State.{Out, Turn, Running, SiteState}
use Rattle.raid_access.specs.Stock.{Stock}
use Rattle.raid_site.specs.declared.parts.Parts.{Parts}
use Rattle.raid_site.specs.declared.server.SiteServer.{SiteServer}
use Rattle.raid_site.specs.Whole.{IsLive, IsWhole}
use Rattle.raid_site.specs.Whole as parts

-- no program has asked more often than so
abbrev pub asks_at_most : ℕ → List Running → Bool
asks_at_most n rs = list_all (λ (r : Running). nat_le r.asks n) rs

-- the site that a server is
abbrev pub state_of : SiteServer → SiteState
state_of s = parts.state_of s.parts

-- what it is, with what was sent
abbrev pub turn : SiteServer → List Out → Turn SiteState
turn s outs = record { state = state_of s; outs = outs }

-- what it stores
abbrev pub stock_of : SiteServer → Stock
stock_of s = s.parts.copies

-- how many letters it has heard
abbrev pub heard : SiteServer → ℕ
heard s = s.heard

-- it was refused memory, and answers nothing else from then on
abbrev pub is_finished : SiteServer → Bool
is_finished s = s.finished

-- parts that have come about by so many letters: they fit the workload and one another; no program has asked more often than a letter was
-- heard, and not more often did a session begin after the first
pub record Run (w : Workload) (p : Parts) (letters : ℕ) : Type 0 where
  pub live : IsLive w p
  pub whole : IsWhole w p
  pub asks : asks_at_most letters (parts.state_of p).running ≡ true
  pub session : p.session ≤ letters + 1

-- the server was made for the workload and has heard letters since; of one that is finished nothing is said
abbrev pub IsRun : Workload → SiteServer → Type 0
IsRun w s = is_finished s ≡ false → Run w s.parts s.heard
