-- The programs that run at a site.
use Rattle.std.specs.Prelude.{◌≡◌, ℕ, ◌+◌, true}
use Rattle.std.specs.List.{AllByRecursion}
use Rattle.raid_base.specs.declared.names.Txn.{Txn}
use Rattle.raid_base.specs.declared.names.Site.{Site}
use Rattle.raid_base.specs.Names.{is_site, has_txn}
use Rattle.raid_base.specs.Sites.{site}
use Rattle.raid_workload.specs.declared.workload.Workload.{Workload}
use Rattle.raid_workload.specs.Parts.{txns, home}
use Rattle.raid_steps.specs.State.{Running, SiteState}
use Rattle.raid_moves.specs.Moves.{Ascend}

-- the transaction is one of the workload's, and the site is its home
abbrev pub IsOf : Workload → Site → Txn → Type 0
IsOf w s t = (has_txn (txns w) t ≡ true) × (is_site s (home w t) ≡ true)

-- at the site at a place, counted from 0, run programs of its own transactions alone, each once
pub record RunsOwn (w : Workload) (k : ℕ) (s : SiteState) : Type 0 where
  pub own : AllByRecursion (λ (r : Running). IsOf w (site (k + 1)) r.txn) s.running
  pub once : Ascend s.running
