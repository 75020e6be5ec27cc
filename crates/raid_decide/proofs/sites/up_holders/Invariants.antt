use Rattle.std.proofs.Common.{◌≡◌, ◌&&◌, filter}
use Rattle.raid_base.specs.Sites.{all_sites}
use Rattle.raid_rules.specs.Sessions.{is_site_up}
use Rattle.raid_legal.specs.Seen.{holds_some}
use Rattle.raid_session.proofs.Searched.{below}
use Rattle.raid_decide.proofs.sites.up_holders.Given as goal

-- those so far that take part
abbrev pub invariant-loop-number : goal.invariant-loop-number
invariant-loop-number l = l.up ≡ filter (below l.number (λ s. is_site_up l.vector s && holds_some l.workload l.writes s)) all_sites
