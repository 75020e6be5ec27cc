use Rattle.std.proofs.Common.{◌≡◌, ◌&&◌, not, nat_le, filter}
use Rattle.raid_base.specs.Names.{is_site}
use Rattle.raid_base.specs.Sites.{all_sites}
use Rattle.raid_rules.specs.Sessions.{is_site_up}
use Rattle.raid_legal.specs.Seen.{holds_some}
use Rattle.raid_session.proofs.Searched.{below}
use Rattle.raid_site.proofs.holding.voters.Given as goal

-- those so far that have to vote
abbrev pub invariant-loop-number : goal.invariant-loop-number
invariant-loop-number l = l.voters ≡ filter (below l.number (λ s. nat_le s.0 l.workload.sites && (is_site_up l.vector s && not (is_site l.own s) && holds_some l.workload l.writes s))) all_sites
