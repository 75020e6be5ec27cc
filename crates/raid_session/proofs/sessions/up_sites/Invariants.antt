use Rattle.std.proofs.Common.{◌≡◌, filter}
use Rattle.raid_base.specs.Sites.{all_sites}
use Rattle.raid_rules.specs.Sessions.{is_site_up}
use Rattle.raid_session.proofs.Searched.{below}
use Rattle.raid_session.proofs.sessions.up_sites.Given as goal

-- those so far that are up
abbrev pub invariant-loop-number : goal.invariant-loop-number
invariant-loop-number l = l.up ≡ filter (below l.number (is_site_up l.vector)) all_sites
