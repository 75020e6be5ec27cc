use Rattle.std.proofs.Common.{◌≡◌, ◌≤◌, ◌-◌, filter, drop}
use Rattle.std.specs.List.{list_all}
use Rattle.raid_base.specs.Names.{has_site}
use Rattle.raid_base.specs.Sites.{all_sites}
use Rattle.raid_session.specs.Agreed.{is_same}
use Rattle.raid_session.proofs.sessions.agrees.Given as goal

-- those so far have passed
abbrev pub invariant-loop-number : goal.invariant-loop-number
invariant-loop-number l = record {
  least : 1 ≤ l.number;
  rest : list_all (is_same l.request l.present) l.holders ≡ list_all (is_same l.request l.present) (filter (has_site l.holders) (drop (l.number - 1) all_sites));
}
