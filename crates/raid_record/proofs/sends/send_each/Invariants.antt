use Rattle.std.proofs.Common.{◌≡◌, ◌≤◌, ◌-◌, ◌++◌, map, filter, drop}
use Rattle.raid_base.specs.Names.{has_site}
use Rattle.raid_base.specs.Sites.{all_sites}
use Rattle.raid_steps.specs.State.{to_site}
use Rattle.raid_record.specs.Turns.{message_of}
use Rattle.raid_record.proofs.sends.send_each.Given as goal

-- the sites so far were told
abbrev pub invariant-loop-number : goal.invariant-loop-number
invariant-loop-number l = record {
  least : 1 ≤ l.number;
  rest : l.outs ++ map (λ s. to_site l.vector s (message_of l.notice)) (filter (has_site l.targets) (drop (l.number - 1) all_sites)) ≡ l.fn.outs ++ map (λ s. to_site l.vector s (message_of l.notice)) (filter (has_site l.targets) all_sites);
}
