use Rattle.std.proofs.Common.{◌≡◌, ◌+◌}
use Rattle.raid_rules.specs.History.{noted}
use Rattle.raid_record.specs.Keeps.{next_past}
use Rattle.raid_record.proofs.First.{first_from, count}
use Rattle.raid_record.proofs.Next.{is_past}
use Rattle.raid_record.proofs.homes.next_past.Given as goal

-- the programs so far aren't the one
abbrev pub invariant-loop-k : goal.invariant-loop-k
invariant-loop-k l = first_from (is_past l.workload (noted l.history) l.site l.after) (count l.workload) (l.k + 1) ≡ next_past l.workload (noted l.history) l.site l.after
