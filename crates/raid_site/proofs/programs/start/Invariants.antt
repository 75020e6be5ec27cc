use Rattle.std.proofs.Common.{◌≡◌, ◌≤◌, ◌+◌, length}
use Rattle.std.specs.Prelude.{fold}
use Rattle.raid_workload.specs.Parts.{count_from}
use Rattle.raid_steps.specs.Programs as steps
use Rattle.raid_site.specs.Whole.{turn, IsLive, IsWhole}
use Rattle.raid_site.proofs.programs.start.Given as goal

-- so many rounds are done
abbrev pub invariant-loop : goal.invariant-loop
invariant-loop l = record {
  rounds : turn l.parts l.outs ≡ fold (λ t k. steps.begin_next l.workload t) (turn l.fn.parts l.fn.outs) (count_from 0 l.counter);
  live : IsLive l.workload l.parts;
  whole : IsWhole l.workload l.parts;
  begun : length l.parts.driver.running ≤ length l.fn.parts.driver.running + l.counter;
}
