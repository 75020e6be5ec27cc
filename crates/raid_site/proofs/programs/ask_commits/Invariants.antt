use Rattle.raid_steps.specs.Programs as steps
use Rattle.raid_site.specs.Whole.{IsLive, IsWhole}
use Rattle.raid_site.proofs.Each.{IsAt}
use Rattle.raid_site.proofs.programs.ask_commits.Given as goal

-- those so far have asked
abbrev pub invariant-loop-place : goal.invariant-loop-place
invariant-loop-place l = record {
  so_far : IsAt (λ z r. steps.ask_commit z r r.phase) l.fn.parts l.parts l.fn.outs l.outs l.place;
  live : IsLive l.workload l.parts;
  whole : IsWhole l.workload l.parts;
}
