use Rattle.raid_steps.specs.Programs as steps
use Rattle.raid_site.specs.Whole.{IsLive, IsWhole}
use Rattle.raid_site.proofs.Each.{IsAt}
use Rattle.raid_site.proofs.programs.join_all.Given as goal

-- those so far have been joined
abbrev pub invariant-loop-place : goal.invariant-loop-place
invariant-loop-place l = record {
  so_far : IsAt (λ z r. steps.join l.workload l.site z r r.phase) l.fn.parts l.parts l.fn.outs l.outs l.place;
  live : IsLive l.workload l.parts;
  whole : IsWhole l.workload l.parts;
}
