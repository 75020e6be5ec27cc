use Rattle.std.proofs.Common.{◌≡◌}
use Rattle.raid_rules.specs.History.{noted}
use Rattle.raid_legal.specs.Answers.{answer_commit}
use Rattle.raid_legal.specs.Forced.{woken}
use Rattle.raid_decide.specs.Stand.{AreKept}
use Rattle.raid_decide.proofs.Waking.{first_from}
use Rattle.raid_decide.proofs.woken.woken.Given as goal

-- the controllers are kept, and the answer is among the places that are left
abbrev pub invariant-loop-place : goal.invariant-loop-place
invariant-loop-place g l = record {
  keeps : AreKept (λ v. (g.dyn-1.0.entry v).1) l.initial.eras l.eras;
  left : first_from (λ r. answer_commit l.workload (noted l.history) r.0 r.1) l.waits l.place ≡ woken l.workload (noted l.history);
}
