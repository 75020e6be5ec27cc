-- Worlds that picks have led to, and their reports.
use Rattle.std.proofs.Common.{◌≡◌, List, [], ◌∷◌, ◌++◌, sym, subst}
use Rattle.std.proofs.lemmas.List.Sums.{fold-append}
use Rattle.raid_base.specs.declared.report.Report.{Report}
use Rattle.raid_message.specs.declared.letter.Pick.{Pick}
use Rattle.raid_workload.specs.declared.workload.Workload.{Workload}
use Rattle.raid_boxed.specs.Boxed.{Says}
use Rattle.raid_steps.specs.World as steps
use Rattle.raid_report.specs.Known.{IsReportOf}
use Rattle.raid_known.proofs.Reached.{report_known}
use Rattle.raid_world.specs.declared.world.World.{World}
use Rattle.raid_world.specs.Stands.{Stands, Runs}
use Rattle.raid_world_table.specs.Reached.{Reached}

-- no pick has been made
pub opened : {V : Type 0} {D : V → Type 0} (say : Says V D) (w : Workload) (world : World V D) → Runs say w world → Stands world (steps.open_world w) → Reached say w world
opened say w world runs stands = record { runs = runs; schedule = []; stands = stands }

-- one pick more has been made
pub led : {V : Type 0} {D : V → Type 0} (say : Says V D) (w : Workload) (world after : World V D) (p : Pick) →
    Reached say w world → ((s : steps.World) → Stands world s → Stands after (steps.pick w s p)) → Runs say w after → Reached say w after
led say w world after p r stands runs = record {
  runs = runs;
  schedule = r.schedule ++ p ∷ [];
  stands = subst (Stands after) (sym (fold-append (steps.pick w) (steps.open_world w) r.schedule (p ∷ []))) (stands (steps.run w r.schedule) r.stands);
}

-- what is told of it can be printed
pub told_known : {V : Type 0} {D : V → Type 0} (say : Says V D) (w : Workload) (world : World V D) (r : Report) →
    Reached say w world → ((s : steps.World) → Stands world s → r ≡ steps.report w s.servers) → IsReportOf w r
told_known say w world r reached is = subst (IsReportOf w) (sym (is (steps.run w reached.schedule) reached.stands)) (report_known w reached.schedule)
