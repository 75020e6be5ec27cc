-- A sequencer is ready before its first letter.
use Rattle.std.proofs.Common.{◌≡◌, ◌+◌, ◌*◌, ◌≤◌, false, List, [], length, None, arith, subst, sym}
use Rattle.raid_base.specs.declared.entry.Entry.{Entry}
use Rattle.raid_workload.specs.declared.workload.Workload.{Workload}
use Rattle.raid_workload.specs.Parts.{txns}
use Rattle.raid_rules.specs.History.{noted}
use Rattle.raid_legal.specs.Forced.{forced}
use Rattle.raid_placed.proofs.Opening.{opening_quiet}
use Rattle.raid_boxed.specs.Boxed.{Says}
use Rattle.raid_steps.specs.World.{first_servers}
use Rattle.raid_record.specs.declared.records.Record.{Record}
use Rattle.raid_record.specs.Tells as records
use Rattle.raid_force.specs.declared.force.Force.{Force}
use Rattle.raid_force.specs.Force.{Holds}
use Rattle.raid_sequencer.specs.declared.sequencer.Sequencer.{Sequencer}
use Rattle.raid_sequencer.specs.Extent.{extent}
use Rattle.raid_sequencer.specs.Runs.{IsReady}
use Rattle.raid_sequencer.proofs.Extent.{opening_extent}

-- the sequencer with these parts, before its first letter
abbrev fresh : {V : Type 0} {D : V → Type 0} → Workload → Record → Force V D → Sequencer V D
fresh w r f = record { workload = w; parts = record { «record» = r; force = f }; heard = 0; finished = false }

fresh_ready : {V : Type 0} {D : V → Type 0} (say : Says V D) (w : Workload) (r : Record) (f : Force V D) → records.Tells w r (first_servers w).sequencer → Holds say w f [] → f.finished ≡ false → IsReady say (fresh w r f)
fresh_ready say w r f told holds on = record {
  kept = record {
    kept = told.kept;
    force = subst (λ (h : List Entry). Holds say w f (noted h)) (sym told.history) holds;
    goes_on = on;
  };
  quiet = subst (λ (h : List Entry). forced w (noted h) ≡ None) (sym told.history) (opening_quiet w);
  room = subst (λ (h : List Entry). extent w h ≤ 3 * 0 + (length (txns w) + 2 * length w.switches)) (sym told.history) (omega (arith, opening_extent w));
}

pub opened_ready : {V : Type 0} {D : V → Type 0} (say : Says V D) (w own : Workload) (r : Record) (f : Force V D) → own ≡ w → records.Tells w r (first_servers w).sequencer → Holds say w f [] → f.finished ≡ false → IsReady say (fresh own r f)
opened_ready say w own r f same told holds on = subst (λ (v : Workload). IsReady say (fresh v r f)) (sym same) (fresh_ready say w r f told holds on)
