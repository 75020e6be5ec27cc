use Rattle.std.proofs.Common.{List}
use Rattle.std.specs.Prelude.{flat_map}
use Rattle.raid_base.specs.declared.entry.Noted.{Noted}
use Rattle.raid_workload.specs.Parts.{placement}
use Rattle.raid_steps.specs.State.{Copying}
use Rattle.raid_faillock.specs.Stands as faillocks
use Rattle.raid_copier.specs.Copiers as ways
use Rattle.raid_record.specs.Turns.{Asked}
use Rattle.raid_record.proofs.Renewed.{due_at}
use Rattle.raid_record.proofs.Sites.{sites_to}
use Rattle.raid_record.proofs.copies.renew_all.Given as goal

-- the copies of the sites so far are asked for
abbrev pub invariant-loop-k : goal.invariant-loop-k
invariant-loop-k l =
    (p : List Noted) (out : List Copying) → faillocks.Stands l.locks l.workload.sites (placement l.workload) p → ways.Stands l.fn.copiers out →
    Asked l.vector l.copiers l.fn.outs l.outs out (flat_map (due_at l.workload p l.vector out) (sites_to l.k))
