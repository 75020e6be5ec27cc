use Rattle.std.proofs.Common.{◌≡◌, List}
use Rattle.std.specs.Prelude.{filter_map}
use Rattle.std.specs.List.{list_any}
use Rattle.raid_base.specs.declared.names.Item.{Item}
use Rattle.raid_base.specs.declared.entry.Noted.{Noted}
use Rattle.raid_workload.specs.Parts.{placement}
use Rattle.raid_steps.specs.State.{Copying}
use Rattle.raid_faillock.specs.Stands as faillocks
use Rattle.raid_copier.specs.Copiers as ways
use Rattle.raid_record.specs.Turns.{copy_due, Asked}
use Rattle.raid_record.proofs.Renewed.{items_to}
use Rattle.raid_record.proofs.copies.renew_site.Given as goal

-- the copies of the items so far are asked for
abbrev pub invariant-loop-place : goal.invariant-loop-place
invariant-loop-place l =
    (p : List Noted) (before out : List Copying) → faillocks.Stands l.locks l.workload.sites (placement l.workload) p → ways.Stands l.fn.copiers out →
    ((x : Item) → list_any (ways.is_to l.site x) out ≡ list_any (ways.is_to l.site x) before) →
    Asked l.vector l.copiers l.fn.outs l.outs out (filter_map (copy_due l.workload p before l.site) (items_to l.place))
