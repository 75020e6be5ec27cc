use Rattle.std.proofs.Common.{◌≡◌, ◌+◌, ◌-◌, vec_len}
use Rattle.raid_base.specs.declared.names.Site.{Site}
use Rattle.raid_seen.specs.Tables.{outage_of}
use Rattle.raid_seen.proofs.outages.grow.Given as goal

-- the rows say what they said
abbrev pub invariant-loop-rows : goal.invariant-loop-rows
invariant-loop-rows l = (s : Site) → outage_of l.rows.items s ≡ outage_of l.fn.rows.items s

abbrev pub decreases-loop-rows : goal.decreases-loop-rows
decreases-loop-rows l = l.place + 1 - vec_len l.rows
