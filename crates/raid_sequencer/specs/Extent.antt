-- How much longer the history can become without another letter.
use Rattle.std.specs.Prelude.{ℕ, ◌+◌, ◌*◌, ◌-◌, not, List, filter, length, if◌then◌else◌}
use Rattle.raid_base.specs.declared.entry.Entry.{Entry}
use Rattle.raid_base.specs.declared.entry.Noted.{Noted}
use Rattle.raid_workload.specs.declared.workload.Workload.{Workload}
use Rattle.raid_workload.specs.Parts.{txns}
use Rattle.raid_rules.specs.History.{noted, has_ended}
use Rattle.raid_legal.specs.InForce.{in_force, is_joint}

-- how many entries can still come that no letter asks for, at most: an end for each transaction that hasn't ended, two entries for each
-- switch to come, one for the switch that is on
abbrev pub unasked : Workload → List Noted → ℕ
unasked w p = length (filter (λ t. not (has_ended p t)) (txns w)) + (2 * (length w.switches - (in_force w p).switches) + (if is_joint (in_force w p) then 1 else 0))

-- the length that the history can come to without another letter, at most
abbrev pub extent : Workload → List Entry → ℕ
extent w h = length h + unasked w (noted h)
