use Rattle.std.proofs.Common.{◌≡◌, ◌++◌, true, map, take}
use Rattle.raid_rules.proofs.conflict.push_writes.Given as goal

-- the writes of the pairs so far are added
abbrev pub invariant-loop-item : goal.invariant-loop-item
invariant-loop-item l = l.actions ≡ l.initial.actions ++ map (λ p. record { at = l.at; by = l.by; item = p.0; writes = true }) (take l.item-index l.writes)
