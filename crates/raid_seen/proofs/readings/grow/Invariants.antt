use Rattle.std.proofs.Common.{◌≡◌, ◌+◌, ◌-◌, vec_len}
use Rattle.raid_base.specs.declared.names.Txn.{Txn}
use Rattle.raid_seen.specs.Tables.{answers_of, latest_of}
use Rattle.raid_seen.proofs.readings.grow.Given as goal

-- the rows say what they said
abbrev pub invariant-loop-alloc : goal.invariant-loop-alloc
invariant-loop-alloc l = record {
  answers : (t : Txn) → answers_of l.rows.items t ≡ answers_of l.fn.rows.items t;
  latest : (t : Txn) → latest_of l.rows.items t ≡ latest_of l.fn.rows.items t;
}

abbrev pub decreases-loop-alloc : goal.decreases-loop-alloc
decreases-loop-alloc l = l.place + 1 - vec_len l.rows
