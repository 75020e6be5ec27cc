use Rattle.std.proofs.Common.{◌≡◌, ◌<◌, length, take, pos, vec_len}
use Rattle.std.specs.Prelude.{slice_index_or}
use Rattle.raid_base.specs.declared.names.Item.{Item}
use Rattle.raid_rules.specs.History.{noted}
use Rattle.raid_legal.specs.Seen.{value_of}
use Rattle.raid_world.proofs.telling.values.Given as goal

-- the values are those after the entries so far
abbrev pub invariant-loop-k : goal.invariant-loop-k
invariant-loop-k l = record {
  long : vec_len l.values ≡ length l.workload.items;
  are : (x : Item) → x.0 < length l.workload.items → slice_index_or l.values.items x.0 (pos 0) ≡ value_of l.workload (noted (take l.k l.history)) x;
}
