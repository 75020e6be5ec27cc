use Rattle.std.proofs.Common.{◌≡◌, ◌<◌, drop, pos, unwrap_or, vec_len}
use Rattle.std.specs.Prelude.{slice_index_or}
use Rattle.raid_base.specs.declared.names.Item.{Item}
use Rattle.raid_base.specs.Find.{first_of}
use Rattle.raid_world.proofs.telling.put_all.Given as goal

-- the pairs from the place on were put
abbrev pub invariant-loop-k : goal.invariant-loop-k
invariant-loop-k l = record {
  long : vec_len l.values ≡ vec_len l.fn.values;
  are : (x : Item) → x.0 < vec_len l.fn.values → slice_index_or l.values.items x.0 (pos 0) ≡ unwrap_or (first_of x (drop l.k l.pairs)) (slice_index_or l.fn.values.items x.0 (pos 0));
}
