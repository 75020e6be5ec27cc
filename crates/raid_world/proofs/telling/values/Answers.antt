use Rattle.std.proofs.Common.{◌≡◌, ◌<◌, ◌+◌, ◌-◌, pos, unwrap_or, vec_len, arith, ap, sym, ◌∙◌}
use Rattle.std.specs.Prelude.{slice_get, slice_index_or}
use Rattle.raid_base.specs.Find.{first_of}
use Rattle.raid_rules.specs.Entries.{writes_of}
use Rattle.raid_world.proofs.Told.{value_more}
use Rattle.raid_world.proofs.telling.values.Goals as goal

pub loop-k-preserved : goal.loop-k-preserved
loop-k-preserved c =
    let h = c.args.history.now in
    let back : c.loop-k.k + 1 - 1 ≡ c.loop-k.k = omega arith in
    let at = ap (λ n. slice_get h n) (sym back) ∙ c.entry.ensures in
    record {
      long = c.put_all.ensures.long ∙ c.loop-k.invariant.long;
      are = λ x below.
          let within : x.0 < vec_len c.loop-k.values = omega (arith, below, c.loop-k.invariant.long) in
          c.put_all.ensures.are x within
          ∙ ap (λ ws. unwrap_or (first_of x ws) (slice_index_or c.loop-k.values.items x.0 (pos 0))) c.writes_of.ensures
          ∙ ap (λ v. unwrap_or (first_of x (writes_of c.entry.result.now)) v) (c.loop-k.invariant.are x below)
          ∙ sym (value_more c.args.workload.now h c.loop-k.k c.entry.result.now x at);
    }
