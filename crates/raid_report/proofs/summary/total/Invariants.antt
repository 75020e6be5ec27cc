use Rattle.std.proofs.Common.{◌≡◌, ◌*◌, ◌≤ℤ◌, ◌+ℤ◌, pos, neg_ℤ, drop, fold}
use Rattle.raid_report.specs.Brief.{total}
use Rattle.raid_report.proofs.summary.total.Given as goal

abbrev pub invariant-loop-pair : goal.invariant-loop-pair
invariant-loop-pair l = record {
  least : neg_ℤ (pos (9223372036854775808 * l.pair-index)) ≤ℤ l.total;
  most : l.total ≤ℤ pos (9223372036854775808 * l.pair-index);
  summed : fold (λ sum p. sum +ℤ p.1) l.total (drop l.pair-index l.finals) ≡ total l.finals;
}
