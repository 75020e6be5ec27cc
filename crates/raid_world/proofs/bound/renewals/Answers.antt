use Rattle.std.proofs.Common.{ℕ, ◌*◌, ◌≤◌, arith}
use Rattle.std.proofs.lemmas.Nat.{mul-le}
use Rattle.raid_site.proofs.Holders.{few_sites}
use Rattle.raid_world.proofs.Few.{few_items, few_events}
use Rattle.raid_world.proofs.bound.renewals.Goals as goal

product : (s i e : ℕ) → s ≤ 8 → i ≤ 1024 → e ≤ 64 → 3 * s * i * e ≤ 1572864
product s i e a b c = mul-le (3 * s * i) e 24576 64 (mul-le (3 * s) i 24 1024 (let h : 3 * s ≤ 24 = omega (arith, a) in h) b) c

pub overflow_mul-result : goal.overflow_mul-result
overflow_mul-result c =
    let w = c.args.workload.now in
    let a : c.from.result ≤ 8 = omega (arith, c.from.ensures, few_sites w) in
    let b : c.len.result ≤ 1024 = omega (arith, c.len.ensures, few_items w) in
    let d : c.len-2.result ≤ 64 = omega (arith, c.len-2.ensures, few_events w) in
    let h : 3 * c.from.result * c.len.result * c.len-2.result ≤ 1572864 = product c.from.result c.len.result c.len-2.result a b d in
    omega (arith, h)

pub returns-clause-few : goal.returns-clause-few
returns-clause-few c =
    let w = c.args.workload.now in
    let a : c.from.result ≤ 8 = omega (arith, c.from.ensures, few_sites w) in
    let b : c.len.result ≤ 1024 = omega (arith, c.len.ensures, few_items w) in
    let d : c.len-2.result ≤ 64 = omega (arith, c.len-2.ensures, few_events w) in
    let h : 3 * c.from.result * c.len.result * c.len-2.result ≤ 1572864 = product c.from.result c.len.result c.len-2.result a b d in
    omega (arith, h)
