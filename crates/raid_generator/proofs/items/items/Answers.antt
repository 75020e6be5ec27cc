use Rattle.std.proofs.Common.{◌≡◌, ◌++◌, ◌∷◌, [], ◌+◌, ◌-◌, ◌∙◌, ap, suc, map, List, arith}
use Rattle.raid_workload.specs.Parts.{count_from}
use Rattle.raid_workload.specs.declared.workload.ItemLine.{ItemLine}
use Rattle.raid_generator.specs.Made.{item_line}
use Rattle.raid_generator.proofs.Lines.{lines_start, lines_more}
use Rattle.raid_generator.proofs.items.items.Goals as goal

pub loop-k-init : goal.loop-k-init
loop-k-init c = rw c.new-lines.ensures lines_start

pub loop-k-preserved : goal.loop-k-preserved
loop-k-preserved c =
    let k = c.loop-k.k in
    let less = c.loop-k-test.true in
    let n : 1024 - k ≡ suc (1024 - (k + 1)) = omega (arith, less) in
    rw (c.in_ok-push.ensures.ok, c.in_ok-item.ensures) (lines_more k (1024 - k) (1024 - (k + 1)) c.loop-k.lines n ∙ c.loop-k.invariant)
