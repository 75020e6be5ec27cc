use Rattle.std.proofs.Common.{◌≡◌, ◌<◌, subst, ◌∙◌, get_or, length, List}
use Rattle.raid_base.specs.declared.names.Site.{Site}
use Rattle.raid_faillock.proofs.Cells.{more_found}
use Rattle.raid_faillock.proofs.locks.Locks.anywhere.Goals as goal

pub loop-set-preserved : goal.loop-set-preserved
loop-set-preserved c = λ s least most.
    let i = c.loop-set.set-index in
    let same = c.as_slice-set-items.ensures.value ∙ c.self.view_is in
    more_found c.args.self.now i c.loop-set.found c.set-item.result c.union-found.result s least most (subst (λ (sets : List (List Site)). i < length sets) same c.loop-set-test.true)
    (subst (λ (sets : List (List Site)). c.set-item.result ≡ get_or sets i c.set-item.result) same c.set-item.is)
    c.union-found.ensures (c.loop-set.invariant s least most)
