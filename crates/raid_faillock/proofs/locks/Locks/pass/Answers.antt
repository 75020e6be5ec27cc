use Rattle.std.proofs.Common.{ap, ◌∙◌, ◌<◌, subst, List}
use Rattle.raid_base.specs.declared.names.Site.{Site}
use Rattle.raid_faillock.specs.Sets.{has_at}
use Rattle.raid_faillock.proofs.Cells.{passed}
use Rattle.raid_faillock.proofs.locks.Locks.pass.Goals as goal

pub returns-then-place-holders-clause-sets : goal.returns-then-place-holders-clause-sets
returns-then-place-holders-clause-sets c = λ x s least most.
    ap (λ (table : List (List Site)). has_at table x.0 s) c.put.ensures
    ∙ passed c.args.holders.now c.args.self.now c.args.item c.difference.result c.args.applied c.index-holders-place.result c.index-holders-place.result
    (subst (λ n. c.args.item.0 < n) c.requires c.if-place-holders.true) c.if-place-holders.true c.index-holders-place.is c.difference.ensures x s least most
