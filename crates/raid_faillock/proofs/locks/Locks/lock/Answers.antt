use Rattle.std.proofs.Common.{ap, ◌∙◌, ◌<◌, subst, sym, List}
use Rattle.raid_base.specs.declared.names.Site.{Site}
use Rattle.raid_faillock.specs.Sets.{has_at}
use Rattle.raid_faillock.proofs.Cells.{locked}
use Rattle.raid_faillock.proofs.locks.Locks.lock.Goals as goal

pub returns-then-contains-clause-sets : goal.returns-then-contains-clause-sets
returns-then-contains-clause-sets c = λ x s least most.
    ap (λ (table : List (List Site)). has_at table x.0 s) c.put.ensures
    ∙ locked c.args.holders.now c.args.self.now c.args.item c.args.site c.with.result c.get.result c.index-holders-place.result c.index-holders-place.result
    (subst (λ n. c.args.item.0 < n) c.requires.size c.if-place-holders.true) c.if-place-holders.true c.index-holders-place.is (sym c.contains.ensures ∙ c.if-contains.true) c.get.ensures c.with.ensures x s least most
