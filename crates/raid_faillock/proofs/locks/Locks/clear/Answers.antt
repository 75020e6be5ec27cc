use Rattle.std.proofs.Common.{rules, ap, ◌∙◌, List}
use Rattle.raid_base.specs.declared.names.Site.{Site}
use Rattle.raid_faillock.specs.Sets.{has_at}
use Rattle.raid_faillock.proofs.Cells.{taken}
use Rattle.raid_faillock.proofs.locks.Locks.clear.Goals as goal

pub returns-then-place-len-clause-sets : goal.returns-then-place-len-clause-sets
returns-then-place-len-clause-sets c = λ x s least most.
    ap (λ (table : List (List Site)). has_at table x.0 s) c.put.ensures
    ∙ taken c.args.self.now c.args.item.0 c.args.site c.without.result c.get.result (search rules) c.get.ensures c.without.ensures x.0 s
