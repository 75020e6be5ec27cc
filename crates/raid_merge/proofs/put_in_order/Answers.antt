use Rattle.std.proofs.Common.{rules}
use Rattle.std.proofs.lemmas.List.Sorted.{answers_always, IsNonDecreasingBy-from_sort}
use Rattle.raid_merge.specs.Gathered.{key}
use Rattle.raid_merge.proofs.put_in_order.Goals as goal

pub returns-clause-ordered : goal.returns-clause-ordered
returns-clause-ordered c = IsNonDecreasingBy-from_sort key _ (c.sort_unstable_by_key.ensures.sorted key (answers_always _ _ _ (λ f a r g h. search rules)))
