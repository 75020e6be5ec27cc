use Rattle.std.proofs.Common.{not, ◌==◌, length, slice_index_or, [], rules}
use Rattle.std.proofs.lemmas.Fn.{filter_same}
use Rattle.raid_faillock.proofs.debts.forget.Goals as goal

pub returns : goal.returns
returns c = filter_same _ (λ t. not (length (slice_index_or c.args.owed.now t.0 []) == 0)) _ (λ x b f' k. search rules) _ _ c.retain.ensures.filtered
