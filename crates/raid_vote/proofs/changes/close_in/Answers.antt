use Rattle.std.proofs.Common.{not, rules}
use Rattle.std.proofs.lemmas.Fn.{filter_same}
use Rattle.raid_vote.specs.Ballots as words
use Rattle.raid_vote.proofs.changes.close_in.Goals as goal

pub returns-clause-is : goal.returns-clause-is
returns-clause-is c = filter_same _ (λ b. not (words.is_of c.args.txn b)) _ (λ x b f' k. search rules) _ _ c.retain.ensures.filtered
