use Rattle.raid_conflict.proofs.Extend.{may_extend, follows_extends}
use Rattle.raid_conflict.proofs.laws.entries_extend.Goals as goal

pub returns-clause-noted : goal.returns-clause-noted
returns-clause-noted c = may_extend

pub returns-clause-follows : goal.returns-clause-follows
returns-clause-follows c = follows_extends
