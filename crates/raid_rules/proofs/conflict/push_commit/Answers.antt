use Rattle.std.proofs.Common.{append-nil, not, ap, sym, ◌∙◌, rules}
use Rattle.raid_rules.specs.History.{has_aborted}
use Rattle.raid_rules.proofs.Acts.{writes_kept, writes_left}
use Rattle.raid_rules.proofs.conflict.push_commit.Goals as goal

pub returns-then-has_aborted : goal.returns-then-has_aborted
returns-then-has_aborted c = rw (writes_left (λ t. not (has_aborted c.args.view.now t)) c.args.at c.args.by c.args.writes.now (search rules)) (sym (append-nil _))

pub returns-else-has_aborted : goal.returns-else-has_aborted
returns-else-has_aborted c = rw (writes_kept (λ t. not (has_aborted c.args.view.now t)) c.args.at c.args.by c.args.writes.now (search rules)) c.push_writes.ensures
