use Rattle.raid_scan.specs.Words.{words_of}
use Rattle.raid_text.proofs.Formed.{stop_if_formed}
use Rattle.raid_text.proofs.statements.stop_if_line.Goals as goal

pub push-requires-clause-formed : goal.push-requires-clause-formed
push-requires-clause-formed c = stop_if_formed (words_of c.args.line.now) c.in_ok-statement.statement c.in_ok-statement.ensures
