use Rattle.raid_scan.specs.Words.{words_of}
use Rattle.raid_text.proofs.Formed.{write_formed}
use Rattle.raid_text.proofs.statements.write_line.Goals as goal

pub push-requires-clause-formed : goal.push-requires-clause-formed
push-requires-clause-formed c = write_formed c.args.names.now (words_of c.args.line.now) c.in_ok-statement.statement c.in_ok-statement.ensures
