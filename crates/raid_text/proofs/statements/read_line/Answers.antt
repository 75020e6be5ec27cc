use Rattle.raid_scan.specs.Words.{words_of}
use Rattle.raid_text.proofs.Formed.{read_formed}
use Rattle.raid_text.proofs.statements.read_line.Goals as goal

pub push-requires-clause-formed : goal.push-requires-clause-formed
push-requires-clause-formed c = read_formed c.args.names.now (words_of c.args.line.now) c.in_ok-statement.statement c.in_ok-statement.ensures
