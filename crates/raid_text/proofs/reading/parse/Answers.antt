use Rattle.raid_text.proofs.Given.{is_read, is_given, is_first}
use Rattle.raid_text.proofs.reading.parse.Goals as goal

pub returns-clause-reads : goal.returns-clause-reads
returns-clause-reads c = is_read c.args.text.now c.read_lines.result c.read_lines.ensures

pub returns-clause-only : goal.returns-clause-only
returns-clause-only c = λ w e. is_given c.args.text.now w c.read_lines.result e c.read_lines.ensures

pub returns-clause-first : goal.returns-clause-first
returns-clause-first c = is_first c.args.text.now c.read_lines.result c.read_lines.ensures
