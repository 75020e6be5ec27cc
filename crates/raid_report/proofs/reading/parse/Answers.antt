use Rattle.raid_report.proofs.Given.{is_read, is_given, is_refusal}
use Rattle.raid_report.proofs.reading.parse.Goals as goal

pub returns-clause-reads : goal.returns-clause-reads
returns-clause-reads c = is_read c.args.workload.now c.args.text.now c.read_lines.result c.requires c.read_lines.ensures

pub returns-clause-only : goal.returns-clause-only
returns-clause-only c = λ r t. is_given c.args.workload.now c.args.text.now r c.read_lines.result c.requires t c.read_lines.ensures

pub returns-clause-refused : goal.returns-clause-refused
returns-clause-refused c = is_refusal c.args.workload.now c.args.text.now c.read_lines.result c.requires c.read_lines.ensures
