use Rattle.raid_text.proofs.Whole.{print_reads}
use Rattle.raid_text.proofs.laws.print_reads.Goals as goal

pub returns : goal.returns
returns c = print_reads
