use Rattle.raid_report.proofs.Refusals.{print_apart}
use Rattle.raid_report.proofs.laws.print_tells_apart.Goals as goal

pub returns : goal.returns
returns c = print_apart
