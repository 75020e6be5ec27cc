use Rattle.raid_known.proofs.Copies.{finals_told}
use Rattle.raid_known.proofs.reports_tell_all_finals.Goals as goal

pub returns : goal.returns
returns c = finals_told
