use Rattle.raid_ready.proofs.Sites.{run_sites}
use Rattle.raid_ready.proofs.sites_are_ready.Goals as goal

pub returns : goal.returns
returns c = run_sites
