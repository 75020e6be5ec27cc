use Rattle.raid_advise.proofs.Fits.{advised_fits}
use Rattle.raid_advise.proofs.Kept.{added_reads}
use Rattle.raid_advise.proofs.laws.advised_switches_may_be_added.Goals as goal

pub returns-clause-added : goal.returns-clause-added
returns-clause-added c = advised_fits

pub returns-clause-read : goal.returns-clause-read
returns-clause-read c = λ w h last s l q. added_reads c.print_reads.ensures w s (advised_fits w h last s l q)
