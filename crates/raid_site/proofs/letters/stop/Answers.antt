use Rattle.raid_site.proofs.Holders.{few_sites}
use Rattle.raid_site.proofs.letters.stop.Goals as goal

pub stop_row-requires-clause-few : goal.stop_row-requires-clause-few
stop_row-requires-clause-few c = few_sites c.args.workload.now
