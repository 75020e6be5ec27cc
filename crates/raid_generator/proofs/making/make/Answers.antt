use Rattle.raid_generator.proofs.Transfers.{workload_kept}
use Rattle.raid_generator.proofs.making.make.Goals as goal

pub invariant_of-result : goal.invariant_of-result
invariant_of-result c = record { kept = workload_kept c.args.seed c.args.count c.in_ok-items.items c.in_ok-switches.switches c.new.result c.in_ok-programs.programs c.requires.few c.in_ok-items.ensures c.in_ok-switches.ensures c.new.ensures c.in_ok-programs.ensures }
