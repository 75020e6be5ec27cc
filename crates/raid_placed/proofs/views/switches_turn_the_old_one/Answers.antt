use Rattle.raid_placed.proofs.Converted.{forced_in_order, forced_alone, forced_turned}
use Rattle.raid_placed.proofs.views.switches_turn_the_old_one.Goals as goal

pub returns-clause-in_order : goal.returns-clause-in_order
returns-clause-in_order c = forced_in_order

pub returns-clause-alone : goal.returns-clause-alone
returns-clause-alone c = forced_alone

pub returns-clause-after : goal.returns-clause-after
returns-clause-after c = forced_turned
