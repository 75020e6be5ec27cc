use Rattle.raid_serial.proofs.Joint.{tied_by_begin, end_due_by_begins}
use Rattle.raid_serial.proofs.old_transactions_alone_hold_up_the_end.Goals as goal

pub returns-clause-tied : goal.returns-clause-tied
returns-clause-tied c = tied_by_begin

pub returns-clause-due : goal.returns-clause-due
returns-clause-due c = end_due_by_begins
