use Rattle.raid_force.proofs.Coming.{comes_on}
use Rattle.raid_force.proofs.laws.switches_go_elsewhere.Goals as goal

pub returns-clause-number : goal.returns-clause-number
returns-clause-number c = λ w h k to method l g. (comes_on w h k to method l g).number

pub returns-clause-other : goal.returns-clause-other
returns-clause-other c = λ w h k to method l g. (comes_on w h k to method l g).other

pub returns-clause-fits : goal.returns-clause-fits
returns-clause-fits c = λ w h k to method l g. (comes_on w h k to method l g).method_for
