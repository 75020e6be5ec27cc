use Rattle.std.proofs.Common.{arith}
use Rattle.std.proofs.lemmas.Grind.{common_steps}
use Rattle.raid_decide.proofs.Rules as rules
use Rattle.raid_decide.proofs.homes.is_known.Goals as goal

pub returns-then-txn-ge1 : goal.returns-then-txn-ge1
returns-then-txn-ge1 c = grind (arith, common_steps, rules.is_known c.args.workload.now c.args.txn, c.len.ensures)

pub returns-else-txn-ge1 : goal.returns-else-txn-ge1
returns-else-txn-ge1 c = grind (arith, common_steps, rules.is_known c.args.workload.now c.args.txn)
