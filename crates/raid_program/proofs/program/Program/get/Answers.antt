use Rattle.std.proofs.Common.{arith}
use Rattle.std.proofs.lemmas.Grind.{common_steps}
use Rattle.raid_program.specs.Form.{is_formed}
use Rattle.raid_program.proofs.Lists.{all_at}
use Rattle.raid_program.proofs.program.Program.get.Goals as goal

pub returns-clause-formed : goal.returns-clause-formed
returns-clause-formed c = grind (arith, common_steps, all_at is_formed c.self.inside.held c.args.k c.get.result.now, c.self.invariant, c.get.ensures)
