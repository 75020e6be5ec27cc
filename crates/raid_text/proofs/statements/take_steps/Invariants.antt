use Rattle.std.proofs.Common.{◌≡◌, ◌-◌, []}
use Rattle.raid_scan.specs.Words.{words_of}
use Rattle.raid_text.specs.Statements.{steps_at}
use Rattle.raid_text.proofs.statements.take_steps.Given as goal

abbrev pub invariant-loop : goal.invariant-loop
invariant-loop l = steps_at l.compared l.steps (7 - l.counter) (words_of l.rest) ≡ steps_at l.compared [] 7 (words_of l.line)
