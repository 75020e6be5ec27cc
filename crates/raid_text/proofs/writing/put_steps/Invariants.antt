use Rattle.std.proofs.Common.{◌≡◌, ◌++◌, drop}
use Rattle.raid_text.specs.Spelling.{spaced, steps_words}
use Rattle.raid_text.proofs.writing.put_steps.Given as goal

abbrev pub invariant-loop-step : goal.invariant-loop-step
invariant-loop-step l = l.out ++ spaced (steps_words (drop l.step-index l.steps)) ≡ l.initial.out ++ spaced (steps_words l.steps)
