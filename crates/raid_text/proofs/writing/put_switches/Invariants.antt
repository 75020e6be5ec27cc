use Rattle.std.proofs.Common.{◌≡◌, ◌++◌, drop, map}
use Rattle.std.specs.List.{flat_map}
use Rattle.raid_text.specs.Spelling.{line_text, switch_words}
use Rattle.raid_text.proofs.writing.put_switches.Given as goal

abbrev pub invariant-loop-switch : goal.invariant-loop-switch
invariant-loop-switch l = l.out ++ flat_map line_text (map switch_words (drop l.switch-index l.switches)) ≡ l.initial.out ++ flat_map line_text (map switch_words l.switches)
