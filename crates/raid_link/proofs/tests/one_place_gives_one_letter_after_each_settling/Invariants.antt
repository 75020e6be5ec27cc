use Rattle.raid_link.specs.Link.{IsLink}
use Rattle.raid_link.proofs.tests.one_place_gives_one_letter_after_each_settling.Given as goal

-- the two are still the ends of the link
abbrev pub invariant-loop-clock : goal.invariant-loop-clock
invariant-loop-clock g l = IsLink l.sender l.receiver

abbrev pub invariant-loop-clock-2 : goal.invariant-loop-clock-2
invariant-loop-clock-2 g l = IsLink l.sender l.receiver
