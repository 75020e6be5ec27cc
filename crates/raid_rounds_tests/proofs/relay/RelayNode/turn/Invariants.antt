use Rattle.std.proofs.Common.{◌≡◌, ◌<◌, ◌≤◌, []}
use Rattle.raid_link.specs.Link.{known}
use Rattle.raid_rounds_tests.specs.Ring.{After}
use Rattle.raid_rounds_tests.proofs.relay.RelayNode.turn.Given as goal

-- so many letters were taken; while it is none, each look was in vain, and after the first none was known at the start
abbrev pub invariant-loop-look : goal.invariant-loop-look
invariant-loop-look g l =
    record {
      so_far : After l.initial.self l.taken l.self;
      small : l.taken ≤ l.most;
      patient : l.vain ≤ 1000;
      all_vain : l.taken ≡ 0 → l.vain ≡ l._look;
      none : l.taken ≡ 0 → 0 < l.vain → known l.initial.self.input ≡ [];
      at_first : l.taken ≡ 0 → known l.self.input ≡ known l.initial.self.input;
    }
