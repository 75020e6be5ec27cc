use Rattle.std.proofs.Common.{◌≡◌, ◌<◌, ◌≤◌, length}
use Rattle.raid_causes.specs.Histories.{History}
use Rattle.raid_nodes.specs.Nodes.{Goes}
use Rattle.raid_nodes.specs.Turns.{Took, SameKnown, NoneKnown}
use Rattle.raid_nodes.proofs.turning.ServerNodeNode.turn.Given as goal

-- so many letters were taken; while it is none, each look was in vain, and after the first none was known at the start
abbrev pub invariant-loop-look : goal.invariant-loop-look
invariant-loop-look g l =
    record {
      letters : History;
      so_many : l.taken ≡ length letters;
      took : Took l.plan l.initial.self letters l.self;
      small : l.taken ≤ l.most;
      patient : l.vain ≤ 100000;
      all_vain : l.taken ≡ 0 → l.vain ≡ l._look;
      none : l.taken ≡ 0 → 0 < l.vain → NoneKnown l.initial.self 0 (length l.initial.self.inputs.items);
      at_first : l.taken ≡ 0 → SameKnown l.initial.self l.self;
      goes : Goes (λ v. (g.dyn-1.0.entry v).1) l.plan l.self;
    }
