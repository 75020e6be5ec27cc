use Rattle.std.proofs.Common.{◌≡◌, take}
use Rattle.raid_check.specs.Replay.{Stands}
use Rattle.raid_check.proofs.replay.Replay.go.Given as goal

-- the entries so far have been taken
abbrev pub invariant-loop-entry : goal.invariant-loop-entry
invariant-loop-entry g l = record {
  stands : Stands (λ v. (g.dyn-1.0.entry v).1) l.workload l.self;
  taken : l.self.tables.history ≡ take l.entry-index l.entries;
}
