use Rattle.std.proofs.Common.{◌≡◌, ◌≤◌, take}
use Rattle.raid_advise.specs.Advice as words
use Rattle.raid_advise.proofs.past.Past.of.Given as goal

-- what the entries so far show
abbrev pub invariant-loop-entry : goal.invariant-loop-entry
invariant-loop-entry l = record {
  ends : l.past.ends ≡ words.ends (take l.entry-index l.entries);
  switches : l.past.switches ≡ words.came_on (take l.entry-index l.entries);
  kind : l.past.kind ≡ words.latest_kind l.fn.opening (take l.entry-index l.entries);
  many : l.past.ends ≤ l.entry-index;
  few : l.past.switches ≤ l.entry-index;
}
