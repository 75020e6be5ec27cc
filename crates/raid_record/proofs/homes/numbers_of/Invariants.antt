use Rattle.std.proofs.Common.{◌≡◌, ◌<◌, ◌≤◌, ◌-◌, length, slice_index}
use Rattle.raid_base.specs.declared.names.Site.{Site}
use Rattle.raid_rules.specs.History.{noted}
use Rattle.raid_steps.specs.Sequencer.{next_number}
use Rattle.raid_record.proofs.homes.numbers_of.Given as goal

-- the sites so far have their numbers
abbrev pub invariant-loop-number : goal.invariant-loop-number
invariant-loop-number l = record {
  least : 1 ≤ l.number;
  size : length l.numbers.items ≡ l.number - 1;
  next : (s : Site) → 1 ≤ s.0 → s.0 < l.number → slice_index l.numbers.items (s.0 - 1) ≡ next_number l.workload (noted l.history) s;
}
