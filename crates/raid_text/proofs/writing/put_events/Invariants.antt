use Rattle.std.proofs.Common.{◌≡◌, ◌++◌, drop, map}
use Rattle.std.specs.List.{flat_map}
use Rattle.raid_text.specs.Spelling.{line_text, event_words}
use Rattle.raid_text.proofs.writing.put_events.Given as goal

abbrev pub invariant-loop-event : goal.invariant-loop-event
invariant-loop-event l = l.out ++ flat_map line_text (map event_words (drop l.event-index l.events)) ≡ l.initial.out ++ flat_map line_text (map event_words l.events)
