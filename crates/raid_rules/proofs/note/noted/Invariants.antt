use Rattle.std.proofs.Common.{◌≡◌, take, length}
use Rattle.raid_rules.specs.History as words
use Rattle.raid_rules.proofs.note.noted.Given as goal

-- the entries so far are noted
abbrev pub invariant-loop-entry : goal.invariant-loop-entry
invariant-loop-entry l = record { noted : l.before ≡ words.noted (take l.entry-index l.entries); many : length l.before ≡ l.entry-index }
