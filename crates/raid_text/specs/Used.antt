-- Which lines may come where.
use Rattle.std.specs.Prelude.{ℕ, Bool, true, false, ◌==◌, if◌then◌else◌, List, [], ◌∷◌, Result, Ok, Err, codes, bytes_eq}
use Rattle.raid_scan.specs.Words.{Word}
use Rattle.raid_tokens.specs.declared.fault.Fault.{Fault}
use Rattle.raid_tokens.specs.declared.fault.Fault.TheVariants as faults
use Rattle.raid_text.specs.declared.state.State.{State}
use Rattle.raid_text.specs.declared.state.Place.{Place}
use Rattle.raid_text.specs.declared.state.Place.TheVariants as places
use Rattle.raid_text.specs.Head.{version_line, sites_line, restarts_line, item_line, open_line}
use Rattle.raid_text.specs.Body.{switch_line, event_line, program_line, done_line, end_line}
use Rattle.raid_text.specs.Names.{names_of}
use Rattle.raid_text.specs.Statements.{statement_line, read_at, write_at, stop_if_at}

abbrev pub begins : Word → List ℕ → Bool
begins word first = bytes_eq word first

-- a line that is used, at each place by its first word
unfoldable pub used_line : Place → State → Word → List Word → Result State Fault
used_line places.Start s word words = version_line s word words
used_line places.Sites s word words = if begins word (codes "sites") then sites_line s words else Err faults.Word
used_line places.Restarts s word words = if begins word (codes "restarts") then restarts_line s words else Err faults.Word
used_line places.Items s word words =
    if begins word (codes "item") then item_line s words else
    (if begins word (codes "open") then open_line s words else Err faults.Word)
used_line places.Body s word words =
    if begins word (codes "switch") then switch_line s words else
    (if begins word (codes "stop") then event_line s true words else
    (if begins word (codes "return") then event_line s false words else
    (if begins word (codes "program") then program_line s words else
    (if begins word (codes "done") then done_line s words else Err faults.Word))))
used_line places.Program s word words =
    if begins word (codes "read") then statement_line s (read_at (names_of s.items) words) else
    (if begins word (codes "write") then statement_line s (write_at (names_of s.items) words) else
    (if begins word (codes "stop") then statement_line s (stop_if_at words) else
    (if begins word (codes "end") then end_line s words else Err faults.Word)))
used_line places.Over s word words = Err faults.Word

abbrev pub is_comment : Word → Bool
is_comment [] = false
is_comment (b ∷ bytes) = b == 0x23

-- a line without words, or whose first word begins with `#`, is skipped
unfoldable pub line_after : State → List Word → Result State Fault
line_after s [] = Ok s
line_after s (word ∷ words) = if is_comment word then Ok s else used_line s.place s word words
