-- Sources and sinks in memory, which move a piece at a time and fail in the calls that they are told.
use Rattle.std.specs.Prelude.{◌≡◌, ℕ, ◌+◌, ◌-◌, ◌^◌, ◌==◌, nat_lt, min, Bool, true, false, ◌||◌, List, length, take, drop, ◌++◌, Result, Ok, Err, if◌then◌else◌}
use Rattle.std.specs.List.{list_any}
use Rattle.raid_io.specs.declared.failed.Failed.{Failed}

-- the number after a count that stays at its last value
abbrev pub next_of : ℕ → ℕ → ℕ
next_of most count = min (count + 1) most

-- a call with this number fails
abbrev pub is_failing : List ℕ → ℕ → Bool
is_failing failing call = list_any (λ k. k == call) failing

-- a source in memory: what is left, the most bytes of a call, the calls that fail, and how many calls and faults there were
pub record Feed : Type 0 where
  pub left : List ℕ
  pub piece : ℕ
  pub failing : List ℕ
  pub calls : ℕ
  pub faults : ℕ

-- the number of the next call
abbrev pub next_call : ℕ → ℕ
next_call calls = next_of (2 ^ 32 - 1) calls

-- how many bytes a call moves
abbrev pub moved : ℕ → ℕ → ℕ → ℕ
moved piece room left = min (min piece room) left

-- the source after a call that fails, and after one that does not
abbrev pub failed_feed : Feed → Feed
failed_feed s = record s { calls = next_call s.calls; faults = next_of (2 ^ 64 - 1) s.faults }

abbrev pub read_feed : Feed → ℕ → Feed
read_feed s room = record s { calls = next_call s.calls; left = drop (moved s.piece room (length s.left)) s.left }

-- a call of a source in memory: it fails just in the calls that it is told
abbrev pub ReadsFrom : Feed → ℕ → Feed → Result ℕ Failed → Type 0
ReadsFrom s room after (Ok n) = (is_failing s.failing (next_call s.calls) ≡ false) × (n ≡ moved s.piece room (length s.left)) × (after ≡ read_feed s room)
ReadsFrom s room after (Err e) = (is_failing s.failing (next_call s.calls) ≡ true) × (after ≡ failed_feed s)

-- a sink in memory: what it holds, how much it can, the most bytes of a call, the calls that fail, and how many calls and faults there were
pub record Store : Type 0 where
  pub held : List ℕ
  pub room : ℕ
  pub piece : ℕ
  pub failing : List ℕ
  pub calls : ℕ
  pub faults : ℕ

-- the sink after a call that fails, and after one that does not
abbrev pub failed_store : Store → Store
failed_store s = record s { calls = next_call s.calls; faults = next_of (2 ^ 64 - 1) s.faults }

abbrev pub written_store : Store → List ℕ → Store
written_store s bytes = record s { calls = next_call s.calls; held = s.held ++ take (moved s.piece (s.room - length s.held) (length bytes)) bytes }

-- the next call fails: it is told to, or the sink is full
abbrev pub is_refusing : Store → Bool
is_refusing s = is_failing s.failing (next_call s.calls) || s.room - length s.held == 0

-- a call of a sink in memory
abbrev pub WritesTo : Store → List ℕ → Store → Result ℕ Failed → Type 0
WritesTo s bytes after (Ok n) = (is_refusing s ≡ false) × (n ≡ moved s.piece (s.room - length s.held) (length bytes)) × (after ≡ written_store s bytes)
WritesTo s bytes after (Err e) = (is_refusing s ≡ true) × (after ≡ failed_store s)
