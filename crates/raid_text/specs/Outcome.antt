-- What a text says, or its first fault.
use Rattle.std.specs.Prelude.{◌≡◌, ℕ, ◌+◌, List, [], ◌∷◌, Result, Ok, Err}
use Rattle.raid_scan.specs.Words.{Word, words_by_line}
use Rattle.raid_tokens.specs.declared.fault.Fault.{Fault}
use Rattle.raid_tokens.specs.declared.fault.Fault.TheVariants as faults
use Rattle.raid_tokens.specs.Reading.{◌>>=◌}
use Rattle.raid_workload.specs.declared.workload.Workload.{Workload}
use Rattle.raid_text.specs.declared.error.LineError.{LineError}
use Rattle.raid_text.specs.declared.error.LineError.TheVariants as line_errors
use Rattle.raid_text.specs.declared.error.Refused.{Refused}
use Rattle.raid_text.specs.declared.error.Refused.TheVariants as refusals
use Rattle.raid_text.specs.declared.state.State.{State}
use Rattle.raid_text.specs.declared.state.Place.{Place}
use Rattle.raid_text.specs.declared.state.Place.TheVariants as places
use Rattle.raid_text.specs.Said.{Said, said, said_by, opening}
use Rattle.raid_text.specs.Used.{line_after}

-- a line and its fault
abbrev pub Refusal : Type 0
Refusal = ℕ × Fault

abbrev pub at_line : {A : Type 0} → ℕ → Result A Fault → Result A Refusal
at_line number (Ok x) = Ok x
at_line number (Err f) = Err (number, f)

abbrev pub ended_at : Place → ℕ → State → Result Said Refusal
ended_at places.Over number s = Ok (said_by s)
ended_at places.Start number s = Err (number, faults.End)
ended_at places.Sites number s = Err (number, faults.End)
ended_at places.Restarts number s = Err (number, faults.End)
ended_at places.Items number s = Err (number, faults.End)
ended_at places.Body number s = Err (number, faults.End)
ended_at places.Program number s = Err (number, faults.End)

-- a text that ends before `done` is at fault one past its last line
unfoldable pub ended : ℕ → State → Result Said Refusal
ended number s = ended_at s.place number s

-- what lines say from a state on, the first of them having this number
unfoldable pub outcome_from : ℕ → State → List (List Word) → Result Said Refusal
outcome_from number s [] = ended number s
outcome_from number s (words ∷ lines) = do
  next ← at_line number (line_after s words)
  outcome_from (number + 1) next lines

unfoldable pub outcome_of : List ℕ → Result Said Refusal
outcome_of text = outcome_from 1 opening (words_by_line text)

-- the text says this workload
abbrev pub Reads : List ℕ → Workload → Type 0
Reads text w = outcome_of text ≡ Ok (said w)

-- the text says nothing, and this is its first fault
abbrev pub IsFirstFault : List ℕ → ℕ → Fault → Type 0
IsFirstFault text line fault = outcome_of text ≡ Err (line, fault)

-- ---- what functions gave

-- what a function gave, seen by view, is what reading gives; or memory was refused
abbrev pub Gives : {X Y : Type 0} → (X → Y) → Result X LineError → Result Y Fault → Type 0
Gives view (Ok x) read = read ≡ Ok (view x)
Gives view (Err line_errors.NoMemory) read = Unit {0}
Gives view (Err (line_errors.Fault f)) read = read ≡ Err f

abbrev pub Answers : Result Workload Refused → Result Said Refusal → Type 0
Answers (Ok w) outcome = outcome ≡ Ok (said w)
Answers (Err refusals.NoMemory) outcome = Unit {0}
Answers (Err (refusals.Text line fault)) outcome = outcome ≡ Err (line, fault)

abbrev pub refusal_of : ℕ → LineError → Refused
refusal_of number line_errors.NoMemory = refusals.NoMemory
refusal_of number (line_errors.Fault f) = refusals.Text number f

-- this workload was given, or memory was refused
abbrev pub IsGiven : Workload → Result Workload Refused → Type 0
IsGiven w (Ok v) = v ≡ w
IsGiven w (Err refusals.NoMemory) = Unit {0}
IsGiven w (Err (refusals.Text line fault)) = ⊥

-- a refusal of the text names its first fault
abbrev pub IsFirst : List ℕ → Refused → Type 0
IsFirst text refusals.NoMemory = Unit {0}
IsFirst text (refusals.Text line fault) = IsFirstFault text line fault
