-- The statements of a program: what each line says, or its first fault.
use Rattle.std.specs.Prelude.{ℕ, zero, suc, Bool, true, false, ◌&&◌, nat_le, if◌then◌else◌, List, [], ◌∷◌, ◌++◌, length, Option, Some, None, Result, Ok, Err, codes, bytes_eq}
use Rattle.raid_base.specs.declared.names.Item.{Item}
use Rattle.raid_scan.specs.Words.{Word}
use Rattle.raid_tokens.specs.declared.fault.Fault.{Fault}
use Rattle.raid_tokens.specs.declared.fault.Fault.TheVariants as faults
use Rattle.raid_tokens.specs.Reading.{◌>>=◌}
use Rattle.raid_tokens.specs.Words.{word_at, keyword_at, name_at, register_at, term_at, end_at}
use Rattle.raid_program.specs.declared.program.Term.{Term}
use Rattle.raid_program.specs.declared.program.Expr.{Expr}
use Rattle.raid_program.specs.declared.program.Statement.{Statement}
use Rattle.raid_program.specs.declared.program.Statement.TheVariants as statements
use Rattle.raid_text.specs.declared.state.State.{State}
use Rattle.raid_text.specs.Head.{unless}
use Rattle.raid_text.specs.Names.{place_of}

abbrev pub item : ℕ → Item
item k = record { 0 = k }

abbrev pub known : Option ℕ → List Word → Result (Item × List Word) Fault
known None words = Err faults.Item
known (Some k) words = Ok (item k, words)

unfoldable pub item_at : List Word → List Word → Result (Item × List Word) Fault
item_at names words = do
  name ← name_at words
  known (place_of names name.0) name.1

-- an expression ends with the line, or, where it is compared, before the word `<`
unfoldable pub ends : Bool → List Word → Bool
ends compared [] = true
ends compared (word ∷ words) = compared && bytes_eq word (codes "<")

unfoldable pub sign_at : List Word → Result (Bool × List Word) Fault
sign_at words = do
  word ← word_at words
  if bytes_eq word.0 (codes "+") then Ok (true, word.1) else (if bytes_eq word.0 (codes "-") then Ok (false, word.1) else Err faults.Token)

-- a sign and the term behind it
unfoldable pub step_at : List Word → Result ((Bool × Term) × List Word) Fault
step_at words = do
  sign ← sign_at words
  term ← term_at sign.1
  Ok ((sign.0, term.0), term.1)

-- the further terms, of which there is room for so many more
unfoldable pub steps_at : Bool → List (Bool × Term) → ℕ → List Word → Result (List (Bool × Term) × List Word) Fault
steps_at compared steps zero words = if ends compared words then Ok (steps, words) else Err faults.Token
steps_at compared steps (suc room) words =
    if ends compared words then Ok (steps, words) else (step_at words >>= λ step. steps_at compared (steps ++ step.0 ∷ []) room step.1)

unfoldable pub expr_at : Bool → List Word → Result (Expr × List Word) Fault
expr_at compared words = do
  first ← term_at words
  rest ← steps_at compared [] 7 first.1
  Ok (record { first = first.0; rest = rest.0 }, rest.1)

unfoldable pub read_at : List Word → List Word → Result Statement Fault
read_at names words = do
  item ← item_at names words
  reg ← register_at item.1
  none ← end_at reg.1
  Ok (statements.Read item.0 reg.0)

unfoldable pub write_at : List Word → List Word → Result Statement Fault
write_at names words = do
  item ← item_at names words
  expr ← expr_at false item.1
  none ← end_at expr.1
  Ok (statements.Write item.0 expr.0)

unfoldable pub stop_if_at : List Word → Result Statement Fault
stop_if_at words = do
  test ← keyword_at (codes "if") words
  left ← expr_at true test
  than ← keyword_at (codes "<") left.1
  right ← expr_at false than
  none ← end_at right.1
  Ok (statements.StopIf left.0 right.0)

-- the statement that was read, where the program has room for it
unfoldable pub statement_line : State → Result Statement Fault → Result State Fault
statement_line s read = do
  room ← unless (nat_le 32 (length s.program)) faults.Many
  statement ← read
  Ok (record s { program = s.program ++ statement ∷ [] })
