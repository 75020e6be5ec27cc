-- The summary of a report.
use Rattle.std.specs.Prelude.{ℕ, ℤ, pos, ◌+ℤ◌, Bool, true, false, List, [], ◌∷◌, ◌++◌, length, fold, count_by, codes}
use Rattle.std.specs.Fmt.{decimal, signed_decimal}
use Rattle.raid_base.specs.declared.names.Item.{Item}
use Rattle.raid_base.specs.declared.entry.Entry.{Entry}
use Rattle.raid_base.specs.declared.entry.Entry.TheVariants.{Begin, Read, Wait, Commit, Abort, Ack, SwitchOn, SwitchEnd, Down, Up, Clear}
use Rattle.raid_base.specs.declared.report.Report.{Report}
use Rattle.raid_workload.specs.declared.workload.Workload.{Workload}
use Rattle.raid_report.specs.Spelling.{Word, line_text}

-- the entry ends its transaction
abbrev pub is_end : Entry → Bool
is_end (Begin t s) = false
is_end (Read t x s) = false
is_end (Wait t r) = false
is_end (Commit t r applied) = true
is_end (Abort t cause act) = true
is_end (Ack t s) = false
is_end (SwitchOn k kind method) = false
is_end (SwitchEnd k) = false
is_end (Down s) = false
is_end (Up s session) = false
is_end (Clear s x version) = false

-- how many transactions have ended
abbrev pub ends : List Entry → ℕ
ends entries = count_by is_end entries

-- the sum of the values
abbrev pub total : List (Item × ℤ) → ℤ
total pairs = fold (λ sum p. sum +ℤ p.1) (pos 0) pairs

abbrev pub counts_words : ℕ → ℕ → List Word
counts_words programs ended = decimal programs ∷ codes "ended" ∷ decimal ended ∷ []

abbrev pub total_words : ℤ → List Word
total_words sum = codes "total" ∷ signed_decimal sum ∷ []

-- so many transactions, so many of them ended, and a sum
abbrev pub summary_words : ℕ → ℕ → ℤ → List Word
summary_words programs ended sum = codes "transactions" ∷ (counts_words programs ended ++ total_words sum)

-- the workload's programs, the transactions that ended, and the sum of the final values
abbrev pub brief_of : Workload → Report → List ℕ
brief_of w r = line_text (summary_words (length w.programs) (ends r.entries) (total r.finals))
