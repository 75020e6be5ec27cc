-- What is said of a whole text read.
use Rattle.std.specs.Prelude.{Result, Ok, Err, ⊤}
use Rattle.raid_io.specs.declared.whole.ReadError.{ReadError}
use Rattle.raid_io.specs.declared.whole.ReadError.TheVariants.{NoMemory, Failed}

-- the fact holds where the source failed
abbrev pub OnFailed : {T : Type 0} → Result T ReadError → Type 0 → Type 0
OnFailed (Ok v) P = ⊤
OnFailed (Err NoMemory) P = ⊤
OnFailed (Err Failed) P = P
