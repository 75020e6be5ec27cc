-- The words that terms are written as.
use Rattle.std.specs.Prelude.{ℕ, ◌∷◌}
use Rattle.std.specs.Fmt.{decimal, signed_decimal}
use Rattle.raid_scan.specs.Words.{Word}
use Rattle.raid_program.specs.declared.program.Term.{Term}
use Rattle.raid_program.specs.declared.program.Term.TheVariants.{Reg, Value}

abbrev pub register_word : ℕ → Word
register_word r = 0x72 ∷ decimal r

abbrev pub term_word : Term → Word
term_word (Reg r) = register_word r
term_word (Value z) = signed_decimal z
