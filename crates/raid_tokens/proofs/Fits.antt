-- Numbers that a text can say, and terms of them.
use Rattle.std.proofs.Common.{◌≡◌, ℕ, suc, ◌<◌, ◌^◌, ◌-◌, true, ℤ, pos, negsuc, arith, refl}
use Rattle.std.specs.Prelude.{int_le, int_lt}
use Rattle.raid_program.specs.declared.program.Term.{Term}
use Rattle.raid_program.specs.declared.program.Term.TheVariants.{Reg, Value}
use Rattle.raid_program.specs.Form.{is_term}
use Rattle.raid_program.specs.Run.{is_i64}
use Rattle.raid_workload.specs.Rules.{is_term_of_i64}

-- what fits in 64 bits with a sign
abbrev pub IsValue : ℤ → Type 0
IsValue (pos n) = n < 2 ^ 63
IsValue (negsuc n) = n < 2 ^ 63

abbrev pub IsTerm : Term → Type 0
IsTerm (Reg r) = r < 16
IsTerm (Value z) = IsValue z

pub value_fits : (z : ℤ) → is_i64 z ≡ true → IsValue z
value_fits (pos n) h = grind (arith, h)
value_fits (negsuc n) h = grind (arith, h)

pub value_is : (z : ℤ) → IsValue z → is_i64 z ≡ true
value_is (pos n) h = grind (arith, h)
value_is (negsuc n) h = grind (arith, h)

pub term_fits : (t : Term) → is_term t ≡ true → is_term_of_i64 t ≡ true → IsTerm t
term_fits (Reg r) form fits = grind (arith, form)
term_fits (Value z) form fits = value_fits z fits

pub term_is : (t : Term) → IsTerm t → is_term t ≡ true
term_is (Reg r) h = grind (arith, h)
term_is (Value z) h = refl

pub term_is_of_i64 : (t : Term) → IsTerm t → is_term_of_i64 t ≡ true
term_is_of_i64 (Reg r) h = refl
term_is_of_i64 (Value z) h = value_is z h
