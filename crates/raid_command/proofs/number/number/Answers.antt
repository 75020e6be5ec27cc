use Rattle.std.proofs.Common.{◌≡◌, ◌∙◌, ◌≤◌, ℕ, true, length, sym, ap, arith, rules, cond, Some, None, nat_le}
use Rattle.std.specs.Char.{is_ascii_digit}
use Rattle.std.specs.List.{list_all}
use Rattle.std.specs.Result.{result_ok}
use Rattle.std.specs.Str.Parse.{digits_value}
use Rattle.std.proofs.lemmas.Str.Parse.{IsNumeralModel, digits_value_short, numerals_by_value, parse_gives}
use Rattle.clap.proofs.WalkLemmas.{both}
use Rattle.raid_command.specs.Asked.{is_number}
use Rattle.raid_command.proofs.number.number.Goals as goal

own : IsNumeralModel (λ ds. list_all is_ascii_digit ds ≡ true) (digits_value 10)
own = numerals_by_value _ (search rules)

at_least : (n : ℕ) → nat_le 1 n ≡ true → 1 ≤ n
at_least n e = grind (arith, e)

at_most : (n : ℕ) → nat_le n 9 ≡ true → n ≤ 9
at_most n e = grind (arith, e)

pub returns-then-is_number : goal.returns-then-is_number
returns-then-is_number c =
    let w = c.args.word.now in
    let is : is_number w ≡ true = sym c.is_number.ensures ∙ c.if-is_number.true in
    let filled = both (nat_le 1 (length w)) _ is in
    let short = both (nat_le (length w) 9) _ filled.1 in
    let some = at_least (length w) filled.0 in
    let below = digits_value_short own w 9 short.1 (at_most (length w) short.0) in
    let given = parse_gives own 32 w c.parse.result c.parse.ensures.value.0 short.1 (omega (arith, some)) (omega (arith, below)) in
    c.ok.ensures.value ∙ ap result_ok given ∙ sym (ap (λ b. cond b (Some (digits_value 10 w)) None) is)
