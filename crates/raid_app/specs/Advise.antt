-- What the command `advise` is to say, by the bytes that it reads.
use Rattle.std.specs.Prelude.{ℕ, List}
use Rattle.raid_advise.specs.Advice.{advice}
use Rattle.raid_app.specs.declared.answer.Answer.{Answer}
use Rattle.raid_app.specs.Judged.{JudgesInput}
use Rattle.raid_app.specs.Lines.{advice_line}

-- of a sound report: which switch its entries with the last so many ends speak for
abbrev pub Advises : ℕ → List ℕ → Answer → Type 0
Advises last = JudgesInput (λ w r. advice_line (advice w r.entries last))
