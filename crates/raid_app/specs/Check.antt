-- What the command `check` is to say, by the bytes that it reads.
use Rattle.std.specs.Prelude.{ℕ, List}
use Rattle.raid_check.specs.declared.finding.Finding.TheVariants.{Sound}
use Rattle.raid_app.specs.declared.answer.Answer.{Answer}
use Rattle.raid_app.specs.Judged.{JudgesInput}
use Rattle.raid_app.specs.Lines.{finding_line}

-- of a sound report: that it is sound
abbrev pub Judges : List ℕ → Answer → Type 0
Judges = JudgesInput (λ w r. finding_line Sound)
