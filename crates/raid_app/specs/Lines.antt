-- The lines that the program writes beside its output.
use Rattle.std.specs.Prelude.{ℕ, List, [], ◌∷◌, ◌++◌, codes}
use Rattle.std.specs.Fmt.{decimal}
use Rattle.raid_tokens.specs.declared.fault.Fault.{Fault}
use Rattle.raid_tokens.specs.Fault.{number, word}
use Rattle.raid_check.specs.declared.finding.Finding.{Finding}
use Rattle.raid_check.specs.declared.finding.Finding.TheVariants.{Sound, Legal, Serial, Copies, Finished}
use Rattle.raid_scan.specs.Words.{joined}
use Rattle.raid_text.specs.Spelling.{switch_words}
use Rattle.raid_advise.specs.declared.advice.Advice.{Advice}
use Rattle.raid_advise.specs.declared.advice.Advice.TheVariants.{Keep, Switch}
use Rattle.raid_advise.specs.Added.{switch}

abbrev pub line : List ℕ → List ℕ
line text = text ++ 10 ∷ []

-- how the program is called
abbrev pub usage_line : List ℕ
usage_line = line (codes "usage: raid run [--brief] | raid make --seed N --count N | raid check | raid advise --last N")

-- why a text was refused: it is too long, or what is wrong first and on which line
abbrev pub too_long_line : List ℕ
too_long_line = line (codes "refused too long")

abbrev pub fault_line : ℕ → Fault → List ℕ
fault_line at fault = line (codes "refused line " ++ decimal at ++ codes " fault " ++ decimal (number fault) ++ 32 ∷ word fault)

-- which line of a report doesn't fit
abbrev pub unfit_line : ℕ → List ℕ
unfit_line at = line (codes "refused report line " ++ decimal at)

-- what was found of a report
abbrev pub finding_line : Finding → List ℕ
finding_line Sound = line (codes "sound")
finding_line (Legal n) = line (codes "fails legal at " ++ decimal n)
finding_line Serial = line (codes "fails serial")
finding_line Copies = line (codes "fails copies")
finding_line Finished = line (codes "fails finished")

-- what is advised: to keep the switches as they are, or to add the one whose line in a workload's text this is
abbrev pub advice_line : Advice → List ℕ
advice_line Keep = line (codes "keep")
advice_line (Switch kind method after) = line (joined (switch_words (switch kind method after)))
