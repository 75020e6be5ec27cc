-- What the commands that judge a report tell of a sound one.
use Rattle.raid_check.specs.declared.finding.Finding.TheVariants.{Sound}
use Rattle.raid_advise.specs.Advice.{advice}
use Rattle.raid_app.specs.declared.wanted.Wanted.{Wanted}
use Rattle.raid_app.specs.declared.wanted.Wanted.TheVariants.{Soundness, Advice}
use Rattle.raid_app.specs.Judged.{Telling}
use Rattle.raid_app.specs.Lines.{finding_line, advice_line}

-- that it is sound; or which switch its entries with the last so many ends speak for
abbrev pub told_of : Wanted → Telling
told_of Soundness = λ w r. finding_line Sound
told_of (Advice last) = λ w r. advice_line (advice w r.entries last)
