use Rattle.std.proofs.Common.{sym, ◌∙◌}
use Rattle.raid_serial.proofs.Facts.{none_is}
use Rattle.raid_check.proofs.Judged.{none_iff, finished_iff}
use Rattle.raid_check.proofs.rest.is_done.Goals as goal

pub returns-in-Some : goal.returns-in-Some
returns-in-Some c = none_iff (λ f. none_is _ (sym f.unforced ∙ sym c.requires.must ∙ c.in-Some.is))

pub returns-in-None : goal.returns-in-None
returns-in-None c = finished_iff c.args.workload.now c.args.tables.now.history c.is_quiet.result c.requires.of.legal (sym c.requires.must ∙ c.in-None.is) c.is_quiet.ensures
