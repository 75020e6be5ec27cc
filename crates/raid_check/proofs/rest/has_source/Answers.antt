use Rattle.std.proofs.Common.{sym, ◌∙◌}
use Rattle.raid_workload.specs.Parts.{placement}
use Rattle.raid_rules.specs.History.{noted}
use Rattle.raid_legal.specs.Seen.{sources}
use Rattle.raid_check.proofs.Judged.{no_source, some_source}
use Rattle.raid_check.proofs.rest.has_source.Goals as goal

pub returns-in-Some : goal.returns-in-Some
returns-in-Some c =
    let w = c.args.workload.now in
    let p = noted c.args.tables.now.history in
    some_source (sources w p c.args.item) c.args.site _ (sym (c.source_for.ensures w.sites (placement w) p c.requires.of.kept.locks) ∙ c.in-Some.is)

pub returns-in-None : goal.returns-in-None
returns-in-None c =
    let w = c.args.workload.now in
    let p = noted c.args.tables.now.history in
    no_source (sources w p c.args.item) c.args.site (sym (c.source_for.ensures w.sites (placement w) p c.requires.of.kept.locks) ∙ c.in-None.is)
