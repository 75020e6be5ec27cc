use Rattle.std.proofs.Common.{Option, ap, ◌∙◌}
use Rattle.raid_base.specs.declared.names.Site.{Site}
use Rattle.raid_base.specs.declared.verdict.Verdict.{Verdict}
use Rattle.raid_workload.specs.Parts.{home, placement}
use Rattle.raid_rules.specs.Sessions.{source_for}
use Rattle.raid_legal.specs.Seen.{sources}
use Rattle.raid_legal.specs.Answers.{served}
use Rattle.raid_decide.proofs.answers.answer_read.Goals as goal

pub returns : goal.returns
returns c = λ p o v.
    c.served.ensures
    ∙ ap (λ (found : Option Site). served c.args.txn c.args.item found c.args.verdict)
    (c.source_for-source.ensures c.args.workload.now.sites (placement c.args.workload.now) p o ∙ ap (λ (s : Site). source_for (sources c.args.workload.now p c.args.item) s) c.known_home-home.ensures.is)
    ∙ ap (λ (z : Verdict). served c.args.txn c.args.item (source_for (sources c.args.workload.now p c.args.item) (home c.args.workload.now c.args.txn)) z) v
