use Rattle.std.proofs.Common.{ap, sym, ◌∙◌, rules, List}
use Rattle.raid_base.specs.declared.names.Site.{Site}
use Rattle.raid_rules.specs.Sessions.{source_for}
use Rattle.raid_rules.proofs.Sources.{home_passed, home_failed}
use Rattle.raid_faillock.specs.Stands.{serves}
use Rattle.raid_faillock.proofs.Sources.{serving}
use Rattle.raid_faillock.proofs.faillocks.FailLocks.source_for.Goals as goal

pub returns-then-serves : goal.returns-then-serves
returns-then-serves c = λ sites placement p o.
    sym (home_passed (serves c.args.self.now c.args.item) c.args.home c.requires.least c.requires.most (search rules))
    ∙ ap (λ (found : List Site). source_for found c.args.home) (serving c.args.self.now sites placement p c.args.item o)

pub returns-else-serves : goal.returns-else-serves
returns-else-serves c = λ sites placement p o.
    c.least_source.ensures ∙ sym (home_failed (serves c.args.self.now c.args.item) c.args.home c.requires.least c.requires.most (search rules))
    ∙ ap (λ (found : List Site). source_for found c.args.home) (serving c.args.self.now sites placement p c.args.item o)
