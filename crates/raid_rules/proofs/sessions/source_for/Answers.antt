use Rattle.std.proofs.Common.{sym, ◌∙◌, rules}
use Rattle.raid_rules.specs.Sessions as words
use Rattle.raid_rules.proofs.Sources.{home_passed, home_failed}
use Rattle.raid_rules.proofs.sessions.source_for.Goals as goal

pub returns-then-is_source : goal.returns-then-is_source
returns-then-is_source c =
    sym (home_passed (words.is_source c.args.sites c.args.placement.now c.args.view.now c.args.item) c.args.home c.requires.least c.requires.most (search rules))

pub returns-else-is_source : goal.returns-else-is_source
returns-else-is_source c =
    c.least_source.ensures ∙ sym (home_failed (words.is_source c.args.sites c.args.placement.now c.args.view.now c.args.item) c.args.home c.requires.least c.requires.most (search rules))
