use Rattle.std.proofs.Common.{List, ap, ◌∙◌, filter, ◌||◌, rules}
use Rattle.raid_base.specs.declared.names.Site.{Site}
use Rattle.raid_base.specs.Names.{is_site, has_site}
use Rattle.raid_base.specs.Sites.{site, all_sites}
use Rattle.raid_rules.specs.Sessions.{is_site_up}
use Rattle.raid_session.proofs.Searched.{passed_more, failed_more}
use Rattle.raid_session.proofs.sessions.up_sites.Goals as goal
use Rattle.raid_session.proofs.sessions.up_sites.Goals.{then-session-gt0, else-session-gt0}

pub loop-number-preserved : goal.loop-number-preserved
loop-number-preserved c =
    elim c.if-session-gt0.branch [
      | then-session-gt0 w ↦
          w.up-is ∙ w.with-up.ensures
          ∙ ap (λ (ss : List Site). filter (λ s. has_site ss s || is_site (site c.loop-number.number) s) all_sites) c.loop-number.invariant
          ∙ passed_more (is_site_up c.args.vector) c.loop-number.number (search rules)
      | else-session-gt0 w ↦ w.up-is ∙ c.loop-number.invariant ∙ failed_more (is_site_up c.args.vector) c.loop-number.number (search rules)
    ]
