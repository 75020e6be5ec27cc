use Rattle.std.proofs.Common.{List, ap, ◌∙◌, ◌≤◌, filter, not, ◌&&◌, ◌||◌, nat_le, arith, rules}
use Rattle.raid_base.specs.declared.names.Site.{Site}
use Rattle.raid_base.specs.Names.{is_site, has_site}
use Rattle.raid_base.specs.Sites.{site, all_sites}
use Rattle.raid_rules.specs.Sessions.{is_site_up}
use Rattle.raid_legal.specs.Seen.{holds_some}
use Rattle.raid_session.proofs.Searched.{passed_more, failed_more}
use Rattle.raid_site.proofs.Holders.{few_sites, sites_end}
use Rattle.raid_site.proofs.holding.voters.Goals as goal
use Rattle.raid_site.proofs.holding.voters.Goals.{then-has_vote, else-has_vote}

pub loop-number-preserved : goal.loop-number-preserved
loop-number-preserved c =
    let test = λ (s : Site). nat_le s.0 c.args.workload.now.sites && (is_site_up c.args.vector s && not (is_site c.args.own s) && holds_some c.args.workload.now c.args.writes.now s) in
    elim c.if-has_vote.branch [
      | then-has_vote w ↦
          w.voters-is ∙ w.with-voters.ensures
          ∙ ap (λ (ss : List Site). filter (λ s. has_site ss s || is_site (site c.loop-number.number) s) all_sites) c.loop-number.invariant
          ∙ passed_more test c.loop-number.number (search rules)
      | else-has_vote w ↦ w.voters-is ∙ c.loop-number.invariant ∙ failed_more test c.loop-number.number (search rules)
    ]

pub returns : goal.returns
returns c =
    let test = λ (s : Site). is_site_up c.args.vector s && not (is_site c.args.own s) && holds_some c.args.workload.now c.args.writes.now s in
    let past : 9 ≤ c.loop-number.number = omega (arith, c.loop-number-test.false) in
    c.loop-number.invariant ∙ sites_end test c.loop-number.number c.args.workload.now.sites past (few_sites c.args.workload.now)
