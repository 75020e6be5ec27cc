use Rattle.std.proofs.Common.{◌≡◌, arith, ℕ, List, ap, ◌∙◌, filter, ◌&&◌, ◌||◌, length, rules}
use Rattle.raid_base.specs.declared.names.Site.{Site}
use Rattle.raid_base.specs.Names.{is_site, has_site}
use Rattle.raid_base.specs.Sites.{site, all_sites}
use Rattle.raid_workload.specs.Parts.{sites}
use Rattle.raid_rules.specs.Sessions.{is_site_up}
use Rattle.raid_legal.specs.Seen.{holds_some}
use Rattle.raid_session.proofs.Searched.{below, passed_more, failed_more}
use Rattle.raid_decide.proofs.Up.{length_vector, up_are_of_workload}
use Rattle.raid_decide.proofs.sites.up_holders.Goals as goal
use Rattle.raid_decide.proofs.sites.up_holders.Goals.{then-takes_part, else-takes_part}

pub loop-number-preserved : goal.loop-number-preserved
loop-number-preserved c =
    elim c.if-takes_part.branch [
      | then-takes_part w ↦
          w.up-is ∙ w.with-up.ensures
          ∙ ap (λ (ss : List Site). filter (λ s. has_site ss s || is_site (site c.loop-number.number) s) all_sites) c.loop-number.invariant
          ∙ passed_more (λ s. is_site_up c.args.vector s && holds_some c.args.workload.now c.args.writes.now s) c.loop-number.number (search rules)
      | else-takes_part w ↦
          w.up-is ∙ c.loop-number.invariant ∙ failed_more (λ s. is_site_up c.args.vector s && holds_some c.args.workload.now c.args.writes.now s) c.loop-number.number (search rules)
    ]

pub returns : goal.returns
returns c = λ p e.
    let nine : c.loop-number.number ≡ 9 = omega (arith, c.loop-number-test.false, c.loop-number.auto.number-end) in
    c.loop-number.invariant
    ∙ ap (λ n. filter (below n (λ s. is_site_up c.args.vector s && holds_some c.args.workload.now c.args.writes.now s)) all_sites) nine
    ∙ up_are_of_workload c.args.workload.now c.args.vector (holds_some c.args.workload.now c.args.writes.now) (ap length e ∙ length_vector c.args.workload.now p)
    ∙ ap (λ (v : List ℕ). filter (λ s. is_site_up v s && holds_some c.args.workload.now c.args.writes.now s) (sites c.args.workload.now)) e
