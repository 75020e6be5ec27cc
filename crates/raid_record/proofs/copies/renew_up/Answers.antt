use Rattle.std.proofs.Common.{◌≡◌, true, false, [], if◌then◌else◌, arith, ap, sym, ◌∙◌}
use Rattle.std.proofs.lemmas.Grind.{common_steps}
use Rattle.raid_rules.specs.Sessions.{is_site_up}
use Rattle.raid_steps.specs.Sequencer.{copies_due}
use Rattle.raid_history.proofs.Stand.{on_ok}
use Rattle.raid_record.proofs.Renewed.{asked_for, asked_none, idle_at}
use Rattle.raid_record.proofs.copies.renew_up.Goals as goal

pub returns-then-not-contains : goal.returns-then-not-contains
returns-then-not-contains c =
    let no : c.contains.result ≡ false = grind (arith, common_steps, c.if-not-contains.true) in
    λ p before out locks locked stands same.
    asked_for _ _ _ _ _ _ _ (sym (idle_at c.args.workload.now p c.args.vector before c.args.site (sym locked ∙ sym c.contains.ensures ∙ no))) (asked_none c.args.vector c.args.copiers.now c.args.outs.now out stands)

pub returns-then-session_of-gt0 : goal.returns-then-session_of-gt0
returns-then-session_of-gt0 c =
    let up : is_site_up c.args.vector c.args.site ≡ true = grind (arith, c.if-session_of-gt0.true, c.session_of.ensures) in
    on_ok c.renew_site.result
    (λ asked p before out locks locked stands same.
    asked_for _ _ _ _ _ _ _ (sym (ap (λ b. if b then copies_due c.args.workload.now p before c.args.site else []) up)) (asked p before out locks stands same))
    c.renew_site.ensures
