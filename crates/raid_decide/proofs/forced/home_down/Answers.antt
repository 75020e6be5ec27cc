use Rattle.std.proofs.Common.{ℕ, List, not, ap, sym, ◌∙◌}
use Rattle.std.specs.Prelude.{find, option_map}
use Rattle.raid_base.specs.declared.names.Txn.{Txn}
use Rattle.raid_base.specs.declared.entry.Act.TheVariants as acts
use Rattle.raid_base.specs.declared.entry.Cause.TheVariants.{HomeDown}
use Rattle.raid_base.specs.declared.entry.Entry.TheVariants.{Abort}
use Rattle.raid_workload.specs.Parts.{home}
use Rattle.raid_rules.specs.History.{noted}
use Rattle.raid_rules.specs.Sessions.{is_site_up}
use Rattle.raid_legal.specs.Seen.{running}
use Rattle.raid_placed.proofs.Listed.{placed_running_list}
use Rattle.raid_decide.proofs.Homeless.{nobody_homeless}
use Rattle.raid_decide.proofs.forced.home_down.Goals as goal

pub returns-then-are_all_up : goal.returns-then-are_all_up
returns-then-are_all_up c = λ placed e.
    sym (nobody_homeless c.args.workload.now (noted c.args.history.now) c.args.vector (sym c.are_all_up.ensures ∙ c.if-are_all_up.true) e)

pub returns : goal.returns
returns c = λ placed e.
    c.abort_of.ensures
    ∙ ap (option_map (λ t. Abort t HomeDown acts.Nothing))
    (c.first_homeless-found.ensures
    ∙ ap (λ (ts : List Txn). find (λ t. not (is_site_up c.args.vector (home c.args.workload.now t))) ts)
    (c.as_slice.ensures ∙ placed_running_list c.args.workload.now c.args.history.now c.running.result.now placed c.running.ensures.has c.running.ensures.ascends)
    ∙ ap (λ (v : List ℕ). find (λ t. not (is_site_up v (home c.args.workload.now t))) (running c.args.workload.now (noted c.args.history.now))) e)
