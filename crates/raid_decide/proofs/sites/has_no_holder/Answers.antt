use Rattle.std.proofs.Common.{ℕ, ℤ, List, not, ap, ◌∙◌}
use Rattle.std.specs.List.{list_any}
use Rattle.raid_base.specs.declared.names.Item.{Item}
use Rattle.raid_workload.specs.Parts.{placement}
use Rattle.raid_rules.specs.Sessions.{is_site_up, holders}
use Rattle.raid_decide.proofs.sites.has_no_holder.Goals as goal

pub returns : goal.returns
returns c = λ p e.
    c.is_unheld.ensures
    ∙ ap (λ (writes : List (Item × ℤ)). list_any (λ pair. not (list_any (is_site_up c.args.vector) (holders (placement c.args.workload.now) pair.0))) writes) c.as_slice.ensures
    ∙ ap (λ (v : List ℕ). list_any (λ pair. not (list_any (is_site_up v) (holders (placement c.args.workload.now) pair.0))) c.args.request.now.writes) e
