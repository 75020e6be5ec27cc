use Rattle.std.proofs.Common.{ap, sym, ◌∙◌}
use Rattle.std.specs.Prelude.{option_map, option_to_list}
use Rattle.raid_history.proofs.Stand.{on_ok}
use Rattle.raid_record.proofs.Renewed.{copy, asked_for}
use Rattle.raid_record.proofs.copies.renew.Goals as goal

pub returns-in-Some : goal.returns-in-Some
returns-in-Some c =
    on_ok c.ask.result
    (λ asked w p before out locks stands same.
    asked_for _ _ _ _ _ _ _ (sym (ap option_to_list (c.source_of.ensures.due w p before out locks stands same ∙ ap (option_map (copy c.args.site c.args.item)) c.in-Some.is))) (asked out stands))
    c.ask.ensures
