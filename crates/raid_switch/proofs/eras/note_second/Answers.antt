use Rattle.std.proofs.Common.{sym, ◌∙◌}
use Rattle.raid_switch.proofs.Together.{note_the_second, on_ok}
use Rattle.raid_switch.proofs.eras.note_second.Goals as goal

pub returns-in-Some-clause-ok : goal.returns-in-Some-clause-ok
returns-in-Some-clause-ok g c =
    on_ok c.note_one-noted.result
    (λ f. note_the_second _ c.in-Some.next c.note_one-noted.new.control c.args.second.now (λ b. (goal.Controller-dyn g (b.vtable, b.value)).kind_of b.value) (λ b. (goal.Controller-dyn g (b.vtable, b.value)).stands b.value)
    (record { at = c.args.at; stamp = c.args.stamp; entry = c.args.entry.now }) (sym c.take.ensures.value ∙ c.in-Some.is) c.note_one-noted.ensures.kind f)
    c.note_one-noted.ensures.ok
