use Rattle.raid_switch.proofs.Together.{note_more}
use Rattle.raid_switch.proofs.eras.Eras.note.Goals as goal

pub returns-clause-ok : goal.returns-clause-ok
returns-clause-ok g c =
    note_more _ c.args.self.now.first c.note_one.new.control c.args.self.now.second c.note_second.new.second (λ b. (goal.Controller-dyn g (b.vtable, b.value)).kind_of b.value) (λ b. (goal.Controller-dyn g (b.vtable, b.value)).stands b.value)
    (record { at = c.args.at; stamp = c.args.stamp; entry = c.args.entry.now }) c.in_ok-note_one.ensures.kind c.in_ok-note_one.ensures.ok c.in_ok-note_second.ensures.ok
