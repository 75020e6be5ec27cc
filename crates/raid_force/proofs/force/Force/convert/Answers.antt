use Rattle.std.proofs.Common.{refl, arith}
use Rattle.raid_force.proofs.Racked.{swapped, alone_room}
use Rattle.raid_force.proofs.force.Force.convert.Goals as goal

pub returns-in-Ok-clause-racked : goal.returns-in-Ok-clause-racked
returns-in-Ok-clause-racked g c =
    swapped (λ v. (g.dyn-1.0.entry v).1) c.args.self.now _ c.args.structure c.serve-once.new.rack.slots.items c.serve-once.result.0 c.serve-once.result.1 c.in-Ok.old c.requires.racked c.requires.alone c.in-Ok.ensures.alone
    c.in-Ok.ensures.old c.in-Ok.ensures.kind c.in-Ok.ensures.structure c.serve-once.ensures.structure refl c.serve-once.ensures.lasting c.give_back.ensures.lasting c.give_back.ensures.clear
    (let room = alone_room (λ v. (g.dyn-1.0.entry v).1) c.args.self.now c.args.structure c.requires.racked c.requires.alone in
    omega (arith, room, c.serve-once.ensures.room, c.serve-once.ensures.capacity, c.give_back.ensures.room, c.give_back.ensures.capacity))
