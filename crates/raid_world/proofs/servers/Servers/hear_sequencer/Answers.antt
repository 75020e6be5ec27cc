use Rattle.std.proofs.Common.{refl}
use Rattle.raid_world.proofs.Serving.{sequencer_goes}
use Rattle.raid_world.proofs.servers.Servers.hear_sequencer.Goals as goal

pub returns-clause-go : goal.returns-clause-go
returns-clause-go g c =
    let h = c.hear.ensures in
    sequencer_goes _ c.args.workload.now c.args.self.now _ c.args.from c.args.letter.now c.hear.result c.requires.go h.state h.runs h.workload h.after refl
