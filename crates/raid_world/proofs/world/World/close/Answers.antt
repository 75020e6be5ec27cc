use Rattle.raid_world.proofs.world.World.close.Goals as goal

pub close-requires : goal.close-requires
close-requires g c = record { go = (c.requires.runs.0, (c.requires.runs.1.live c.requires.goes_on).servers) }
