use Rattle.std.proofs.Common.{◌≡◌, map, take}
use Rattle.std.specs.Prelude.{flat_map}
use Rattle.raid_steps.specs.World.{copy_lines}
use Rattle.raid_site.specs.Server.{state_of}
use Rattle.raid_world.proofs.telling.copies.Given as goal

-- the copies of the sites so far have been listed
abbrev pub invariant-loop-site : goal.invariant-loop-site
invariant-loop-site l = l.copies ≡ flat_map copy_lines (map state_of (take l.site-index l.sites))
