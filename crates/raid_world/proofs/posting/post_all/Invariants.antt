use Rattle.std.proofs.Common.{◌≡◌, fold, take, length}
use Rattle.raid_steps.specs.World.{post}
use Rattle.raid_world.specs.Stands.{AreLinks}
use Rattle.raid_world.proofs.posting.post_all.Given as goal

-- those so far were posted
abbrev pub invariant-loop-to : goal.invariant-loop-to
invariant-loop-to l = record {
  posted : l.links ≡ fold (post l.server l.session l.clock) l.fn.links (take l.to-index l.to-items);
  links : AreLinks (length l.fn.links) l.links;
}
