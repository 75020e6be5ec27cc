use Rattle.std.proofs.Common.{◌++◌, ap, sym, ◌∙◌}
use Rattle.raid_steps.specs.World.{copy_lines}
use Rattle.raid_site.specs.Server.{state_of}
use Rattle.raid_world.proofs.Shape.{get_is}
use Rattle.raid_world.proofs.Told.{copies_more}
use Rattle.raid_world.proofs.telling.copies.Goals as goal

pub loop-site-preserved : goal.loop-site-preserved
loop-site-preserved c =
    let ss = c.args.sites.now in
    let k = c.loop-site.site-index in
    let s = c.site-item.result in
    c.in_ok-push_all.ensures.ok ∙ ap (λ ls. c.loop-site.copies ++ ls) (c.as_slice.ensures ∙ c.in_ok-lines.ensures) ∙ ap (λ cs. cs ++ copy_lines (state_of s)) c.loop-site.invariant
    ∙ sym (copies_more ss k s (get_is ss k s c.loop-site-test.true c.site-item.is))
