use Rattle.std.proofs.Common.{◌≤◌, [], length, arith}
use Rattle.std.specs.Prelude.{slice_index_or}
use Rattle.raid_world.specs.Stands.{heard, most_steps}
use Rattle.raid_world.proofs.Timing.{within_most, one_more}
use Rattle.raid_world.proofs.Stepping.{outs_to, stands_after, live_after, tick_is}
use Rattle.raid_world.proofs.world.World.step.Goals as goal

pub hear-requires-clause-few : goal.hear-requires-clause-few
hear-requires-clause-few g c =
    let js = c.args.self.now.times.journals.items in
    let a : heard c.args.self.now.servers c.args.pick.server ≤ length (slice_index_or c.args.self.now.times.journals.items c.args.pick.server []) = c.requires.live.heard c.args.pick.server in
    let b : length (slice_index_or c.args.self.now.times.journals.items c.args.pick.server []) ≤ most_steps c.args.self.now.times.journals.items = within_most js c.args.pick.server in
    omega (arith, a, b, c.requires.few)

pub post_all-requires-clause-to : goal.post_all-requires-clause-to
post_all-requires-clause-to g c =
    outs_to _ c.args.workload.now c.args.self.now.servers c.args.pick.server c.args.pick.from (length c.args.self.now.links) c.args.letter.now c.in_ok-outs.outs c.requires.live.servers c.requires.from c.requires.links.count
    c.in_ok-outs.ensures.outs

pub returns-clause-stands : goal.returns-clause-stands
returns-clause-stands g c =
    let tick = tick_is _ c.args.workload.now c.args.self.now c.args.pick.server c.args.letter.now.clock c.requires.live c.requires.clock c.requires.few c.next-clock.result c.next-clock.ensures in
    stands_after c.args.workload.now c.args.self.now _ c.args.pick.server c.args.pick.from c.session_of-session.result c.next-clock.result c.args.letter.now c.in_ok-outs.outs c.post_all.result
    c.in_ok-outs.ensures.state c.in_ok-outs.ensures.outs c.session_of-session.ensures tick c.post_all.ensures.posted c.in_ok-note.ensures.clocks c.in_ok-note.ensures.journals

pub returns-clause-live : goal.returns-clause-live
returns-clause-live g c =
    let tick = tick_is _ c.args.workload.now c.args.self.now c.args.pick.server c.args.letter.now.clock c.requires.live c.requires.clock c.requires.few c.next-clock.result c.next-clock.ensures in
    live_after c.args.workload.now c.args.self.now _ c.args.pick.server c.args.pick.from c.session_of-session.result c.next-clock.result c.args.letter.now c.in_ok-outs.outs c.post_all.result
    _ c.requires.live c.requires.server c.requires.clock c.in_ok-outs.ensures.go c.in_ok-outs.ensures.heard tick c.post_all.ensures.posted c.in_ok-note.ensures.clocks c.in_ok-note.ensures.journals

pub returns-clause-steps : goal.returns-clause-steps
returns-clause-steps g c = one_more c.post_all.result c.args.self.now.times.journals.items c.note.new.self.journals.items c.args.pick.server (record { clock = c.next-clock.result; from = c.args.pick.from }) c.in_ok-note.ensures.journals
