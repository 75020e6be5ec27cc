use Rattle.std.proofs.Common.{◌≤◌, [], length, arith}
use Rattle.std.specs.Prelude.{slice_index_or}
use Rattle.raid_sequencer.specs.Runs as deciding
use Rattle.raid_world.specs.Stands.{most_steps}
use Rattle.raid_world.proofs.Timing.{within_most}
use Rattle.raid_world.proofs.world.World.report.Goals as goal

pub returns-clause-short : goal.returns-clause-short
returns-clause-short g c = λ few.
    let js = c.args.self.now.times.journals.items in
    let a : deciding.heard c.args.self.now.servers.sequencer ≤ length (slice_index_or js 1 []) = (c.requires.runs.live c.requires.goes_on).heard 1 in
    let b : length (slice_index_or js 1 []) ≤ most_steps js = within_most js 1 in
    c.in_ok-report.ensures.short (omega (arith, a, b, few))
