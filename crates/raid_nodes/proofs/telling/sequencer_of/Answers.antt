use Rattle.std.proofs.Common.{get_or}
use Rattle.std.proofs.lemmas.List.{get_or_default}
use Rattle.raid_nodes.proofs.Sited.{second, sequencer_tells, sequencer_goes}
use Rattle.raid_nodes.proofs.telling.sequencer_of.Goals as goal

pub returns-clause-runs : goal.returns-clause-runs
returns-clause-runs g c =
    let a = c.requires.are in
    let r = c.requires.go in
    let xs = c.args.nodes.now in
    let d = c.index-nodes-1.result in
    let low = second a.0 xs a.1 a.2 in
    (sequencer_goes _ r.0 xs (get_or xs 1 d) c.in-Sequencer.sequencer low r.1 (get_or_default xs 1 d (get_or xs 1 d) low) c.in-Sequencer.is).0

pub returns-clause-goes_on : goal.returns-clause-goes_on
returns-clause-goes_on g c =
    let a = c.requires.are in
    let r = c.requires.go in
    let xs = c.args.nodes.now in
    let d = c.index-nodes-1.result in
    let low = second a.0 xs a.1 a.2 in
    (sequencer_goes _ r.0 xs (get_or xs 1 d) c.in-Sequencer.sequencer low r.1 (get_or_default xs 1 d (get_or xs 1 d) low) c.in-Sequencer.is).2

pub returns-clause-tells : goal.returns-clause-tells
returns-clause-tells g c = λ w s are.
    let xs = c.args.nodes.now in
    let d = c.index-nodes-1.result in
    sequencer_tells w xs s (get_or xs 1 d) c.in-Sequencer.sequencer are (get_or_default xs 1 d (get_or xs 1 d) (second w xs s are)) c.in-Sequencer.is
