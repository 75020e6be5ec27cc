use Rattle.raid_world.proofs.Serving.{go_first, none_first}
use Rattle.raid_world.proofs.servers.Servers.new.Goals as goal

pub returns-clause-go : goal.returns-clause-go
returns-clause-go g c =
    let q = c.in_ok-sequencer.ensures in
    go_first _ c.args.workload.now _ q.runs q.workload q.goes_on q.tells c.in_ok-sites.ensures

pub returns-clause-heard : goal.returns-clause-heard
returns-clause-heard g c = none_first c.args.workload.now _ c.in_ok-sequencer.ensures.heard c.in_ok-sites.ensures
