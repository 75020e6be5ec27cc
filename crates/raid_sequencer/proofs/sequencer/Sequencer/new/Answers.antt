use Rattle.raid_sequencer.proofs.Ready.{opened_ready}
use Rattle.raid_sequencer.proofs.sequencer.Sequencer.new.Goals as goal

pub returns-clause-runs : goal.returns-clause-runs
returns-clause-runs g c = λ on. opened_ready (λ v. (g.dyn-1.0.entry v).1) c.args.workload.now c.in_ok-own.own c.in_ok-record.record c.new-2.result c.in_ok-own.ensures c.in_ok-record.ensures c.new-2.ensures.holds c.new-2.ensures.goes_on
