use Rattle.std.proofs.Common.{List, All, subst, sym}
use Rattle.raid_message.specs.declared.letter.Step.{Step}
use Rattle.raid_merge.specs.Merged.{IsRising}
use Rattle.raid_nodes.proofs.Counted.{rising, schedule_ok, idle_ok, servers_ok, long_ok}
use Rattle.raid_nodes.proofs.world.Nodes.schedule.Goals as goal

pub merge-requires-clause-rising : goal.merge-requires-clause-rising
merge-requires-clause-rising g c = let r = c.requires.ran in subst (λ (js : List (List Step)). All IsRising js) (sym c.in_ok-journals.ensures) (rising r.0 r.1 c.args.self.now.nodes.items r.2)

pub returns-clause-schedule : goal.returns-clause-schedule
returns-clause-schedule g c = schedule_ok c.args.self.now.nodes.items _ c.merge.result c.in_ok-journals.ensures c.merge.ensures.merge

pub returns-clause-idle : goal.returns-clause-idle
returns-clause-idle g c = idle_ok c.args.self.now.nodes.items _ c.merge.result c.in_ok-journals.ensures c.merge.ensures.merge

pub returns-clause-servers : goal.returns-clause-servers
returns-clause-servers g c = servers_ok c.args.self.now.nodes.items _ c.merge.result c.in_ok-journals.ensures c.merge.ensures.merge

pub returns-clause-long : goal.returns-clause-long
returns-clause-long g c = long_ok c.args.self.now.nodes.items _ c.merge.result c.in_ok-journals.ensures c.merge.ensures.merge
