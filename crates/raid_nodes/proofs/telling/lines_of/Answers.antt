use Rattle.raid_nodes.proofs.Sited.{site_goes, site_lines_ok, monitor_lines, sequencer_lines}
use Rattle.raid_nodes.proofs.telling.lines_of.Goals as goal

pub copies_at-requires : goal.copies_at-requires
copies_at-requires g c = site_goes _ c.args.workload.now c.args.node.now _ c.in-Site.is c.requires

pub returns-in-Site : goal.returns-in-Site
returns-in-Site g c = site_lines_ok c.args.node.now.server _ c.copies_at.result c.in-Site.is c.copies_at.ensures

pub returns-in-Monitor : goal.returns-in-Monitor
returns-in-Monitor g c = monitor_lines c.args.node.now.server _ _ c.in-Monitor.is c.new.ensures

pub returns-in-Sequencer : goal.returns-in-Sequencer
returns-in-Sequencer g c = sequencer_lines c.args.node.now.server _ _ c.in-Sequencer.is c.new-in-Sequencer.ensures
