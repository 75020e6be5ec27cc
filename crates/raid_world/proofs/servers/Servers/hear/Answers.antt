use Rattle.raid_world.proofs.Serving.{no_more}
use Rattle.raid_world.proofs.servers.Servers.hear.Goals as goal

pub returns-then-server-eq0-clause-heard : goal.returns-then-server-eq0-clause-heard
returns-then-server-eq0-clause-heard g c = no_more c.args.self.now c.hear_monitor.new.self c.args.server c.hear_monitor.result c.hear_monitor.ensures.heard
