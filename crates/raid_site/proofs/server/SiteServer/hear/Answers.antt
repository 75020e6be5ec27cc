use Rattle.std.proofs.Common.{arith}
use Rattle.raid_site.proofs.Runs.{may_ask_from, run_more}
use Rattle.raid_site.proofs.server.SiteServer.hear.Goals as goal

pub hear-requires-clause-asks : goal.hear-requires-clause-asks
hear-requires-clause-asks c =
    let s = c.args.self.now in
    let few = c.requires.few in
    may_ask_from s.parts.ballots.ballots s.parts.driver.running s.heard (omega (arith, few)) (c.requires.run c.if-self.false).asks

pub returns-clause-run : goal.returns-clause-run
returns-clause-run c live =
    let s = c.args.self.now in
    run_more c.args.workload.now s.parts c.hear.new.parts c.hear.new.outs s.heard c.args.from c.args.letter.now (c.requires.run c.if-self.false) c.in_ok-hear.ensures.ok c.in_ok-hear.ensures.live c.in_ok-hear.ensures.whole
