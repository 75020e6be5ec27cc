use Rattle.raid_record.proofs.Stepped.{closed_turn}
use Rattle.raid_record.proofs.records.Record.close_copy.Goals as goal

pub returns-clause-turns : goal.returns-clause-turns
returns-clause-turns c = λ w outs. closed_turn w c.args.self.now c.close.new.self outs c.args.site c.args.item c.close.ensures
