use Rattle.raid_tables.proofs.Known.{knows_read}
use Rattle.raid_tables.proofs.readers.Readers.note_read.Goals as goal

pub returns : goal.returns
returns c = knows_read c.args.running.now c.args.self.now _ c.args.number c.args.stamp c.args.txn c.args.item c.args.site c.add_reader.ensures
