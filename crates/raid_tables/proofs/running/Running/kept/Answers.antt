use Rattle.std.proofs.Common.{◌∙◌}
use Rattle.raid_tables.proofs.Known.{log_reads}
use Rattle.raid_tables.proofs.running.Running.kept.Goals as goal

pub returns : goal.returns
returns c = λ view k. (rw (c.as_slice.ensures.value, c.as_slice-2.ensures.value) at c.count_live_reads.ensures) ∙ log_reads c.args.self.now view k
