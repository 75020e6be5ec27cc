use Rattle.std.proofs.Common.{◌∙◌}
use Rattle.raid_tables.proofs.Known.{if_ok, log_is_carried}
use Rattle.raid_tables.proofs.running.Running.carry.Goals as goal

pub returns : goal.returns
returns c = if_ok c.carry_live.result (λ v h view k. h ∙ log_is_carried c.args.self.now view k) (rw (c.as_slice.ensures.value, c.as_slice-2.ensures.value) at c.carry_live.ensures)
