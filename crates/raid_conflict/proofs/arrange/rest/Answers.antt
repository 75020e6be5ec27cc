use Rattle.std.proofs.lemmas.List.{take_rest}
use Rattle.raid_conflict.proofs.arrange.rest.Goals as goal

pub returns : goal.returns
returns c = take_rest c.args.all.now c.args.first
