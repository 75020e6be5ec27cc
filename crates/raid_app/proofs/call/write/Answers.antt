use Rattle.raid_app.specs.Ended.{whole, part}
use Rattle.raid_app.proofs.call.write.Goals as goal

pub returns-in-Ok : goal.returns-in-Ok
returns-in-Ok g c = whole c.in-Ok.ensures.ok

pub returns-in-Err : goal.returns-in-Err
returns-in-Err g c = part c.in-Err.ensures.err c.in-Err.ensures.failed
