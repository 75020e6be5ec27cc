use Rattle.raid_app.proofs.Sayings.{says_long}
use Rattle.raid_app.proofs.answer.answer_bytes.Goals as goal

pub returns-then-text-gt-LIMIT : goal.returns-then-text-gt-LIMIT
returns-then-text-gt-LIMIT g c = says_long c.args.brief c.args.text.now c.too_long.result c.if-text-gt-LIMIT.true c.too_long.ensures
