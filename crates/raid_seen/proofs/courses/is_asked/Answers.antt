use Rattle.std.proofs.Common.{◌≡◌, List, sym, ◌∙◌}
use Rattle.raid_base.specs.declared.entry.Entry.{Entry}
use Rattle.raid_rules.specs.History.{noted}
use Rattle.raid_legal.specs.Seen.{outcome}
use Rattle.raid_legal.specs.Legal.{wants_item, is_asked}
use Rattle.raid_seen.specs.Tables.{AreReadings, AreOutages}
use Rattle.raid_seen.proofs.Pushed.{asked_lost, asked_wanted, if_ok}
use Rattle.raid_seen.proofs.courses.is_asked.Goals as goal

pub returns-then-is_lost : goal.returns-then-is_lost
returns-then-is_lost c = λ h r o. asked_lost c.args.workload.now h c.args.readings.now c.args.outages.now c.args.txn c.args.item (sym c.is_lost.ensures ∙ c.if-is_lost.true) r o

pub returns : goal.returns
returns c =
    let w = c.args.workload.now in
    let t = c.args.txn in
    let x = c.args.item in
    if_ok (λ b. (h : List Entry) → AreReadings w c.args.readings.now (noted h) → b ≡ wants_item x (outcome w (noted h) t).end)
    (λ b. (h : List Entry) → AreReadings w c.args.readings.now (noted h) → AreOutages c.args.outages.now (noted h) → b ≡ is_asked w (noted h) t x)
    c.wants.result
    (λ b f h r o. asked_wanted w h c.args.readings.now c.args.outages.now t x b (sym c.is_lost.ensures ∙ c.if-is_lost.false) r o (f h r))
    c.wants.ensures
