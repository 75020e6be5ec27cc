use Rattle.std.proofs.Common.{◌≡◌, false, refl, arith, sym, ◌∙◌}
use Rattle.std.proofs.lemmas.Grind.{common_steps}
use Rattle.raid_workload.specs.Parts.{placement}
use Rattle.raid_rules.specs.History.{noted}
use Rattle.raid_legal.specs.Seen.{vector}
use Rattle.raid_history.proofs.Stand.{on_ok}
use Rattle.raid_record.proofs.Renewed.{asked_none, asked_for, none_due}
use Rattle.raid_record.proofs.Stepped.{copies_turn}
use Rattle.raid_record.proofs.records.Record.send_copies.Goals as goal

pub returns-then-not-is_any_locked-clause-turns : goal.returns-then-not-is_any_locked-clause-turns
returns-then-not-is_any_locked-clause-turns c =
    let w = c.args.workload.now in
    let r = c.args.self.now in
    let none : c.is_any_locked.result ≡ false = grind (arith, common_steps, c.if-not-is_any_locked.true) in
    copies_turn w r r.copiers c.args.outs.now c.args.outs.now (vector w (noted r.history)) (λ k. refl)
    (λ k out stands.
    asked_for _ _ _ _ _ _ _ (sym (none_due w (noted r.history) out (sym (c.is_any_locked.ensures w.sites (placement w) (noted r.history) k.tables.locks) ∙ none)))
    (asked_none (vector w (noted r.history)) r.copiers c.args.outs.now out stands))

pub returns-clause-turns : goal.returns-clause-turns
returns-clause-turns c =
    let w = c.args.workload.now in
    let r = c.args.self.now in
    let p = noted r.history in
    on_ok c.renew_all.result
    (λ asked.
    copies_turn w r c.renew_all.new.copiers c.args.outs.now c.renew_all.new.outs c.vector-vector.result (λ k. c.vector-vector.ensures w.sites (placement w) p k.tables.locks)
    (λ k out stands. asked p out k.tables.locks stands (c.vector-vector.ensures w.sites (placement w) p k.tables.locks)))
    c.renew_all.ensures
