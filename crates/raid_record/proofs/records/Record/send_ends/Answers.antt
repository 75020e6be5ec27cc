use Rattle.std.proofs.Common.{◌≡◌, nat_lt, true, List, [], ◌∷◌, ◌++◌, if◌then◌else◌, arith, ap, sym, ◌∙◌}
use Rattle.raid_rules.specs.History.{noted, ends}
use Rattle.raid_message.specs.declared.letter.Message.TheVariants as letters
use Rattle.raid_steps.specs.State.{Out}
use Rattle.raid_history.proofs.Stand.{on_ok}
use Rattle.raid_record.proofs.Stepped.{ends_turn}
use Rattle.raid_record.proofs.records.Record.send_ends.Goals as goal

pub returns-then-before-count : goal.returns-then-before-count
returns-then-before-count c =
    let n = ends (noted c.args.self.now.history) in
    let sent : List Out = c.args.outs.now in
    let more : nat_lt c.args.before n ≡ true = grind (arith, c.if-before-count.true, c.ends-count.ensures) in
    on_ok c.push.result
    (λ e w.
    ends_turn w c.args.self.now sent c.push.new.self c.args.before
    (e ∙ ap (λ k. sent ++ (0, 0, letters.Ends k) ∷ []) c.ends-count.ensures ∙ ap (λ b. sent ++ (if b then (0, 0, letters.Ends n) ∷ [] else [])) (sym more)))
    c.push.ensures.ok
