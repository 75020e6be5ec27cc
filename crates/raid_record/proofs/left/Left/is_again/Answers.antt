use Rattle.std.proofs.Common.{◌≡◌, ◌-◌, ◌&&◌, nat_lt, Bool, true, false, length, slice_index_or, arith, ap, sym, ◌∙◌}
use Rattle.std.proofs.lemmas.Grind.{common_steps}
use Rattle.raid_legal.specs.Seen.{attempt}
use Rattle.raid_record.proofs.Begins as begins
use Rattle.raid_record.proofs.left.Left.is_again.Goals as goal

pub returns-then-attempt-gt0 : goal.returns-then-attempt-gt0
returns-then-attempt-gt0 c = λ p left.
    let w = c.args.workload.now in
    let t = c.args.txn in
    let later : nat_lt 0 (attempt w t) ≡ true = grind (arith, c.if-attempt-gt0.true, c.attempt.ensures) in
    let place : c.saturating_sub.result ≡ t.0 - length w.programs = grind (arith, common_steps, c.saturating_sub.ensures, c.len-programs.ensures) in
    c.has.ensures ∙ ap (λ k. slice_index_or c.args.self.now k false) place
    ∙ ap (λ (b : Bool). b && slice_index_or c.args.self.now (t.0 - length w.programs) false) (sym later)
    ∙ begins.is_again w c.args.self.now p t left
