use Rattle.std.proofs.Common.{◌≡◌, ℤ, List, [], ◌∷◌, ◌++◌, Some, None, IfSome, FitsSigned, to_z, of_z, w64, rules, ap, subst, sym, ◌∙◌}
use Rattle.std.proofs.Math.Facts.{to_z-of_z}
use Rattle.raid_base.specs.declared.names.Item.{Item}
use Rattle.raid_base.specs.Names.{holds}
use Rattle.raid_program.specs.declared.program.Want.TheVariants.{Read}
use Rattle.raid_program.specs.Run.{Outcome, given, Agree}
use Rattle.raid_program.proofs.Asked.{end_told}
use Rattle.raid_program.proofs.Tables.{agree_more, on_table}
use Rattle.raid_seen.proofs.answers.finish.Goals as goal

pub returns-in_default : goal.returns-in_default
returns-in_default c =
    on_table c.args.program.now c.loop-item.run.reads _ _ c.next-want.ensures.outcome c.next-want.ensures.reads c.loop-item.invariant.agree (λ x e. absurd (c.in_default.not-Read x e))

pub returns-in_default-value_in : goal.returns-in_default-value_in
returns-in_default-value_in c =
    on_table c.args.program.now c.loop-item.run.reads _ _ c.in-Read.ensures.outcome c.in-Read.ensures.reads c.loop-item.invariant.agree
    (λ x e. let wish : Read c.in-Read.item ≡ Read x = e in let same : c.in-Read.item ≡ x = cc wish in subst (λ z. given c.args.answers.now z ≡ None) same (sym c.in_default-value_in.ensures))

pub loop-item-preserved : goal.loop-item-preserved
loop-item-preserved c =
    let x = c.in-Read.item in
    let before = c.loop-item.run.reads in
    let after = c.next-want.new.self.reads in
    let v = to_z w64 (of_z w64 c.in-Some.value) in
    let fits : FitsSigned w64 c.in-Some.value = search rules in
    let more : c.give.new.self.reads ≡ after ++ (x, v) ∷ [] = subst (λ o. IfSome o (λ y. c.give.new.self.reads ≡ after ++ (y, v) ∷ [])) c.in-Read.ensures.asked c.give.ensures.reads in
    let none = end_told c.args.program.now (given before) x (ap (λ (o : Outcome). o.end) c.in-Read.ensures.outcome) in
    let told = sym c.in-Some.ensures ∙ ap (λ z. Some z) (sym (to_z-of_z fits)) in
    record {
      of = c.give.ensures.of _ c.in-Read.ensures.of;
      agree = subst (λ (reads : List (Item × ℤ)). Agree (λ y. holds y reads) (given c.args.answers.now) (given reads)) (sym (more ∙ ap (λ z. z ++ (x, v) ∷ []) c.in-Read.ensures.reads))
          (agree_more before x v (given c.args.answers.now) c.loop-item.invariant.agree told none);
    }
