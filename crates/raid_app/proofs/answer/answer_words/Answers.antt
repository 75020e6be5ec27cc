use Rattle.std.proofs.Common.{Some, ap, ◌∙◌, subst, sym, refl}
use Rattle.raid_app.specs.Asked.{Asked, ran, judged, advised, no_memory}
use Rattle.raid_app.proofs.Counts.{count_in_range}
use Rattle.raid_app.proofs.Sayings.{settled_made, settled_usage}
use Rattle.raid_app.proofs.answer.answer_words.Goals as goal

pub answer_make-requires-clause-some : goal.answer_make-requires-clause-some
answer_make-requires-clause-some g c =
    let m = c.in-Ok-Some-Make in
    (count_in_range c.args.words.now m.seed m.count (sym m.ensures ∙ m.field-0-is ∙ ap Some m.field-0-0-is)).some

pub answer_make-requires-clause-few : goal.answer_make-requires-clause-few
answer_make-requires-clause-few g c =
    let m = c.in-Ok-Some-Make in
    (count_in_range c.args.words.now m.seed m.count (sym m.ensures ∙ m.field-0-is ∙ ap Some m.field-0-0-is)).few

pub returns-in-Ok-Some-Run : goal.returns-in-Ok-Some-Run
returns-in-Ok-Some-Run g c =
    let r = c.in-Ok-Some-Run in
    ran r.brief c.answer_source.result (sym r.ensures ∙ r.field-0-is ∙ ap Some r.field-0-0-is) c.answer_source.ensures

pub returns-in-Ok-Some-Make : goal.returns-in-Ok-Some-Make
returns-in-Ok-Some-Make g c =
    let m = c.in-Ok-Some-Make in
    settled_made c.args.words.now _ m.seed m.count c.answer_make.result c.settled.result (sym m.ensures ∙ m.field-0-is ∙ ap Some m.field-0-0-is) refl c.answer_make.ensures c.settled.ensures.found c.settled.ensures.refused

pub returns-in-Ok-Some-Check : goal.returns-in-Ok-Some-Check
returns-in-Ok-Some-Check g c =
    let k = c.in-Ok-Some-Check in
    judged c.answer_judged.result (sym k.ensures ∙ k.field-0-is ∙ ap Some k.field-0-0-is) c.answer_judged.ensures

pub returns-in-Ok-Some-Advise : goal.returns-in-Ok-Some-Advise
returns-in-Ok-Some-Advise g c =
    let a = c.in-Ok-Some-Advise in
    advised a.last c.answer_judged-in-Ok-Some-Advise.result (sym a.ensures ∙ a.field-0-is ∙ ap Some a.field-0-0-is) c.answer_judged-in-Ok-Some-Advise.ensures

pub returns-in-Ok-None : goal.returns-in-Ok-None
returns-in-Ok-None g c =
    let n = c.in-Ok-None in
    settled_usage c.args.words.now _ c.usage.result c.settled-in-Ok-None.result (sym n.ensures ∙ n.field-0-is) refl c.usage.ensures c.settled-in-Ok-None.ensures.found c.settled-in-Ok-None.ensures.refused

pub returns-in-Err : goal.returns-in-Err
returns-in-Err g c = subst (Asked c.args.words.now _) (sym c.silent.ensures) (no_memory refl)
