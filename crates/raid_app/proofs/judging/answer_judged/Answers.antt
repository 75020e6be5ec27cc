use Rattle.std.proofs.Common.{◌<◌, ◌+◌, length, ap, ◌∙◌, Err, subst, sym, arith}
use Rattle.raid_app.specs.Answer.{OfText, HasRead, unread, no_memory}
use Rattle.raid_app.specs.Judged.{JudgesInput, most}
use Rattle.raid_app.specs.Wanted.{told_of}
use Rattle.raid_app.proofs.Sayings.{settled_read, where_failed}
use Rattle.raid_app.proofs.judging.answer_judged.Goals as goal

pub returns-in-Ok : goal.returns-in-Ok
returns-in-Ok g c =
    let r = c.in-Ok.ensures in
    let took : HasRead most (g.S.Source.left c.args.source.now) (g.S.Source.left c.read_up_to.new.source) c.in-Ok.input.items = record {
      took = r.bytes;
      bound = r.bound;
      whole = λ short. r.end (let h : length c.in-Ok.input.items < most + 1 = omega (arith, short) in h);
    } in
    settled_read most (JudgesInput (told_of c.args.wanted)) _ c.as_slice.result.now c.answer_input.result c.settled.result (subst (HasRead most _ _) (sym c.as_slice.ensures.value) took) c.answer_input.ensures c.settled.ensures.found c.settled.ensures.refused

pub returns-in-Err-Failed : goal.returns-in-Err-Failed
returns-in-Err-Failed g c =
    subst (OfText most (JudgesInput (told_of c.args.wanted)) _) (sym c.silent.ensures)
    (unread (where_failed c.read_up_to.result (c.in-Err-Failed.is ∙ ap Err c.in-Err-Failed.field-0-is) c.read_up_to.ensures.failed))

pub returns : goal.returns
returns g c = subst (OfText most (JudgesInput (told_of c.args.wanted)) _) (sym c.silent-in-Err-NoMemory.ensures) no_memory
