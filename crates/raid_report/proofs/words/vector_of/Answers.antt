use Rattle.std.proofs.Common.{◌≡◌, ◌∷◌, ◌++◌, ◌<◌, ◌+◌, [], length, take, sym, ◌∙◌, arith, add-one}
use Rattle.std.proofs.Math.ListN.{set, length-set}
use Rattle.std.proofs.Math.Seq.{take-suc-set}
use Rattle.std.proofs.lemmas.List.{drop-set-lt}
use Rattle.raid_pieces.specs.Pieces.{pieces_behind}
use Rattle.raid_report.specs.Forms.{all_sessions}
use Rattle.raid_report.proofs.Loops.{prefixed_more, zeros_more}
use Rattle.raid_report.proofs.words.vector_of.Goals as goal

pub loop-part-preserved : goal.loop-part-preserved
unfolding all_sessions
loop-part-preserved c =
    let sessions = c.loop-part.sessions in
    let count = c.loop-part.count in
    let session = c.in_ok-sessions-2.field-0 in
    let less : count < c.sites-sites.result = grind arith in
    let within : count < length sessions = omega (arith, c.loop-part.invariant.long, c.sites-sites.ensures.few) in
    let read = rw (c.in-Some.ensures.piece) at c.loop-part.invariant.read in
    let next = rw (c.in_ok-sessions-2.ensures) at read in
    let put : take (count + 1) (set sessions count session) ≡ take count sessions ++ session ∷ [] = rw (add-one count) (take-suc-set sessions count session within) in
    record {
      some = omega arith;
      few = omega arith;
      long = length-set sessions count session ∙ c.loop-part.invariant.long;
      zeros = drop-set-lt (count + 1) sessions count session (omega arith) ∙ zeros_more sessions count 8 (omega (arith, c.sites-sites.ensures.few)) c.loop-part.invariant.zeros;
      read = rw put (sym (prefixed_more (take count sessions) session (all_sessions (pieces_behind 44 c.in-Some.after.now))) ∙ next);
    }
