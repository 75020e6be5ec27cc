use Rattle.std.proofs.Common.{◌≡◌, ◌⊎◌, inl, inr, ℕ, [], ◌∷◌, ◌++◌, refl, arith}
use Rattle.raid_message.specs.declared.letter.Letter.{Letter}
use Rattle.raid_nodes.specs.Fits.{goes_fetched}
use Rattle.raid_nodes.proofs.Fetches.{took_none, fetched_more}
use Rattle.raid_nodes.proofs.Made.{made, made_all, missed_took, missed_none, missed_same, found_took, one_longer}
use Rattle.raid_nodes.proofs.turning.ServerNodeNode.turn.Goals as goal
use Rattle.raid_nodes.proofs.turning.ServerNodeNode.turn.Goals.{then-taken-most-via-then-taken-most, then-taken-most-via-else-taken-most+then-vain-eq-PATIENCE}

pub loop-look-init : goal.loop-look-init
loop-look-init g c = record {
  letters = [];
  so_many = refl;
  took = took_none _ _;
  small = omega arith;
  patient = omega arith;
  all_vain = λ q. refl;
  none = λ q h. absurd (omega (arith, h));
  at_first = λ q. record { same = λ k d low. refl };
  goes = c.requires.own;
}

pub returns-then-taken-most-clause-turns : goal.returns-then-taken-most-clause-turns
returns-then-taken-most-clause-turns g c =
    let i = c.loop-look.invariant in
    let test : (c.loop-look.taken ≡ c.args.most) ⊎ (c.loop-look.vain ≡ 100000) =
    elim c.then-taken-most.branch [ then-taken-most-via-then-taken-most w ↦ inl w.if-taken-most.true | then-taken-most-via-else-taken-most+then-vain-eq-PATIENCE w ↦ inr w.if-vain-eq-PATIENCE.true ] in
    (made_all _ _ i.letters _ _ c.args.most c.loop-look.vain i.so_many i.took test c.requires.some i.none, λ own. i.goes)

pub returns-then-rests-clause-turns : goal.returns-then-rests-clause-turns
returns-then-rests-clause-turns g c =
    let i = c.loop-look.invariant in
    let m = c.in_default.ensures.none in
    let s = c.rests.ensures in (
      made _ _ i.letters _ _ i.so_many (missed_took _ _ i.letters _ _ _ _ i.took m s) (λ q. missed_none _ _ i.letters _ _ i.took (i.at_first q) m),
      λ own. goes_fetched _ c.args.plan.now _ _ (fetched_more _ _ _ [] [] m.fetched s.fetched) i.goes,
    )

pub loop-look-preserved-in_default : goal.loop-look-preserved-in_default
loop-look-preserved-in_default g c =
    let i = c.loop-look.invariant in
    let m = c.in_default.ensures.none in
    let s = c.rests.ensures in
    record {
      letters = i.letters;
      so_many = i.so_many;
      took = missed_took _ _ i.letters _ _ _ _ i.took m s;
      small = i.small;
      patient = omega (arith, i.patient, c.if-vain-eq-PATIENCE.false);
      all_vain = λ q. let e = i.all_vain q in omega (arith, e);
      none = λ q h. missed_none _ _ i.letters _ _ i.took (i.at_first q) m;
      at_first = λ q. missed_same _ _ i.letters _ _ _ _ i.took (i.at_first q) m s;
      goes = goes_fetched _ c.args.plan.now _ _ (fetched_more _ _ _ [] [] m.fetched s.fetched) i.goes;
    }

pub loop-look-preserved : goal.loop-look-preserved
loop-look-preserved g c =
    let i = c.loop-look.invariant in
    let l : ℕ × Letter = (c.in-Some.from, c.in-Some.letter) in
    record {
      letters = i.letters ++ l ∷ [];
      so_many = one_longer i.letters l _ i.so_many;
      took = found_took _ _ i.letters _ _ _ l i.took c.in-Some.ensures.some c.in_ok-hear.ensures.heard;
      small = omega (arith, i.small, c.if-taken-most.false);
      patient = omega arith;
      all_vain = λ q. absurd (omega (arith, q));
      none = λ q h. absurd (omega (arith, q));
      at_first = λ q. absurd (omega (arith, q));
      goes = c.in_ok-hear.ensures.goes;
    }
