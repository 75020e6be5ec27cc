use Rattle.std.proofs.Common.{List, ap, sym, ◌∙◌, arith}
use Rattle.std.specs.List.{list_all}
use Rattle.raid_base.specs.declared.names.Site.{Site}
use Rattle.raid_session.specs.Agreed.{is_same}
use Rattle.raid_session.proofs.Searched.{all_from, one_fails, first_of_both, fails_of_both, never_both}
use Rattle.raid_session.proofs.sessions.agrees.Goals as goal

pub loop-number-init : goal.loop-number-init
loop-number-init c = record {
  least = omega arith;
  rest = ap (λ (ss : List Site). list_all (is_same c.args.request c.args.present) ss) (sym c.ascends.ensures);
}

pub returns-then-differs : goal.returns-then-differs
returns-then-differs c =
    let both = sym c.differs.ensures ∙ c.if-differs.true in
    sym (c.loop-number.invariant.rest
    ∙ one_fails c.args.holders (is_same c.args.request c.args.present) c.loop-number.number c.loop-number.invariant.least c.loop-number-test.true (first_of_both _ _ both) (fails_of_both _ _ both))

pub loop-number-preserved : goal.loop-number-preserved
loop-number-preserved c = record {
  least = omega arith;
  rest =
      c.loop-number.invariant.rest
      ∙ all_from c.args.holders (is_same c.args.request c.args.present) c.loop-number.number c.loop-number.invariant.least c.loop-number-test.true (never_both _ _ (sym c.differs.ensures ∙ c.if-differs.false));
}
