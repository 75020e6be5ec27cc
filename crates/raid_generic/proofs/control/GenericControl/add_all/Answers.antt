use Rattle.std.proofs.Common.{◌≡◌, [], ◌∷◌, ◌++◌, ◌∙◌, take, get_or, sym, subst}
use Rattle.std.proofs.lemmas.List.{take_more}
use Rattle.raid_base.specs.declared.entry.Noted.{Noted}
use Rattle.raid_conflict.specs.Listed.{Extends}
use Rattle.raid_generic.specs.Known.{Known}
use Rattle.raid_graph.proofs.Carries.{carry_extends}
use Rattle.raid_generic.proofs.control.GenericControl.add_all.Goals as goal

pub loop-noted-preserved : goal.loop-noted-preserved
loop-noted-preserved c = record {
  kind = c.in_ok-add.ensures.kind ∙ c.loop-noted.invariant.kind;
  added = λ known carry.
      let before = take c.loop-noted.noted-index c.args.entries.now in
      let n : Noted = c.noted-item.result in
      let is : get_or c.args.entries.now c.loop-noted.noted-index n ≡ n = sym c.noted-item.is in
      let extends : Extends before n = subst (λ m. Extends before m) is (carry_extends c.args.entries.now c.loop-noted.noted-index n c.loop-noted-test.true carry) in
      subst (λ z. Known c.add.new.self z) (sym (take_more c.args.entries.now c.loop-noted.noted-index n c.loop-noted-test.true))
      (subst (λ m. Known c.add.new.self (before ++ m ∷ [])) (sym is) (c.in_ok-add.ensures.ok before (c.loop-noted.invariant.added known carry) extends));
}
