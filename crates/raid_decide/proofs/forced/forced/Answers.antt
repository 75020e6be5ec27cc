use Rattle.std.proofs.Common.{[], ◌∷◌, sym, ◌∙◌}
use Rattle.raid_workload.specs.Parts.{placement}
use Rattle.raid_rules.specs.History.{noted}
use Rattle.raid_legal.specs.InForce.{in_force}
use Rattle.raid_legal.specs.Forced.{home_down, switch_off, switch_end, switch_on, woken}
use Rattle.raid_decide.proofs.Answered.{if_ok}
use Rattle.raid_decide.proofs.First.{comes_before, comes_last}
use Rattle.raid_decide.proofs.forced.forced.Goals as goal

pub returns-then-is_some-clause-answer : goal.returns-then-is_some-clause-answer
returns-then-is_some-clause-answer g c =
    let s = c.requires.stand in
    let w = c.args.workload.now in
    let p = noted c.args.history.now in
    let f = in_force w p in
    comes_before (home_down w p ∷ switch_off p f ∷ switch_end w p f ∷ switch_on w p f ∷ []) (woken w p) c.forced_first-first.result (sym c.is_some.ensures ∙ c.if-is_some.true)
    (c.forced_first-first.ensures.answer s.asked (c.vector.ensures w.sites (placement w) p s.locked) c.requires.switches)

pub returns-clause-answer : goal.returns-clause-answer
returns-clause-answer g c =
    let w = c.args.workload.now in
    let p = noted c.args.history.now in
    let f = in_force w p in
    let s = c.requires.stand in
    if_ok c.woken.result
    (λ e h.
    comes_last (home_down w p ∷ switch_off p f ∷ switch_end w p f ∷ switch_on w p f ∷ []) (woken w p) c.forced_first-first.result e (sym c.is_some.ensures ∙ c.if-is_some.false)
    (c.forced_first-first.ensures.answer s.asked (c.vector.ensures w.sites (placement w) p s.locked) c.requires.switches)
    h)
    c.woken.ensures.answer
