use Rattle.std.proofs.Common.{◌≡◌, ◌-◌, ◌<◌, ◌==◌, ℕ, List, get_or, slice_set, if◌then◌else◌, arith, ap, sym, subst, ◌∙◌, length}
use Rattle.std.proofs.lemmas.Grind.{common_steps}
use Rattle.raid_base.specs.declared.names.Site.{Site}
use Rattle.raid_base.specs.declared.entry.Entry.TheVariants.{Begin}
use Rattle.raid_workload.specs.Parts.{home}
use Rattle.raid_rules.specs.History.{noted, add}
use Rattle.raid_record.specs.Keeps.{next_past, AreNext}
use Rattle.raid_record.proofs.First.{same_default}
use Rattle.raid_record.proofs.Rules.{home_among}
use Rattle.raid_record.proofs.Next.{next_set}
use Rattle.raid_record.proofs.homes.Nexts.begin.Goals as goal

pub overflow_sub-place : goal.overflow_sub-place
overflow_sub-place c = omega (arith, (home_among c.args.workload.now c.args.txn c.requires).least, ap (λ (s : Site). s.0) c.home-home.ensures)

pub index-requires : goal.index-requires
index-requires c = grind (arith, common_steps, (home_among c.args.workload.now c.args.txn c.requires).most, ap (λ (s : Site). s.0) c.home-home.ensures, c.self.invariant, c.self.view_is)

pub index_mut-requires : goal.index_mut-requires
index_mut-requires c = grind (arith, common_steps, (home_among c.args.workload.now c.args.txn c.requires).most, ap (λ (s : Site). s.0) c.home-home.ensures, c.self.invariant, c.self.view_is)

pub returns : goal.returns
returns c = λ h next.
    let w = c.args.workload.now in
    let p = noted c.args.history.now in
    let t = c.args.txn in
    let numbers = c.self.inside.numbers.items in
    let x = c.following.result in
    let k = c.home-home.result.0 - 1 in
    let size : length numbers ≡ 8 = c.self.invariant in
    let there : k < length numbers = omega (arith, size, (home_among w t c.requires).most, (home_among w t c.requires).least, ap (λ (s : Site). s.0) c.home-home.ensures) in
    let was : AreNext w numbers p = subst (λ (ns : List ℕ). AreNext w ns p) (sym c.self.view_is) next in
    let at : c.index.result.now ≡ get_or numbers k 0 = c.index.ensures ∙ same_default numbers k _ 0 there in
    let is : x ≡ (if get_or numbers k 0 == t.0 then next_past w p c.home-home.result t.0 else get_or numbers k 0) =
    c.following.ensures ∙ ap (λ (n : ℕ). if n == t.0 then next_past w p c.home-home.result t.0 else n) at in
    let same : x ≡ (if get_or numbers ((home w t).0 - 1) 0 == t.0 then next_past w p (home w t) t.0 else get_or numbers ((home w t).0 - 1) 0) =
    is ∙ ap (λ (s : Site). if get_or numbers (s.0 - 1) 0 == t.0 then next_past w p s t.0 else get_or numbers (s.0 - 1) 0) c.home-home.ensures in
    subst (λ (z : Site). AreNext w (slice_set numbers (z.0 - 1) x) (add p (Begin t h))) (sym c.home-home.ensures) (next_set w p numbers t h x 0 size c.requires same was)
