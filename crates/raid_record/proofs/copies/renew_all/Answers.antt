use Rattle.std.proofs.Common.{◌≡◌, ◌+◌, ◌++◌, arith, ap, sym, ◌∙◌}
use Rattle.std.specs.Prelude.{flat_map}
use Rattle.raid_base.specs.Sites.{site}
use Rattle.raid_workload.specs.Parts.{placement}
use Rattle.raid_record.proofs.Rules.{few_sites}
use Rattle.raid_record.proofs.Sites.{sites_to, made_more}
use Rattle.raid_record.proofs.Renewed.{due_at, all_due, asked_none, asked_more, asked_for, next_site}
use Rattle.raid_record.proofs.copies.renew_all.Goals as goal

pub loop-k-init : goal.loop-k-init
loop-k-init c = λ p out locks stands. asked_none c.args.vector c.args.copiers.now c.args.outs.now out stands

pub loop-k-preserved : goal.loop-k-preserved
loop-k-preserved c = λ p out locks stands.
    let w = c.args.workload.now in
    let v = c.args.vector in
    let k = c.loop-k.k in
    let asked = c.loop-k.invariant p out locks stands in
    asked_for _ _ _ _ _ _ _ (sym (made_more (due_at w p v out) k))
    (asked_more _ _ _ _ _ _ _ _ _ asked (c.in_ok-renew_up.ensures p out (out ++ flat_map (due_at w p v out) (sites_to k)) locks (c.locked_sites-locked.ensures w.sites (placement w) p locks (site (k + 1)) (omega arith) (omega (arith, few_sites w, c.loop-k-test.true))) asked.copying (next_site w p v out k)))

pub returns : goal.returns
returns c = λ p out locks stands is.
    let w = c.args.workload.now in
    let v = c.args.vector in
    let all : c.loop-k.k ≡ w.sites = omega (arith, c.loop-k-test.false, c.loop-k.auto.k-end) in
    asked_for _ _ _ _ _ _ _ (ap (λ k. flat_map (due_at w p v out) (sites_to k)) all ∙ all_due w p v out is) (c.loop-k.invariant p out locks stands)
