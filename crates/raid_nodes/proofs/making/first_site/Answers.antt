use Rattle.std.proofs.Common.{◌≡◌, ℕ, zero, suc, ◌+◌, ◌<◌, map, Some, arith, ap, sym, ◌∙◌}
use Rattle.std.specs.Prelude.{slice_get}
use Rattle.raid_base.specs.declared.names.Site.{Site}
use Rattle.raid_base.specs.Sites.{site}
use Rattle.raid_workload.specs.Parts.{count_from}
use Rattle.raid_steps.specs.World.{first_site}
use Rattle.raid_nodes.proofs.making.first_site.Goals as goal

got : {X : Type 0} (f : Site → X) (a n k : ℕ) → k < n → slice_get (map f (map site (count_from a n))) k ≡ Some (f (site (a + k)))
got f a zero k low = absurd (omega (arith, low))
got f a (suc n) zero low = let e : a ≡ a + 0 = omega arith in ap (λ i. Some (f (site i))) e
got f a (suc n) (suc k) low = got f (a + 1) n k (omega (arith, low)) ∙ (let e : a + 1 + k ≡ a + suc k = omega arith in ap (λ i. Some (f (site i))) e)

pub returns : goal.returns
returns g c =
    let w = c.args.workload.now in
    let k = c.args.k in
    let new = c.in_ok-site.ensures in
    let number : c.args.k + 2 ≡ suc (suc c.args.k) = omega arith in
    let order : 1 + c.args.k ≡ c.args.k + 1 = omega arith in
    record {
      goes = (new.run, new.live);
      is = (k, number, got (first_site w) 1 w.sites k c.requires ∙ ap (λ n. Some (first_site w (site n))) order ∙ ap Some (sym new.state));
      none = new.heard;
    }
