-- Windows of a history, and the advice from what was counted.
use Rattle.std.proofs.Common.{◌≡◌, ℕ, ◌≤◌, List, [], ◌∷◌, length, Option, refl, subst, ap, arith, ◌∙◌}
use Rattle.std.proofs.lemmas.Bool.{le-leb, le-ltb, ne_eqb}
use Rattle.raid_base.specs.declared.entry.Entry.{Entry}
use Rattle.raid_base.specs.declared.verdict.Kind.{Kind}
use Rattle.raid_workload.specs.declared.workload.Workload.{Workload}
use Rattle.raid_advise.specs.declared.advice.Advice.{Advice}
use Rattle.raid_advise.specs.Advice.{ends, window, came_on, latest_kind, commits, costs, better, advice_to, advice}

-- entries with no more ends are their own window
pub window_whole : (last : ℕ) (es : List Entry) → ends es ≤ last → window last es ≡ es
window_whole last [] few = refl
window_whole last (e ∷ es) few = rw (le-leb (ends (e ∷ es)) last few) refl

-- the advice where one may be given, from what was counted
pub advice_gives : (w : Workload) (h : List Entry) (last : ℕ) (es : List Entry) (n many came : ℕ) (kind : Kind) (seen : List Entry) (done cost : ℕ) (to : Option Kind) (told : Advice) →
    (n ≡ 64 → ⊥) → n ≤ came → n ≡ length w.switches → es ≡ h → many ≡ ends es → came ≡ came_on es → kind ≡ latest_kind w.kind es → seen ≡ window last h → done ≡ commits seen → cost ≡ costs kind seen →
    to ≡ better kind done cost → told ≡ advice_to w many to → told ≡ advice w h last
advice_gives w h last es n many came kind seen done cost to told full on size same m c k s d x t a =
    let room : (length w.switches ≡ 64 → ⊥) = subst (λ z. z ≡ 64 → ⊥) size full in
    let all : length w.switches ≤ came_on h = omega (arith, on, size, c ∙ ap came_on same) in
    rw (a, t, x, d, s, k, m, same, ne_eqb _ _ room, le-ltb (came_on h) (length w.switches) all) refl
