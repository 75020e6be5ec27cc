-- Reading in a loop: what was read so far, in front of what is left to read.
use Rattle.std.proofs.Common.{◌≡◌, ℕ, suc, ◌+◌, ◌-◌, ◌<◌, ◌≤◌, true, List, [], ◌∷◌, ◌++◌, Option, Some, None, refl, sym, ap, ◌∙◌, append_assoc, subst, drop, replicate, arith}
use Rattle.std.specs.Prelude.{nat_lt}
use Rattle.std.specs.List.{AllByRecursion}
use Rattle.std.proofs.lemmas.Bool.{lt-ltb, ltb-true}
use Rattle.std.proofs.lemmas.List.{drop-drop}
use Rattle.raid_base.specs.declared.names.Site.{Site}
use Rattle.raid_workload.specs.declared.workload.Workload.{Workload}
use Rattle.raid_pieces.specs.Reading.{◌>>=◌}
use Rattle.raid_report.specs.Forms.{site_of, site_above}
use Rattle.raid_report.proofs.Bind.{bind_some, test_some, some_is}

-- the elements in front of those that were read
abbrev pub prefixed : {X : Type 0} → List X → Option (List X) → Option (List X)
prefixed before None = None
prefixed before (Some more) = Some (before ++ more)

-- none of the sites is above the number
abbrev pub IsBelow : ℕ → List Site → Type 0
IsBelow most sites = AllByRecursion (λ (s : Site). s.0 ≤ most) sites

-- an element that was read moves in front
pub prefixed_more : {X : Type 0} (before : List X) (x : X) (o : Option (List X)) → prefixed before (o >>= λ xs. Some (x ∷ xs)) ≡ prefixed (before ++ x ∷ []) o
prefixed_more before x None = refl
prefixed_more before x (Some xs) = simp append_assoc

-- one element alone in front
pub prefixed_one : {X : Type 0} (x : X) (o : Option (List X)) → prefixed (x ∷ []) o ≡ (o >>= λ xs. Some (x ∷ xs))
prefixed_one x None = refl
prefixed_one x (Some xs) = refl

pub below_pushed : (least most : ℕ) (ss : List Site) (s : Site) → IsBelow least ss → least < most → s.0 ≡ most → IsBelow most (ss ++ s ∷ [])
below_pushed least most [] s h less is = (omega (arith, is), tt)
below_pushed least most (r ∷ ss) s h less is = (omega (arith, h.0), below_pushed least most ss s h.1 less is)

-- zeros behind the first so many numbers
pub zeros_more : (xs : List ℕ) (c n : ℕ) → c < n → drop c xs ≡ replicate (n - c) 0 → drop (c + 1) xs ≡ replicate (n - (c + 1)) 0
zeros_more xs c n less e =
    let one : n - c ≡ suc (n - (c + 1)) = omega arith in
    sym (drop-drop 1 c xs) ∙ ap (λ (ys : List ℕ). drop 1 ys) e ∙ rw one refl

-- a site above the number 0
pub first_above : (w : Workload) (part : List ℕ) (s : Site) → site_of w part ≡ Some s → 1 ≤ s.0 → site_above w 0 part ≡ Some s
first_above w part s e some = let up : nat_lt 0 s.0 ≡ true = lt-ltb 0 s.0 some in rw e (rw up refl)

pub above_more : (w : Workload) (least : ℕ) (part : List ℕ) (s : Site) → site_above w least part ≡ Some s → least < s.0
above_more w least part s e =
    let a = bind_some (site_of w part) _ s e in
    let b = test_some (nat_lt least a.0.0) (Some a.0) s a.2 in
    subst (λ (r : Site). least < r.0) (some_is a.0 s b.1) (ltb-true least a.0.0 b.0)
