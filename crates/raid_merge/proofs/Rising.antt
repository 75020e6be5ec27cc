-- A journal's clocks, step by step.
use Rattle.std.proofs.Common.{◌≡◌, ℕ, ◌+◌, ◌-◌, ◌<◌, List, length, get_or, inl, inr, ap, ◌∙◌, arith}
use Rattle.std.proofs.lemmas.Bool.{cases_eq}
use Rattle.std.proofs.lemmas.List.{get_or_default}
use Rattle.raid_message.specs.declared.letter.Step.{Step}

-- the clocks of the first k steps rise
abbrev pub RisesTo : ℕ → List Step → Type 0
RisesTo k xs = (i j : ℕ) (d : Step) → i < j → j < k → j < length xs → (get_or xs i d).clock < (get_or xs j d).clock

pub rises_more : (xs : List Step) (k : ℕ) (e : Step) → k < length xs → (get_or xs (k - 1) e).clock < (get_or xs k e).clock → RisesTo k xs → RisesTo (k + 1) xs
rises_more xs k e below lt h =
    λ i j d before within there. elim (cases_eq j k) [
      | inr other ↦ h i j d before (omega (arith, other)) there
      | inl same ↦
          let last : (get_or xs (k - 1) d).clock ≡ (get_or xs (k - 1) e).clock = ap (λ s. s.clock) (get_or_default xs (k - 1) d e (omega arith)) in
          let this : (get_or xs j d).clock ≡ (get_or xs k e).clock = ap (λ n. (get_or xs n d).clock) same ∙ ap (λ s. s.clock) (get_or_default xs k d e below) in
          elim (cases_eq i (k - 1)) [
            | inl next ↦ let first : (get_or xs i d).clock ≡ (get_or xs (k - 1) d).clock = ap (λ n. (get_or xs n d).clock) next in omega arith
            | inr further ↦ let up : (get_or xs i d).clock < (get_or xs (k - 1) d).clock = h i (k - 1) d (omega (arith, further)) (omega arith) (omega arith) in omega arith
          ]
    ]
