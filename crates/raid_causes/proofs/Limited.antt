-- A clock that is below the limit in the end never came to it.
use Rattle.std.proofs.Common.{◌≡◌, ℕ, ◌+◌, ◌<◌, ◌≤◌, [], ◌∷◌, fold, arith, ap, subst, ◌∙◌, refl}
use Rattle.std.specs.Prelude.{max, min}
use Rattle.raid_workload.specs.declared.workload.Workload.{Workload}
use Rattle.raid_message.specs.declared.letter.Letter.{Letter}
use Rattle.raid_causes.specs.Histories.{History, Alone, hearing_at, hearing}
use Rattle.raid_causes.specs.Limited.{hearing_within}

module _ (w : Workload) (limit server : ℕ) where
  abbrev next : Alone → ℕ × Letter → ℕ
  next a h = min (1 + max a.clock h.1.clock) limit

  -- clocks do not fall
  grows : (hs : History) (a : Alone) → a.clock ≤ limit → a.clock ≤ (fold (hearing_within w limit server) a hs).clock
  grows [] a h = omega arith
  grows (x ∷ hs) a h =
      let later : next a x ≤ (fold (hearing_within w limit server) (hearing_within w limit server a x) hs).clock = grows hs (hearing_within w limit server a x) (omega arith) in
      omega (arith, h, later)

  pub exact : (hs : History) (a : Alone) → (fold (hearing_within w limit server) a hs).clock < limit → fold (hearing_within w limit server) a hs ≡ fold (hearing w server) a hs
  exact [] a below = refl
  exact (x ∷ hs) a below =
      let later : next a x ≤ (fold (hearing_within w limit server) (hearing_within w limit server a x) hs).clock = grows hs (hearing_within w limit server a x) (omega arith) in
      let is : next a x ≡ 1 + max a.clock x.1.clock = omega (arith, below, later) in
      let same : hearing_within w limit server a x ≡ hearing w server a x = ap (λ c. hearing_at w server c a x) is in
      ap (λ b. fold (hearing_within w limit server) b hs) same
      ∙ exact hs (hearing w server a x) (subst (λ b. (fold (hearing_within w limit server) b hs).clock < limit) same below)
