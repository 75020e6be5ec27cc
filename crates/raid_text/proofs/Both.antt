-- A text says one workload, or has one first fault.
use Rattle.std.proofs.Common.{◌≡◌, ℕ, List, Result, Ok, Err, refl, sym, ◌∙◌, ◌⊎◌, inl, inr}
use Rattle.raid_tokens.specs.declared.fault.Fault.{Fault}
use Rattle.raid_workload.specs.declared.workload.Workload.{Workload}
use Rattle.raid_text.specs.Said.{Said, said}
use Rattle.raid_text.specs.Outcome.{Refusal, Reads, IsFirstFault, outcome_of}
use Rattle.raid_text.proofs.Given.{made, same_workload, same_said}
use Rattle.raid_text.proofs.Leads.{reads_kept}

pub one_reading : (text : List ℕ) (v w : Workload) → Reads text v → Reads text w → v ≡ w
one_reading text v w a b = same_workload v w (same_said (said v) (said w) (sym a ∙ b))

either : (text : List ℕ) (r : Result Said Refusal) → outcome_of text ≡ r → ((w : Workload) × Reads text w) ⊎ ((line : ℕ) × (fault : Fault) × IsFirstFault text line fault)
either text (Ok p) e = inl (made p (reads_kept text p e), e)
either text (Err (line, fault)) e = inr (line, fault, e)

pub one_of_both : (text : List ℕ) → ((w : Workload) × Reads text w) ⊎ ((line : ℕ) × (fault : Fault) × IsFirstFault text line fault)
one_of_both text = either text (outcome_of text) refl

pub never_both : (text : List ℕ) (w : Workload) (line : ℕ) (fault : Fault) → Reads text w → IsFirstFault text line fault → ⊥
never_both text w line fault reads first = absurd cc
