-- What parse gives, from what the text comes to.
use Rattle.std.proofs.Common.{◌≡◌, ℕ, true, List, Result, Ok, Err, ap, ◌∙◌, sym, subst}
use Rattle.std.proofs.Math.Bool.{Bool-set}
use Rattle.std.specs.Prelude.{IfOk, IfErr}
use Rattle.raid_workload.specs.declared.workload.Workload.{Workload}
use Rattle.raid_text.specs.declared.error.Refused.{Refused}
use Rattle.raid_text.specs.declared.error.Refused.TheVariants as refusals
use Rattle.raid_text.specs.Said.{Said, said, are_kept}
use Rattle.raid_text.specs.Outcome.{Refusal, Reads, Answers, IsGiven, IsFirst, outcome_of}

-- the workload of parts that keep the rules
abbrev pub made : (p : Said) → are_kept p ≡ true → Workload
made p h = record { version = p.version; restarts = p.restarts; sites = p.sites; together = p.together; items = p.items; kind = p.kind; structure = p.structure; switches = p.switches; events = p.events; programs = p.programs; kept = h }

-- the rules are kept in one way only
same_made : (p : Said) (h k : are_kept p ≡ true) → made p h ≡ made p k
same_made p h k = ap (made p) (Bool-set (are_kept p) true h k)

made_again : (v : Workload) (p : Said) → said v ≡ p → (k : are_kept p ≡ true) → v ≡ made p k
made_again v p e = subst (λ (q : Said). (k : are_kept q ≡ true) → v ≡ made q k) e (λ k. same_made (said v) v.kept k)

-- so a workload is known by its parts
pub same_workload : (v w : Workload) → said v ≡ said w → v ≡ w
same_workload v w e = made_again v (said w) e w.kept

abbrev fine : Said → Result Said Refusal
fine p = Ok p

pub same_said : (p q : Said) → fine p ≡ fine q → p ≡ q
same_said p q e = cc

pub is_read : (text : List ℕ) (r : Result Workload Refused) → Answers r (outcome_of text) → IfOk r (λ w. Reads text w)
is_read text (Ok w) h = h
is_read text (Err e) h = tt

pub is_given : (text : List ℕ) (w : Workload) (r : Result Workload Refused) → Reads text w → Answers r (outcome_of text) → IsGiven w r
is_given text w (Ok v) e h = same_workload v w (same_said (said v) (said w) (sym h ∙ e))
is_given text w (Err refusals.NoMemory) e h = tt
is_given text w (Err (refusals.Text line fault)) e h = absurd cc

pub is_first : (text : List ℕ) (r : Result Workload Refused) → Answers r (outcome_of text) → IfErr r (IsFirst text)
is_first text (Ok w) h = tt
is_first text (Err refusals.NoMemory) h = tt
is_first text (Err (refusals.Text line fault)) h = h
