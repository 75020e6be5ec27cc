-- What a site does, by the sender's number.
use Rattle.std.proofs.Common.{◌≡◌, ℕ, zero, suc, ◌+◌, ◌-◌, ◌≤◌, ◌==◌, if◌then◌else◌, arith, ap, ◌∙◌}
use Rattle.raid_base.specs.Sites.{site}
use Rattle.raid_workload.specs.declared.workload.Workload.{Workload}
use Rattle.raid_message.specs.declared.letter.Letter.{Letter}
use Rattle.raid_steps.specs.State.{SiteState, opened}
use Rattle.raid_steps.specs.Site.{hear_up, hear_sequencer, hear_peer, refuse, stop}

pub of_site : (w : Workload) (state : SiteState) (from : ℕ) (l : Letter) → 2 ≤ from →
    hear_up w state from l ≡ (if l.to == state.session then hear_peer w state (site (from - 1)) l else refuse state from l l.message)
of_site w state zero l least = absurd (omega (arith, least))
of_site w state (suc zero) l least = absurd (omega (arith, least))
of_site w state (suc (suc k)) l least =
    let one : k + 1 ≡ suc (suc k) - 1 = omega arith in
    let two : k + 2 ≡ suc (suc k) = omega arith in
    ap (λ n. if l.to == state.session then hear_peer w state (site n) l else refuse state (k + 2) l l.message) one
    ∙ ap (λ n. if l.to == state.session then hear_peer w state (site (suc (suc k) - 1)) l else refuse state n l l.message) two

pub of_sequencer : (w : Workload) (state : SiteState) (from : ℕ) (l : Letter) → from ≡ 1 → hear_up w state from l ≡ (if l.to == state.session then hear_sequencer w state l else opened state)
of_sequencer w state from l is = ap (λ n. hear_up w state n l) is

pub of_monitor : (w : Workload) (state : SiteState) (from : ℕ) (l : Letter) → from ≡ 0 → hear_up w state from l ≡ stop w state l.message
of_monitor w state from l is = ap (λ n. hear_up w state n l) is
