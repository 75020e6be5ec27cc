-- What a letter makes of the state, told of the record as of the state.
use Rattle.std.proofs.Common.{◌≡◌, ℕ, zero, suc, ◌+◌, ◌-◌, ◌≤◌, Bool, true, false, List, [], if◌then◌else◌, arith, subst, sym, ap, ◌∙◌}
use Rattle.raid_base.specs.declared.entry.Entry.{Entry}
use Rattle.raid_base.specs.Sites.{site}
use Rattle.raid_workload.specs.declared.workload.Workload.{Workload}
use Rattle.raid_rules.specs.History.{noted, ends}
use Rattle.raid_message.specs.declared.letter.Letter.{Letter}
use Rattle.raid_steps.specs.State.{Out, Turn, Sequencer, opened}
use Rattle.raid_steps.specs.Sequencer.{settle, send_copies, send_ends, finish, hear_down, hear_of_site, hear_sequencer}
use Rattle.raid_record.specs.declared.records.Record.{Record}
use Rattle.raid_record.specs.Tells.{Tells, IsOf, Turns}
use Rattle.raid_sequencer.proofs.Answering.{if_true, if_false}

-- a row, and what follows it
pub finished : (w : Workload) (before mid after : Record) (none sent all : List Out) (s : Sequencer) (count : ℕ) (row : Turn Sequencer → Turn Sequencer) → none ≡ [] → count ≡ ends (noted before.history) → Tells w before s →
    Turns w before none mid sent row → Turns w mid sent after all (λ turn. send_ends count (send_copies w (settle w turn))) → IsOf w after all (finish w s (row (opened s)))
finished w before mid after none sent all s count row empty is told first last =
    subst (λ (n : ℕ). IsOf w after all (send_ends n (send_copies w (settle w (row (opened s))))))
    (is ∙ ap (λ (h : List Entry). ends (noted h)) told.history)
    (last (row (opened s)) (first (opened s) (record { state = told; outs = empty })))

-- nothing is done
pub dropped : (w : Workload) (r : Record) (none : List Out) (s : Sequencer) → none ≡ [] → Tells w r s → IsOf w r none (opened s)
dropped w r none s empty told = record { state = told; outs = empty }

-- what is done where the test of the history passes, and where it doesn't
pub heard_where : (w : Workload) (r after : Record) (all : List Out) (s : Sequencer) (test : List Entry → Bool) (x : Turn Sequencer) → Tells w r s → test r.history ≡ true → IsOf w after all x →
    IsOf w after all (if test s.history then x else opened s)
heard_where w r after all s test x told q o = subst (IsOf w after all) (sym (if_true (test s.history) x (opened s) (subst (λ (h : List Entry). test h ≡ true) told.history q))) o

pub dropped_where : (w : Workload) (r : Record) (none : List Out) (s : Sequencer) (test : List Entry → Bool) (x : Turn Sequencer) → none ≡ [] → Tells w r s → test r.history ≡ false →
    IsOf w r none (if test s.history then x else opened s)
dropped_where w r none s test x empty told q = subst (IsOf w r none) (sym (if_false (test s.history) x (opened s) (subst (λ (h : List Entry). test h ≡ false) told.history q))) (dropped w r none s empty told)

-- by the sender's number
pub of_monitor : (w : Workload) (s : Sequencer) (from : ℕ) (l : Letter) → from ≡ 0 → hear_sequencer w s from l ≡ hear_down w s l.message
of_monitor w s from l is = ap (λ n. hear_sequencer w s n l) is

pub of_itself : (w : Workload) (s : Sequencer) (from : ℕ) (l : Letter) → from ≡ 1 → hear_sequencer w s from l ≡ opened s
of_itself w s from l is = ap (λ n. hear_sequencer w s n l) is

pub of_site : (w : Workload) (s : Sequencer) (from : ℕ) (l : Letter) → 2 ≤ from → hear_sequencer w s from l ≡ hear_of_site w s (site (from - 1)) l
of_site w s zero l least = absurd (omega (arith, least))
of_site w s (suc zero) l least = absurd (omega (arith, least))
of_site w s (suc (suc k)) l least =
    let one : k + 1 ≡ suc (suc k) - 1 = omega arith in
    ap (λ n. hear_of_site w s (site n) l) one
