-- Which switch the end of a history speaks for.
use Rattle.std.specs.Prelude.{◌≡◌, ℕ, ◌*◌, ◌==◌, min, max, nat_lt, nat_le, Bool, true, false, ◌&&◌, ◌||◌, List, [], ◌∷◌, length, fold, count_by, Option, Some, None, if◌then◌else◌}
use Rattle.raid_base.specs.declared.entry.Entry.{Entry}
use Rattle.raid_base.specs.declared.entry.Entry.TheVariants.{Wait, Abort, SwitchOn}
use Rattle.raid_base.specs.declared.entry.Cause.{Cause}
use Rattle.raid_base.specs.declared.entry.Cause.TheVariants.{Late, Invalid, Cycle, Deadlock}
use Rattle.raid_base.specs.declared.verdict.Kind.{Kind}
use Rattle.raid_base.specs.declared.verdict.Kind.TheVariants.{Lock, Stamp, Valid, Graph}
use Rattle.raid_base.specs.declared.verdict.Method.{Method}
use Rattle.raid_base.specs.declared.verdict.Method.TheVariants.{Generic, Suffix}
use Rattle.raid_base.specs.declared.verdict.Structure.{Structure}
use Rattle.raid_base.specs.declared.verdict.Structure.TheVariants.{Native, GenericState}
use Rattle.raid_workload.specs.declared.workload.Switch.{Switch}
use Rattle.raid_workload.specs.declared.workload.Workload.{Workload}
use Rattle.raid_rules.specs.Entries.{is_commit, is_switch_on, is_end}
use Rattle.raid_advise.specs.declared.advice.Advice.{Advice}
use Rattle.raid_advise.specs.declared.advice.Advice.TheVariants as advices
use Rattle.raid_advise.specs.Added.{last_trigger}

-- how many ends there are
abbrev pub ends : List Entry → ℕ
ends es = count_by is_end es

-- how many Commits there are
abbrev pub commits : List Entry → ℕ
commits es = count_by (is_commit (λ t request. true)) es

-- the entries with the last so many ends: all of them where there are no more ends, and else those after the end before these
abbrev pub window : ℕ → List Entry → List Entry
window last [] = []
window last (e ∷ es) = if nat_le (ends (e ∷ es)) last then e ∷ es else window last es

-- how many switches came on
abbrev pub came_on : List Entry → ℕ
came_on h = count_by (is_switch_on (λ k. true)) h

-- the kind that an entry leaves, given the one before it: a SwitchOn brings in another
abbrev pub kind_after : Kind → Entry → Kind
kind_after kind (SwitchOn k to method) = to
kind_after kind other = kind

-- the kind that came in last, the opening kind where none did
abbrev pub latest_kind : Kind → List Entry → Kind
latest_kind opening h = fold kind_after opening h

-- an abort with this cause is the kind's doing: its refusal, or under locks that a cycle of waits was broken
abbrev pub is_blamed : Kind → Cause → Bool
is_blamed Lock Deadlock = true
is_blamed Stamp Late = true
is_blamed Valid Invalid = true
is_blamed Graph Cycle = true
is_blamed kind other = false

-- the entry shows what the kind costs: an Abort of its doing, or under locks a Wait
abbrev pub is_cost : Kind → Entry → Bool
is_cost kind (Abort t cause act) = is_blamed kind cause
is_cost Lock (Wait t request) = true
is_cost kind other = false

-- how many entries show it
abbrev pub costs : Kind → List Entry → ℕ
costs kind es = count_by (is_cost kind) es

-- the kind to go to from this one, if there is a better one, given how many Commits and costs there were: locks give way to stamps where
-- they cost more than was committed, and to validation where they cost nothing; the others where they cost more than half of that
abbrev pub better : Kind → ℕ → ℕ → Option Kind
better Lock commits costs = if nat_lt commits costs then Some Stamp else if costs == 0 && nat_lt 0 commits then Some Valid else None
better Stamp commits costs = if nat_lt commits (2 * costs) then Some Lock else None
better Valid commits costs = if nat_lt commits (2 * costs) then Some Lock else None
better Graph commits costs = if nat_lt commits (2 * costs) then Some Stamp else None

-- the workload has as many switches as it may have
abbrev pub is_full : Workload → Bool
is_full w = length w.switches == 64

-- a switch of the workload hasn't come on
abbrev pub awaits_switch : Workload → List Entry → Bool
awaits_switch w h = nat_lt (came_on h) (length w.switches)

-- the method for a structure
abbrev pub method_for : Structure → Method
method_for Native = Suffix
method_for GenericState = Generic

-- the trigger, given the count of ends: that count, but 2,000 at most, and no less than the last trigger
abbrev pub trigger : Workload → ℕ → ℕ
trigger w ends = max (last_trigger w) (min 2000 ends)

-- the advice to go to a kind, if there is one, given the count of ends
abbrev pub advice_to : Workload → ℕ → Option Kind → Advice
advice_to w ends None = advices.Keep
advice_to w ends (Some kind) = advices.Switch kind (method_for w.structure) (trigger w ends)

-- the advice after a history, by its entries with the last so many ends: to go from the kind that came in last to a better one, if these
-- speak for one, unless the workload can take no further switch or has one still to come
abbrev pub advice : Workload → List Entry → ℕ → Advice
advice w h last =
    let kind = latest_kind w.kind h in
    let seen = window last h in
    if is_full w || awaits_switch w h then advices.Keep else advice_to w (ends h) (better kind (commits seen) (costs kind seen))

-- the advice is to add this switch
abbrev pub Advises : Workload → List Entry → ℕ → Switch → Type 0
Advises w h last s = advice w h last ≡ advices.Switch s.kind s.method s.trigger
