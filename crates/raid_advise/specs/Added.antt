-- A workload with a switch added last.
use Rattle.std.specs.Prelude.{◌≡◌, ℕ, nat_lt, Bool, not, ◌&&◌, [], ◌∷◌, ◌++◌, length, fold}
use Rattle.raid_base.specs.declared.verdict.Kind.{Kind}
use Rattle.raid_base.specs.declared.verdict.Method.{Method}
use Rattle.raid_workload.specs.declared.workload.Switch.{Switch}
use Rattle.raid_workload.specs.declared.workload.Workload.{Workload}
use Rattle.raid_workload.specs.Rules.{is_kind, is_method_for, is_within}
use Rattle.raid_text.specs.Outcome.{Reads}
use Rattle.raid_text.specs.Said.{Said, said}
use Rattle.raid_text.specs.Spelling.{print_of}

-- the switch to the kind, by the method, after so many ends
abbrev pub switch : Kind → Method → ℕ → Switch
switch kind method after = record { kind = kind; method = method; trigger = after }

-- the kind that the last switch is to, the opening kind where there is none
abbrev pub last_kind : Workload → Kind
last_kind w = fold (λ kind (s : Switch). s.kind) w.kind w.switches

-- the trigger of the last switch, 1 where there is none
abbrev pub last_trigger : Workload → ℕ
last_trigger w = fold (λ trigger (s : Switch). s.trigger) 1 w.switches

-- the switch may be added last: there is room for it; it is to another kind, by a method for the structure; and its trigger is neither
-- below the last one nor above 2,000
abbrev pub may_be_added : Workload → Switch → Bool
may_be_added w s =
    nat_lt (length w.switches) 64 && not (is_kind (last_kind w) s.kind) && is_method_for w.structure s.method
    && is_within (last_trigger w) 2000 s.trigger

-- the parts of the workload, with the switch added last
abbrev pub with_switch : Workload → Switch → Said
with_switch w s = record (said w) { switches = w.switches ++ s ∷ [] }

-- the second workload is the first one with the switch added last
abbrev pub AddsSwitch : Workload → Switch → Workload → Type 0
AddsSwitch w s v = said v ≡ with_switch w s

-- there is such a workload, and what is written for it reads as it
abbrev pub ReadsWith : Workload → Switch → Type 0
ReadsWith w s = (v : Workload) × AddsSwitch w s v × Reads (print_of v) v
