-- How many lasting controllers there are of each sort.
use Rattle.std.specs.Prelude.{ℕ, Bool, not, ◌&&◌, List, if◌then◌else◌}
use Rattle.std.specs.List.{sum_by}
use Rattle.raid_base.specs.declared.verdict.Kind.{Kind}
use Rattle.raid_base.specs.declared.verdict.Structure.{Structure}
use Rattle.raid_base.specs.declared.verdict.Structure.TheVariants.{Native, GenericState}
use Rattle.raid_control.specs.declared.rack.Slot.{Slot}
use Rattle.raid_control.specs.Racked.{serves, AllClear, is_whole}
use Rattle.raid_boxed.specs.Boxed.{Says, kind_by, structure_by, StandsBy}

-- a controller, of the last kind and structure, counts as one where it lasts and serves where the first are wanted
abbrev pub counts : Kind → Structure → Bool → Kind → Structure → ℕ
counts kind structure once k s = if not once && serves kind structure k s then 1 else 0

-- how many of the slots are such
abbrev pub lasting : {V : Type 0} {D : V → Type 0} → Says V D → List (Slot V D) → Kind → Structure → ℕ
lasting say slots kind structure = sum_by (λ s. counts kind structure s.once (kind_by say s.control) (structure_by say s.control)) slots

-- how many are enough for every workload: one of each native kind; two of the generic structure, since a switch takes one while one is in force
abbrev pub wanted : Structure → ℕ
wanted Native = 1
wanted GenericState = 2

-- each slot's controller stands for the empty view
abbrev pub AreClear : {V : Type 0} {D : V → Type 0} → Says V D → List (Slot V D) → Type 0
AreClear say slots = AllClear (StandsBy say) (λ s. s.control) slots

-- they are enough for every workload
abbrev pub are_whole : {V : Type 0} {D : V → Type 0} → Says V D → List (Slot V D) → Bool
are_whole say slots = is_whole (λ s. s.once) (λ s. kind_by say s.control) (λ s. structure_by say s.control) slots
