-- The rack's slots: which fit, and when all are there.
use Rattle.std.specs.Prelude.{find, take, drop, ◌≡◌, ◌++◌, ℕ, nat_eq, nat_le, Bool, not, ◌&&◌, List, [], ◌∷◌, All, count_by, if◌then◌else◌}
use Rattle.std.specs.List.{list_any}
use Rattle.raid_base.specs.declared.entry.Noted.{Noted}
use Rattle.raid_base.specs.declared.verdict.Kind.{Kind}
use Rattle.raid_base.specs.declared.verdict.Kind.TheVariants.{Lock, Stamp, Valid, Graph}
use Rattle.raid_base.specs.declared.verdict.Structure.{Structure}
use Rattle.raid_base.specs.declared.verdict.Structure.TheVariants.{Native, GenericState}
use Rattle.raid_control.specs.Carried.{is_generic}

-- each slot's controller stands for the empty view
abbrev pub AllClear : {C S : Type 0} → (C → List Noted → Type 0) → (S → C) → List S → Type 0
AllClear stands control slots = All (λ s. stands (control s) []) slots

-- the number of a kind, by which kinds are told apart
abbrev pub place : Kind → ℕ
place Lock = 0
place Stamp = 1
place Valid = 2
place Graph = 3

-- a controller of this kind and structure serves where one of that kind and structure is wanted: a generic one serves every kind
abbrev pub serves : Kind → Structure → Kind → Structure → Bool
serves kind Native k s = nat_eq (place kind) (place k) && not (is_generic s)
serves kind GenericState k s = is_generic s

-- the list without the first element that passes the test
abbrev pub without_first : {S : Type 0} → (S → Bool) → List S → List S
without_first test [] = []
without_first test (s ∷ ss) = if test s then ss else s ∷ without_first test ss

-- no slot before the place passes the test
abbrev pub NoneBefore : {S : Type 0} → (S → Bool) → List S → ℕ → Type 0
NoneBefore test slots k = (find test slots ≡ find test (drop k slots)) × (without_first test slots ≡ take k slots ++ without_first test (drop k slots))

-- a slot that isn't for once and whose controller is native and of the kind
abbrev pub lasts : {S : Type 0} → (S → Bool) → (S → Kind) → (S → Structure) → Kind → S → Bool
lasts once kind_of structure_of kind s = not (once s) && serves kind Native (kind_of s) (structure_of s)

-- there is a lasting slot of each native kind
abbrev pub has_natives : {S : Type 0} → (S → Bool) → (S → Kind) → (S → Structure) → List S → Bool
has_natives once kind_of structure_of slots =
    list_any (lasts once kind_of structure_of Lock) slots
    && list_any (lasts once kind_of structure_of Stamp) slots
    && list_any (lasts once kind_of structure_of Valid) slots
    && list_any (lasts once kind_of structure_of Graph) slots

-- and there are two of the generic structure: enough for every workload
abbrev pub is_whole : {S : Type 0} → (S → Bool) → (S → Kind) → (S → Structure) → List S → Bool
is_whole once kind_of structure_of slots = has_natives once kind_of structure_of slots && nat_le 2 (count_by (λ s. not (once s) && is_generic (structure_of s)) slots)
