-- The controllers in force with the rack that they come from, and how both keep in step with a history.
use Rattle.std.specs.Prelude.{◌≡◌, ℕ, ◌+◌, ◌≤◌, length, false, List, [], ◌∷◌, All, Some, option_to_list, vec_len, vec_capacity}
use Rattle.std.specs.Option.{option_map_or}
use Rattle.raid_base.specs.declared.entry.Noted.{Noted}
use Rattle.raid_base.specs.declared.verdict.Kind.{Kind}
use Rattle.raid_base.specs.declared.verdict.Method.{Method}
use Rattle.raid_base.specs.declared.verdict.Method.TheVariants.{Generic, Convert, Suffix}
use Rattle.raid_base.specs.declared.names.Txn.{Txn}
use Rattle.raid_base.specs.declared.verdict.Structure.{Structure}
use Rattle.raid_workload.specs.declared.workload.Workload.{Workload}
use Rattle.raid_legal.specs.InForce.{in_force, controllers}
use Rattle.raid_control.specs.Carried.{carried}
use Rattle.raid_switch.specs.Force.{AreInForce, without}
use Rattle.raid_force.specs.declared.force.Force.{Force}
use Rattle.raid_boxed.specs.Boxed.{Boxed, Says, kind_by, structure_by, StandsBy}
use Rattle.raid_force.specs.Lasting.{counts, lasting, wanted, AreClear}

-- the controllers in force, the old one first
abbrev pub ruling : {V : Type 0} {D : V → Type 0} → Force V D → List (Boxed V D)
ruling force = force.eras.first ∷ option_to_list force.eras.second

-- they have these kinds and stand for these views
abbrev pub AreRuling : {V : Type 0} {D : V → Type 0} → Says V D → Force V D → List (Kind × List Noted) → Type 0
AreRuling say force cs = AreInForce (kind_by say) (StandsBy say) force.eras.first force.eras.second cs

-- how many lasting controllers there are, in the rack and in force, that serve where this kind and structure are wanted
abbrev pub in_all : {V : Type 0} {D : V → Type 0} → Says V D → Force V D → Kind → Structure → ℕ
in_all say force kind structure =
    lasting say force.rack.slots.items kind structure
    + counts kind structure force.first_once (kind_by say force.eras.first) (structure_by say force.eras.first)
    + option_map_or (λ c. counts kind structure force.second_once (kind_by say c) (structure_by say c)) force.eras.second 0

-- what holds also after want of memory: the controllers in force have the structure, those in the rack are cleared, together they are enough
-- for whatever switch may come, and the rack has free places for those in force
pub record Racked {V : Type 0} {D : V → Type 0} (say : Says V D) (structure : Structure) (force : Force V D) : Type 0 where
  pub structured : All (λ c. structure_by say c ≡ structure) (ruling force)
  pub clear : AreClear say force.rack.slots.items
  pub enough : (k : Kind) (s : Structure) → wanted s ≤ in_all say force k s
  pub room : vec_len force.rack.slots + length (ruling force) ≤ vec_capacity force.rack.slots

-- the controllers in force are those of the rules after the prefix, with the abort list and the number of the last switch; where a second one is
-- in force, the eras have the number of the SwitchOn that it came with
pub record InStep {V : Type 0} {D : V → Type 0} (say : Says V D) (w : Workload) (force : Force V D) (p : List Noted) : Type 0 where
  pub views : AreRuling say force (controllers (in_force w p) p)
  pub off : force.off ≡ (in_force w p).off
  pub switches : force.switches ≡ (in_force w p).switches
  pub since : (c : Kind × ℕ) → (in_force w p).next ≡ Some c → force.eras.since ≡ c.1

-- the force has its rack, and until memory was wanted it is in step with the prefix
pub record Holds {V : Type 0} {D : V → Type 0} (say : Says V D) (w : Workload) (force : Force V D) (p : List Noted) : Type 0 where
  pub racked : Racked say w.structure force
  pub in_step : force.finished ≡ false → InStep say w force p

-- the controllers after a SwitchOn to this kind that aborts these transactions, given the one before, which has noted it
abbrev pub put_on : Method → Kind → List Txn → Kind × List Noted → List (Kind × List Noted)
put_on Generic to off old = (to, old.1) ∷ []
put_on Convert to off old = (to, without off (carried old.1)) ∷ []
put_on Suffix to off old = old ∷ (to, []) ∷ []
