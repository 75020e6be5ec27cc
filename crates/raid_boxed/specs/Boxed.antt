-- What a controller in a box says of itself. No type can name that, so words that rest on it take it as an argument, by the box's table.
use Rattle.std.specs.Prelude.{List}
use Rattle.std.specs.declared.dyn_box.DynBox.{DynBox}
use Rattle.std.specs.declared.alloc.Global.{Global}
use Rattle.raid_base.specs.declared.entry.Noted.{Noted}
use Rattle.raid_base.specs.declared.verdict.Kind.{Kind}
use Rattle.raid_base.specs.declared.verdict.Structure.{Structure}
use Rattle.raid_control.specs.declared.controller.Controller.{Ghosts}

-- a controller in a box
abbrev pub Boxed : (V : Type 0) → (V → Type 0) → Type 0
Boxed V D = DynBox V Global D

-- what each table says of its controllers
abbrev pub Says : (V : Type 0) → (V → Type 0) → Type 1
Says V D = (v : V) → Ghosts (D v)

-- the kind of its verdicts
abbrev pub kind_by : {V : Type 0} {D : V → Type 0} → Says V D → Boxed V D → Kind
kind_by say b = (say b.vtable).kind_of b.value

-- how it keeps its state
abbrev pub structure_by : {V : Type 0} {D : V → Type 0} → Says V D → Boxed V D → Structure
structure_by say b = (say b.vtable).structure_of b.value

-- it stands for the view
abbrev pub StandsBy : {V : Type 0} {D : V → Type 0} → Says V D → Boxed V D → List Noted → Type 0
StandsBy say b view = (say b.vtable).stands b.value view
