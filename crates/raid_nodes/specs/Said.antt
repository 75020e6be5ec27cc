-- What boxes say of themselves, by their tables.
use Rattle.std.specs.Prelude.{List}
use Rattle.raid_base.specs.declared.entry.Noted.{Noted}
use Rattle.raid_base.specs.declared.verdict.Kind.{Kind}
use Rattle.raid_base.specs.declared.verdict.Structure.{Structure}
use Rattle.raid_boxed.specs.Boxed.{Boxed, Says}
use Rattle.raid_nodes.specs.declared.node.ServerNode.{ServerNode}

-- what is said by the table of a box with this value
abbrev pub says_by : {V : Type 0} {D : V → Type 0} → (Boxed V D → List Noted → Type 0) → (Boxed V D → Kind) → (Boxed V D → Structure) → ServerNode V D → Says V D
says_by stands kind structure x v = record {
  stands = λ value view. stands (record { ptr = x.outs.ptr; vtable = v; alloc = x.outs.alloc; value = value }) view;
  kind_of = λ value. kind (record { ptr = x.outs.ptr; vtable = v; alloc = x.outs.alloc; value = value });
  structure_of = λ value. structure (record { ptr = x.outs.ptr; vtable = v; alloc = x.outs.alloc; value = value });
}
