use Rattle.std.proofs.Common.{[], arith, length, sym, ◌∙◌, ap, subst}
use Rattle.std.specs.List.{All}
use Rattle.raid_force.proofs.Lasting.{found_structure, found_kind, found_counts, none_found, taken_all, left_all, taken_length}
use Rattle.raid_force.proofs.lend.serve.Goals as goal

pub of_kind-requires : goal.of_kind-requires
of_kind-requires g c = record {
  fits = found_kind (λ v. (g.dyn-1.0.entry v).1) c.args.kind c.args.structure c.args.rack.now.slots.items c.in-Some.slot (sym c.take.ensures.first ∙ c.in-Some.is);
}

pub unreachable-requires : goal.unreachable-requires
unreachable-requires g c =
    none_found (λ v. (g.dyn-1.0.entry v).1) c.args.kind c.args.structure c.args.rack.now.slots.items c.requires.some (sym c.take.ensures.first ∙ c.in-None.is)

pub returns-clause-structure : goal.returns-clause-structure
returns-clause-structure g c =
    c.of_kind.ensures.structure ∙ found_structure (λ v. (g.dyn-1.0.entry v).1) c.args.kind c.args.structure c.args.rack.now.slots.items c.in-Some.slot (sym c.take.ensures.first ∙ c.in-Some.is)

pub returns-clause-empty : goal.returns-clause-empty
returns-clause-empty g c =
    c.of_kind.ensures.keeps _ (taken_all _ (λ s. (goal.Controller-dyn g (s.control.vtable, s.control.value)).stands s.control.value []) c.args.rack.now.slots.items c.in-Some.slot c.requires.clear (sym c.take.ensures.first ∙ c.in-Some.is))

pub returns-clause-clear : goal.returns-clause-clear
returns-clause-clear g c =
    subst (λ xs. All (λ s. (goal.Controller-dyn g (s.control.vtable, s.control.value)).stands s.control.value []) xs) (sym c.take.ensures.rest) (left_all _ (λ s. (goal.Controller-dyn g (s.control.vtable, s.control.value)).stands s.control.value []) c.args.rack.now.slots.items c.requires.clear)

pub returns-clause-lasting : goal.returns-clause-lasting
returns-clause-lasting g c =
    found_counts (λ v. (g.dyn-1.0.entry v).1) c.args.kind c.args.structure c.args.rack.now.slots.items c.in-Some.slot (sym c.take.ensures.first ∙ c.in-Some.is)
    c.take.new.self.slots.items c.of_kind.result c.take.ensures.rest c.of_kind.ensures.kind c.of_kind.ensures.structure

pub returns-clause-room : goal.returns-clause-room
returns-clause-room g c =
    let n = taken_length _ c.args.rack.now.slots.items c.in-Some.slot (sym c.take.ensures.first ∙ c.in-Some.is) in
    let l = ap length c.take.ensures.rest in
    omega (arith, n, l, c.args.rack.now.slots.ok.0, c.take.new.self.slots.ok.0)
