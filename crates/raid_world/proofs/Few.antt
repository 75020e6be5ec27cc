-- How much a workload has at most, as its rules say.
use Rattle.std.proofs.Common.{◌≡◌, ℕ, ◌≤◌, nat_le, Bool, true, ◌&&◌, [], length, arith}
use Rattle.std.specs.List.{list_all}
use Rattle.std.proofs.lemmas.Bool.{and_parts}
use Rattle.raid_workload.specs.declared.workload.Workload.{Workload}
use Rattle.raid_workload.specs.Rules.{is_homed, are_restarts, is_within, are_items, are_switches, are_events}

record Parts (d h : Bool) : Type 0 where
  items : d ≡ true
  events : h ≡ true

parts : (a b c d e f g h i j k : Bool) → (a && b && c && d && e && f && g && h && i && j && k) ≡ true → Parts d h
parts a b c d e f g h i j k all =
    let to-k = and_parts (a && b && c && d && e && f && g && h && i && j) k all in
    let to-j = and_parts (a && b && c && d && e && f && g && h && i) j to-k.0 in
    let to-i = and_parts (a && b && c && d && e && f && g && h) i to-j.0 in
    let to-h = and_parts (a && b && c && d && e && f && g) h to-i.0 in
    let to-g = and_parts (a && b && c && d && e && f) g to-h.0 in
    let to-f = and_parts (a && b && c && d && e) f to-g.0 in
    let to-e = and_parts (a && b && c && d) e to-f.0 in
    let to-d = and_parts (a && b && c) d to-e.0 in
    record { items = to-d.1; events = to-h.1 }

of_workload : (w : Workload) → Parts (nat_le (length w.items) 1024) (nat_le (length w.events) 64)
of_workload w =
    parts (are_restarts w.version w.restarts) (is_within 1 8 w.sites) (is_within 1 16 w.together) (nat_le (length w.items) 1024) (are_items w.sites w.items)
    (nat_le (length w.switches) 64) (are_switches w.structure w.kind 1 w.switches) (nat_le (length w.events) 64) (are_events w.sites [] 1 w.events)
    (nat_le (length w.programs) 2000) (list_all (is_homed w.sites (length w.items)) w.programs) w.kept

at_most : (n m : ℕ) → nat_le n m ≡ true → n ≤ m
at_most n m h = grind (arith, h)

pub few_items : (w : Workload) → length w.items ≤ 1024
few_items w = at_most (length w.items) 1024 (of_workload w).items

pub few_events : (w : Workload) → length w.events ≤ 64
few_events w = at_most (length w.events) 64 (of_workload w).events
