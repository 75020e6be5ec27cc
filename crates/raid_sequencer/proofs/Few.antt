-- A history stays far below the end of its numbers.
use Rattle.std.proofs.Common.{◌≡◌, ℕ, zero, suc, ◌+◌, ◌*◌, ◌<◌, ◌≤◌, nat_le, ◌==◌, Bool, true, ◌&&◌, ◌||◌, [], map, length, arith, ap, refl}
use Rattle.std.specs.List.{list_all}
use Rattle.std.proofs.lemmas.Bool.{and_parts}
use Rattle.raid_base.specs.declared.names.Txn.{Txn}
use Rattle.raid_workload.specs.declared.workload.Workload.{Workload}
use Rattle.raid_workload.specs.Parts.{count_from, txns}
use Rattle.raid_workload.specs.Rules.{are_restarts, is_within, are_items, are_switches, are_events, is_homed}
use Rattle.raid_record.proofs.Rules.{few_programs}
use Rattle.raid_decide.proofs.Rules.{few_switches}

first_of : (a b c d e f g h i j k : Bool) → (a && b && c && d && e && f && g && h && i && j && k) ≡ true → a ≡ true
first_of a b c d e f g h i j k all =
    let to-j = (and_parts (a && b && c && d && e && f && g && h && i && j) k all).0 in
    let to-i = (and_parts (a && b && c && d && e && f && g && h && i) j to-j).0 in
    let to-h = (and_parts (a && b && c && d && e && f && g && h) i to-i).0 in
    let to-g = (and_parts (a && b && c && d && e && f && g) h to-h).0 in
    let to-f = (and_parts (a && b && c && d && e && f) g to-g).0 in
    let to-e = (and_parts (a && b && c && d && e) f to-f).0 in
    let to-d = (and_parts (a && b && c && d) e to-e).0 in
    let to-c = (and_parts (a && b && c) d to-d).0 in
    let to-b = (and_parts (a && b) c to-c).0 in
    (and_parts a b to-b).0

may_restart : (w : Workload) → are_restarts w.version w.restarts ≡ true
may_restart w =
    first_of (are_restarts w.version w.restarts) (is_within 1 8 w.sites) (is_within 1 16 w.together) (nat_le (length w.items) 1024) (are_items w.sites w.items)
    (nat_le (length w.switches) 64) (are_switches w.structure w.kind 1 w.switches) (nat_le (length w.events) 64) (are_events w.sites [] 1 w.events)
    (nat_le (length w.programs) 2000) (list_all (is_homed w.sites (length w.items)) w.programs) w.kept

at_most : (n m : ℕ) → nat_le n m ≡ true → n ≤ m
at_most n m h = grind (arith, h)

few_restarts : (w : Workload) → w.restarts ≤ 3
few_restarts w =
    let both = and_parts (is_within 1 2 w.version && nat_le w.restarts 3) (w.version == 2 || w.restarts == 0) (may_restart w) in
    at_most w.restarts 3 (and_parts (is_within 1 2 w.version) (nat_le w.restarts 3) both.0).1

counted : {X : Type 0} (f : ℕ → X) (a n : ℕ) → length (map f (count_from a n)) ≡ n
counted f a zero = refl
counted f a (suc n) = ap suc (counted f (a + 1) n)

times : (p r : ℕ) → p ≤ 2000 → r ≤ 3 → p * (r + 1) ≤ 8000
times p zero few le = omega (arith, few)
times p (suc zero) few le = omega (arith, few)
times p (suc (suc zero)) few le = omega (arith, few)
times p (suc (suc (suc zero))) few le = omega (arith, few)
times p (suc (suc (suc (suc r)))) few le = absurd (omega (arith, le))

few_txns : (w : Workload) → length (txns w) ≤ 8000
few_txns w =
    let count = counted (λ k. let t : Txn = record { 0 = k } in t) 1 (length w.programs * (w.restarts + 1)) in
    omega (arith, count, times (length w.programs) w.restarts (few_programs w) (few_restarts w))

-- so there is room for what a letter lets the history become
pub room_left : (w : Workload) (extent heard : ℕ) → extent ≤ 3 * heard + (length (txns w) + 2 * length w.switches) → heard < 1000000000 → extent < 4294967200
room_left w extent heard le few = omega (arith, le, few, few_txns w, few_switches w)

-- and the history is short
pub short : (w : Workload) (entries unasked heard : ℕ) → entries + unasked ≤ 3 * heard + (length (txns w) + 2 * length w.switches) → heard ≤ 1000000000 → entries < 4294967295
short w entries unasked heard le few = omega (arith, le, few, few_txns w, few_switches w)
