-- The programs and the switches that are made keep the rules.
use Rattle.std.proofs.Common.{◌≡◌, ℕ, zero, suc, ◌+◌, ◌-◌, ◌*◌, ◌/◌, ◌%◌, ◌^◌, ◌<◌, ◌≤◌, Bool, true, false, ◌&&◌, leb, ltb, List, [], ◌∷◌, ◌++◌, length, max, refl, sym, ap, ◌∙◌, arith, append_assoc}
use Rattle.std.specs.List.{list_all}
use Rattle.std.proofs.lemmas.Bool.{le-leb, lt-ltb}
use Rattle.raid_base.specs.declared.verdict.Kind.TheVariants.{Lock}
use Rattle.raid_base.specs.declared.verdict.Structure.TheVariants.{Native}
use Rattle.raid_base.specs.Sites.{site}
use Rattle.raid_program.specs.declared.program.Statement.{Statement}
use Rattle.raid_workload.specs.Rules.{is_within, are_items, are_switches, are_events, is_statement, is_homed, is_workload}
use Rattle.raid_workload.specs.declared.workload.ItemLine.{ItemLine}
use Rattle.raid_workload.specs.declared.workload.Switch.{Switch}
use Rattle.raid_workload.specs.declared.workload.Event.{Event}
use Rattle.raid_workload.specs.declared.workload.Homed.{Homed}
use Rattle.raid_generator.specs.Made.{next, drawn, item, chosen, item_lines, switches_of, programs_from}
use Rattle.raid_generator.proofs.Lines.{items_kept, length_lines}

-- ---- as they are made one by one

pub programs_more : (state k n m : ℕ) (programs : List Homed) → n ≡ suc m →
    (programs ++ record { home = site (1 + k % 4); program = chosen (drawn (next state)) (drawn (next (next state))) (drawn (next (next (next state)))) } ∷ []) ++ programs_from (next (next (next state))) (k + 1) m ≡ programs ++ programs_from state k n
programs_more state k n m programs e = rw e (append_assoc programs _ (programs_from (next (next (next state))) (k + 1) m))

length_programs : (state k n : ℕ) → length (programs_from state k n) ≡ n
length_programs state k zero = refl
length_programs state k (suc n) = ap suc (length_programs (next (next (next state))) (k + 1) n)

-- ---- the rules

chosen_kept : (a b c : ℕ) → list_all (is_statement 1024) (chosen a b c) ≡ true
chosen_kept a b c =
    let first : ltb (a % 1024) 1024 ≡ true = lt-ltb _ _ (omega arith) in
    let second : ltb ((a % 1024 + 1 + b % 1023) % 1024) 1024 ≡ true = lt-ltb _ _ (omega arith) in
    let amount : ltb (1 + c % 50) (2 ^ 63) ≡ true = lt-ltb _ _ (omega arith) in
    rw (first, second, amount) refl

programs_kept : (state k n : ℕ) → list_all (is_homed 4 1024) (programs_from state k n) ≡ true
programs_kept state k zero = refl
programs_kept state k (suc n) =
    let low : leb 1 (1 + k % 4) ≡ true = le-leb _ _ (omega arith) in
    let high : leb (1 + k % 4) 4 ≡ true = le-leb _ _ (omega arith) in
    rw (low, high, chosen_kept (drawn (next state)) (drawn (next (next state))) (drawn (next (next (next state))))) (programs_kept (next (next (next state))) (k + 1) n)

within : (low high n : ℕ) → low ≤ n → n ≤ high → is_within low high n ≡ true
within low high n a b = rw (le-leb low n a, le-leb n high b) refl

switches_kept : (count : ℕ) → count ≤ 2000 → are_switches Native Lock 1 (switches_of count) ≡ true
switches_kept count few =
    let first = within 1 2000 (max 1 (count / 4)) (omega arith) (omega arith) in
    let second = within (max 1 (count / 4)) 2000 (max 1 (count / 2)) (omega arith) (omega arith) in
    let third = within (max 1 (count / 2)) 2000 (max 1 (3 * count / 4)) (omega arith) (omega arith) in
    rw (first, second, third) refl

-- so all of them do
pub workload_kept : (seed count : ℕ) (items : List ItemLine) (switches : List Switch) (events : List Event) (programs : List Homed) →
    count ≤ 2000 → items ≡ item_lines → switches ≡ switches_of count → events ≡ [] → programs ≡ programs_from seed 0 count → is_workload 1 0 4 8 items Lock Native switches events programs ≡ true
workload_kept seed count items switches events programs few i s e p =
    let n : leb (length (programs_from seed 0 count)) 2000 ≡ true = le-leb _ _ (omega (arith, length_programs seed 0 count)) in
    rw (i, s, e, p, length_lines, items_kept, switches_kept count few, n, programs_kept seed 0 count) refl
