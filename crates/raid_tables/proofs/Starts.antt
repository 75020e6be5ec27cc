-- Begins and Reads of the transactions that pass a test.
use Rattle.std.proofs.Common.{◌≡◌, Bool, true, false, not, List, [], ◌∷◌, map, filter, arith, refl, sym}
use Rattle.std.specs.List.{count_by}
use Rattle.std.proofs.lemmas.Grind.{common_steps}
use Rattle.raid_base.specs.declared.names.Txn.{Txn}
use Rattle.raid_base.specs.declared.entry.Entry.{Entry}
use Rattle.raid_rules.specs.Entries.{is_read}
use Rattle.raid_control.specs.Carried.{is_start}
use Rattle.raid_tables.specs.declared.running.Started.{Started}
use Rattle.raid_tables.specs.declared.running.Started.TheVariants as starts
use Rattle.raid_tables.specs.declared.running.Start.{Start}
use Rattle.raid_tables.specs.Running.{entry_of}

-- of two filters the weaker one is of no account
pub filter_twice : {X : Type 0} (p q : X → Bool) → ((x : X) → p x ≡ true → q x ≡ true) → (xs : List X) → filter p (filter q xs) ≡ filter p xs
filter_twice p q more [] = refl
filter_twice p q more (x ∷ xs) = grind (arith, common_steps, more x, filter_twice p q more xs)

-- what passes a test is counted though a weaker one was a filter
pub count_filtered : {X : Type 0} (p q : X → Bool) → ((x : X) → p x ≡ true → q x ≡ true) → (xs : List X) → count_by p (filter q xs) ≡ count_by p xs
count_filtered p q more [] = refl
count_filtered p q more (x ∷ xs) = grind (arith, common_steps, more x, count_filtered p q more xs)

-- a Read is a Begin or Read
pub read_starts : (test : Txn → Bool) (e : Entry) → is_read (λ t x s. test t) e ≡ true → is_start test e ≡ true
read_starts test e r = grind (arith, common_steps, r)

-- one that is not false is true
pub unless : (b : Bool) → b ≡ false → not b ≡ true
unless true h = sym h
unless false h = refl

pub unless_not : (b : Bool) → not b ≡ true → b ≡ false
unless_not true h = sym h
unless_not false h = refl

-- a log loses nothing but what the test passes not
pub thinner : (test : Txn → Bool) (ended : Txn → Bool) → ((t : Txn) → test t ≡ true → ended t ≡ false) → (log : List Start) →
    filter (λ s. test s.txn) (filter (λ s. not (ended s.txn)) log) ≡ filter (λ s. test s.txn) log
thinner test ended more log =
    filter_twice (λ (s : Start). test s.txn) (λ s. not (ended s.txn)) (λ s h. unless (ended s.txn) (more s.txn h)) log

-- counted before a map or after it
pub count_map : {X Y : Type 0} (p : Y → Bool) (f : X → Y) (xs : List X) → count_by p (map f xs) ≡ count_by (λ x. p (f x)) xs
count_map p f [] = refl
count_map p f (x ∷ xs) = grind (arith, common_steps, count_map p f xs)

-- the transaction of a start that is a Read passes the Read's test
pub read_passes : (test : Txn → Bool) (t : Txn) (what : Started) → is_read (λ u x site. test u) (entry_of t what) ≡ true → test t ≡ true
read_passes test t (starts.Begin home) h = absurd (cc h)
read_passes test t (starts.Read x site) h = h
