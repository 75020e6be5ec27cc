-- A ring of relays: who sends to whom, and what a turn and a settling do.
use Rattle.std.specs.Prelude.{◌≡◌, ℕ, ◌+◌, ◌<◌, ◌≤◌, List, length, Bool, true, false, IsTrue, ◌↔◌, slice_index_or, if◌then◌else◌, ◌==◌}
use Rattle.raid_link.specs.Link.{known, left, IsLink, IsSettled, SameSender, SameReceiver}
use Rattle.raid_rounds_tests.specs.declared.relay.Relay.{Relay}

-- the member after member k of n
abbrev pub next : ℕ → ℕ → ℕ
next n k = if k + 1 == n then 0 else k + 1

-- the members are those of one ring
pub record Whole (xs : List Relay) : Type 0 where
  pub two : 2 ≤ length xs
  pub links : (k : ℕ) (d : Relay) → k < length xs → IsLink (slice_index_or xs k d).out (slice_index_or xs (next (length xs) k) d).input

-- y is the relay x, n letters later
pub record After (x : Relay) (n : ℕ) (y : Relay) : Type 0 where
  pub number : y.number ≡ x.number
  pub heard : y.heard ≡ x.heard + n
  pub sender : SameSender x.out y.out
  pub receiver : SameReceiver x.input y.input

-- what a turn does: it takes letters, and none only where none was known
pub record TurnMade (x : Relay) (n : ℕ) (y : Relay) : Type 0 where
  pub made : After x n y
  pub some : 0 < length (known x.input) → 0 < n

-- how many letters are on the link from member k of n
abbrev pub on_link : ℕ → List Relay → ℕ → Relay → ℕ
on_link n xs k d = length (left (slice_index_or xs k d).out (slice_index_or xs (next n k) d).input)

-- some link holds a letter
abbrev pub SomeLeft : List Relay → Type 0
SomeLeft xs = (k : ℕ) × (k < length xs) × ((d : Relay) → 0 < on_link (length xs) xs k d)

-- the links from the first i members are settled, and b says whether one of them holds a letter
pub record SettledUpTo (xs : List Relay) (i : ℕ) (b : Bool) (ys : List Relay) : Type 0 where
  pub long : length ys ≡ length xs
  pub kept : (k : ℕ) (d : Relay) → k < length xs → After (slice_index_or xs k d) 0 (slice_index_or ys k d)
  pub settled : (k : ℕ) (d : Relay) → k < i → IsSettled (slice_index_or ys k d).out (slice_index_or ys (next (length xs) k) d).input
  pub some : b ≡ true → (k : ℕ) × (k < i) × ((d : Relay) → 0 < on_link (length xs) ys k d)
  pub none : b ≡ false → (k : ℕ) (d : Relay) → k < i → on_link (length xs) ys k d ≡ 0

-- all links are settled, and b says whether one of them holds a letter
abbrev pub Settled : List Relay → Bool → List Relay → Type 0
Settled xs b ys = SettledUpTo xs (length xs) b ys

-- the link from x to w was settled: y and z are what they are then
pub record PairSettled (x w : Relay) (b : Bool) (y z : Relay) : Type 0 where
  pub one : After x 0 y
  pub one_input : y.input ≡ x.input
  pub other : After w 0 z
  pub other_out : z.out ≡ w.out
  pub settled : IsSettled y.out z.input
  pub value : IsTrue b ↔ (0 < length (left y.out z.input))
