-- What a turn of a server does.
use Rattle.std.specs.Prelude.{◌≡◌, ℕ, ◌+◌, ◌<◌, ◌≤◌, List, [], ◌∷◌, ◌++◌, length, fold, slice_index_or}
use Rattle.raid_workload.specs.declared.workload.Workload.{Workload}
use Rattle.raid_message.specs.declared.letter.Letter.{Letter}
use Rattle.raid_merge.specs.Merged.{of}
use Rattle.raid_causes.specs.Histories.{History, Alone}
use Rattle.raid_causes.specs.Limited.{hearing_within}
use Rattle.raid_link.specs.Link.{all_sent, given, known, SameSender, SameReceiver}
use Rattle.raid_link.specs.declared.ends.Sender.{Sender}
use Rattle.raid_link.specs.declared.ends.Receiver.{Receiver}
use Rattle.raid_nodes.specs.Nodes.{limit, IsAlone}
use Rattle.raid_nodes.specs.declared.node.ServerNode.{ServerNode}

-- the node is as it was, but that these letters have come out of its links, each from the sender with its number, and it has not heard them
pub record Fetched {V : Type 0} {D : V → Type 0} (x : ServerNode V D) (letters : History) (y : ServerNode V D) : Type 0 where
  pub number : y.number ≡ x.number
  pub server : y.server ≡ x.server
  pub clock : y.clock ≡ x.clock
  pub journal : y.journal ≡ x.journal
  pub outs : length y.outs.items ≡ length x.outs.items
  pub inputs : length y.inputs.items ≡ length x.inputs.items
  pub senders : (k : ℕ) (d : Sender) → k < length x.outs.items → SameSender (slice_index_or x.outs.items k d) (slice_index_or y.outs.items k d)
  pub receivers : (k : ℕ) (d : Receiver) → k < length x.inputs.items → SameReceiver (slice_index_or x.inputs.items k d) (slice_index_or y.inputs.items k d)
  pub sent : (k : ℕ) (d : Sender) → k < length x.outs.items → all_sent (slice_index_or y.outs.items k d) ≡ all_sent (slice_index_or x.outs.items k d)
  pub taken : (k : ℕ) (d : Receiver) → k < length x.inputs.items → given (slice_index_or y.inputs.items k d) ≡ given (slice_index_or x.inputs.items k d) ++ of k letters
  pub others : (k : ℕ) → length x.inputs.items ≤ k → of k letters ≡ []

-- the node has taken the letters of this history from its links, in order, and is what a server by itself is after them
pub record Took {V : Type 0} {D : V → Type 0} (w : Workload) (x : ServerNode V D) (history : History) (y : ServerNode V D) : Type 0 where
  pub alone : (links : List (List (List Letter))) (a : Alone) → IsAlone links x a → IsAlone links y (fold (hearing_within w limit x.number) a history)
  pub number : y.number ≡ x.number
  pub steps : length y.journal ≡ length x.journal + length history
  pub outs : length y.outs.items ≡ length x.outs.items
  pub inputs : length y.inputs.items ≡ length x.inputs.items
  pub senders : (k : ℕ) (d : Sender) → k < length x.outs.items → SameSender (slice_index_or x.outs.items k d) (slice_index_or y.outs.items k d)
  pub receivers : (k : ℕ) (d : Receiver) → k < length x.inputs.items → SameReceiver (slice_index_or x.inputs.items k d) (slice_index_or y.inputs.items k d)
  pub taken : (k : ℕ) (d : Receiver) → k < length x.inputs.items → given (slice_index_or y.inputs.items k d) ≡ given (slice_index_or x.inputs.items k d) ++ of k history
  pub others : (k : ℕ) → length x.inputs.items ≤ k → of k history ≡ []

-- the same letters are known
pub record SameKnown {V : Type 0} {D : V → Type 0} (x y : ServerNode V D) : Type 0 where
  pub same : (k : ℕ) (d : Receiver) → k < length x.inputs.items → known (slice_index_or y.inputs.items k d) ≡ known (slice_index_or x.inputs.items k d)

-- no letter is known of the servers with these numbers, from the one to below the other
pub record NoneKnown {V : Type 0} {D : V → Type 0} (x : ServerNode V D) (first end : ℕ) : Type 0 where
  pub none : (k : ℕ) (d : Receiver) → first ≤ k → k < end → k < length x.inputs.items → known (slice_index_or x.inputs.items k d) ≡ []

-- a letter of one of these servers came out of its link
pub record Found {V : Type 0} {D : V → Type 0} (x : ServerNode V D) (taken : ℕ × Letter) (y : ServerNode V D) : Type 0 where
  pub from : taken.0 < length x.inputs.items
  pub fetched : Fetched x (taken ∷ []) y

-- no letter of these servers came: nothing was known of them, and the same is known of all others
pub record Missed {V : Type 0} {D : V → Type 0} (x : ServerNode V D) (first end : ℕ) (y : ServerNode V D) : Type 0 where
  pub fetched : Fetched x [] y
  pub same : SameKnown x y
  pub none : NoneKnown x first end

-- nothing came out of its links, and the same letters are known
pub record Still {V : Type 0} {D : V → Type 0} (x y : ServerNode V D) : Type 0 where
  pub fetched : Fetched x [] y
  pub same : SameKnown x y

-- some letter is known
abbrev pub SomeKnown : {V : Type 0} {D : V → Type 0} → ServerNode V D → Type 0
SomeKnown x = (k : ℕ) × (k < length x.inputs.items) × ((d : Receiver) → 0 < length (known (slice_index_or x.inputs.items k d)))

-- what a turn does: it takes so many letters, and none only where none was known
pub record TurnMade {V : Type 0} {D : V → Type 0} (w : Workload) (x : ServerNode V D) (n : ℕ) (y : ServerNode V D) : Type 0 where
  pub history : History
  pub count : n ≡ length history
  pub took : Took w x history y
  pub some : SomeKnown x → 0 < n
