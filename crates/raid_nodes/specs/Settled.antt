-- All nodes of one world, and what settling their links does.
use Rattle.std.specs.Prelude.{◌≡◌, ◌⊎◌, ℕ, ◌<◌, List, [], length, Bool, true, false, IsTrue, ◌↔◌, slice_index_or, slice_set}
use Rattle.std.specs.Vec.{with_item}
use Rattle.raid_link.specs.Link.{all_sent, given, left, IsLink, IsSettled, SameSender, SameReceiver}
use Rattle.raid_link.specs.declared.ends.Sender.{Sender}
use Rattle.raid_link.specs.declared.ends.Receiver.{Receiver}
use Rattle.raid_nodes.specs.Turns.{Fetched}
use Rattle.raid_nodes.specs.declared.node.ServerNode.{ServerNode}

-- a node's end of the link to a server, and of that from one
abbrev pub sender_of : {V : Type 0} {D : V → Type 0} → ServerNode V D → ℕ → Sender → Sender
sender_of x k e = slice_index_or x.outs.items k e

abbrev pub receiver_of : {V : Type 0} {D : V → Type 0} → ServerNode V D → ℕ → Receiver → Receiver
receiver_of x k f = slice_index_or x.inputs.items k f

-- the nodes are those of one world: each has its number, and there is a link from each to each
pub record WholeNodes {V : Type 0} {D : V → Type 0} (xs : List (ServerNode V D)) : Type 0 where
  pub numbers : (k : ℕ) (d : ServerNode V D) → k < length xs → (slice_index_or xs k d).number ≡ k
  pub outs : (k : ℕ) (d : ServerNode V D) → k < length xs → length (slice_index_or xs k d).outs.items ≡ length xs
  pub inputs : (k : ℕ) (d : ServerNode V D) → k < length xs → length (slice_index_or xs k d).inputs.items ≡ length xs
  pub links : (i j : ℕ) (d : ServerNode V D) (e : Sender) (f : Receiver) → i < length xs → j < length xs → IsLink (sender_of (slice_index_or xs i d) j e) (receiver_of (slice_index_or xs j d) i f)

-- how many letters are on the link from one node to another
abbrev pub on_link : {V : Type 0} {D : V → Type 0} → List (ServerNode V D) → ℕ → ℕ → ServerNode V D → Sender → Receiver → ℕ
on_link xs i j d e f = length (left (sender_of (slice_index_or xs i d) j e) (receiver_of (slice_index_or xs j d) i f))

-- some link holds a letter
abbrev pub SomeLeft : {V : Type 0} {D : V → Type 0} → List (ServerNode V D) → Type 0
SomeLeft {V} {D} xs = (i : ℕ) × (j : ℕ) × (i < length xs) × (j < length xs) × ((d : ServerNode V D) (e : Sender) (f : Receiver) → 0 < on_link xs i j d e f)

-- the links of which P holds, by sender and addressee, were settled, the others not touched, and b says whether one of the former holds a letter
pub record SettledSo {V : Type 0} {D : V → Type 0} (P : ℕ → ℕ → Type 0) (xs : List (ServerNode V D)) (b : Bool) (ys : List (ServerNode V D)) : Type 0 where
  pub long : length ys ≡ length xs
  pub kept : (k : ℕ) (d : ServerNode V D) → k < length xs → Fetched (slice_index_or xs k d) [] (slice_index_or ys k d)
  pub senders : (i j : ℕ) (d : ServerNode V D) (e : Sender) → i < length xs → j < length xs → (P i j → ⊥) → sender_of (slice_index_or ys i d) j e ≡ sender_of (slice_index_or xs i d) j e
  pub receivers : (i j : ℕ) (d : ServerNode V D) (f : Receiver) → i < length xs → j < length xs → (P i j → ⊥) → receiver_of (slice_index_or ys j d) i f ≡ receiver_of (slice_index_or xs j d) i f
  pub settled : (i j : ℕ) (d : ServerNode V D) (e : Sender) (f : Receiver) → i < length xs → j < length xs → P i j → IsSettled (sender_of (slice_index_or ys i d) j e) (receiver_of (slice_index_or ys j d) i f)
  pub some : b ≡ true → SomeLeft ys
  pub none : b ≡ false → (i j : ℕ) (d : ServerNode V D) (e : Sender) (f : Receiver) → i < length xs → j < length xs → P i j → on_link ys i j d e f ≡ 0

-- all links were settled, and b says whether one of them holds a letter
abbrev pub Settled : {V : Type 0} {D : V → Type 0} → List (ServerNode V D) → Bool → List (ServerNode V D) → Type 0
Settled xs b ys = SettledSo (λ i j. i < length xs) xs b ys

-- the two ends of a link were settled, and are these then
pub record EndsSettled (s : Sender) (r : Receiver) (b : Bool) (t : Sender) (q : Receiver) : Type 0 where
  pub sender : SameSender s t
  pub receiver : SameReceiver r q
  pub sent : all_sent t ≡ all_sent s
  pub given : given q ≡ given r
  pub settled : IsSettled t q
  pub value : IsTrue b ↔ (0 < length (left t q))

-- a node with another end of one link
abbrev pub with_sender : {V : Type 0} {D : V → Type 0} → ServerNode V D → ℕ → Sender → ServerNode V D
with_sender x k t = record x { outs = with_item x.outs k t }

abbrev pub with_receiver : {V : Type 0} {D : V → Type 0} → ServerNode V D → ℕ → Receiver → ServerNode V D
with_receiver x k q = record x { inputs = with_item x.inputs k q }

-- the nodes with other ends of the link from one of them to one of them
abbrev pub with_ends : {V : Type 0} {D : V → Type 0} → List (ServerNode V D) → ℕ → ℕ → Sender → Receiver → ServerNode V D → List (ServerNode V D)
with_ends xs i j t q d =
    let one = slice_set xs i (with_sender (slice_index_or xs i d) j t) in
    slice_set one j (with_receiver (slice_index_or one j d) i q)

-- the link from one node to another was settled, and nothing else was touched
pub record PairSettled {V : Type 0} {D : V → Type 0} (i j : ℕ) (xs : List (ServerNode V D)) (b : Bool) (ys : List (ServerNode V D)) : Type 0 where
  pub sender : Sender
  pub receiver : Receiver
  pub are : (d : ServerNode V D) → ys ≡ with_ends xs i j sender receiver d
  pub ends : (d : ServerNode V D) (e : Sender) (f : Receiver) → EndsSettled (sender_of (slice_index_or xs i d) j e) (receiver_of (slice_index_or xs j d) i f) b sender receiver
