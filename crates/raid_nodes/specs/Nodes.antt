-- What a server on a thread is: that of which state, and what it does with a letter.
use Rattle.std.specs.Prelude.{◌≡◌, ℕ, suc, ◌+◌, ◌<◌, ◌≤◌, false, List, ◌++◌, length, slice_get, slice_index_or, Some, ⊤}
use Rattle.raid_workload.specs.declared.workload.Workload.{Workload}
use Rattle.raid_message.specs.declared.letter.Letter.{Letter}
use Rattle.raid_boxed.specs.Boxed.{Says}
use Rattle.raid_steps.specs.World as steps
use Rattle.raid_steps.specs.World.{link}
use Rattle.raid_site.specs.Server as serving
use Rattle.raid_sequencer.specs.Runs as deciding
use Rattle.raid_merge.specs.Merged.{of}
use Rattle.raid_causes.specs.Histories.{Alone}
use Rattle.raid_causes.specs.Limited.{hearing_within}
use Rattle.raid_link.specs.Link.{all_sent, SameSender}
use Rattle.raid_link.specs.declared.ends.Sender.{Sender}
use Rattle.raid_nodes.specs.declared.server.Server.{Server}
use Rattle.raid_nodes.specs.declared.server.Server.TheVariants as servers
use Rattle.raid_nodes.specs.declared.node.ServerNode.{ServerNode}

-- the greatest clock
abbrev pub limit : ℕ
limit = 18446744073709551615

-- the server is the one that has this number in the state
abbrev pub IsServer : {V : Type 0} {D : V → Type 0} → ℕ → Server V D → steps.Servers → Type 0
IsServer number (servers.Monitor fired) s = (number ≡ 0) × (fired ≡ s.fired)
IsServer number (servers.Sequencer q) s = (number ≡ 1) × deciding.Tells q s.sequencer
IsServer number (servers.Site site) s = (k : ℕ) × (number ≡ suc (suc k)) × (slice_get s.sites k ≡ Some (serving.state_of site))

-- how many letters it has heard, as far as it counts them: the monitor does not
abbrev pub heard : {V : Type 0} {D : V → Type 0} → Server V D → ℕ
heard (servers.Monitor fired) = 0
heard (servers.Sequencer q) = deciding.heard q
heard (servers.Site site) = serving.heard site

-- the server was not refused memory, and rests on what it has to
abbrev pub GoesOn : {V : Type 0} {D : V → Type 0} → Says V D → Workload → Server V D → Type 0
GoesOn say w (servers.Monitor fired) = ⊤
GoesOn say w (servers.Sequencer q) = deciding.Runs say q × (deciding.workload_of q ≡ w) × (deciding.is_finished q ≡ false)
GoesOn say w (servers.Site site) = serving.IsRun w site × (serving.is_finished site ≡ false)

-- the letters were sent, in order, each by the sender with its number
pub record AreSent (letters : List (ℕ × Letter)) (before after : List Sender) : Type 0 where
  pub count : length after ≡ length before
  pub sent : (k : ℕ) (d : Sender) → k < length before → all_sent (slice_index_or after k d) ≡ all_sent (slice_index_or before k d) ++ of k letters
  pub same : (k : ℕ) (d : Sender) → k < length before → SameSender (slice_index_or before k d) (slice_index_or after k d)

-- a node that goes on: its server does, it is that of some state, it has its ends of all links, and it has heard no more letters than its
-- journal has steps
pub record Goes {V : Type 0} {D : V → Type 0} (say : Says V D) (w : Workload) (x : ServerNode V D) : Type 0 where
  pub server : GoesOn say w x.server
  pub state : steps.Servers
  pub is : IsServer x.number x.server state
  pub heard : heard x.server ≤ length x.journal
  pub outs : length x.outs.items ≡ w.sites + 2
  pub inputs : length x.inputs.items ≡ w.sites + 2

-- the node is a server by itself, where the links had these letters before it sent any
pub record IsAlone {V : Type 0} {D : V → Type 0} (links : List (List (List Letter))) (x : ServerNode V D) (a : Alone) : Type 0 where
  pub server : IsServer x.number x.server a.servers
  pub clock : x.clock ≡ a.clock
  pub journal : x.journal ≡ a.journal
  pub sent : (k : ℕ) (d : Sender) → k < length x.outs.items → all_sent (slice_index_or x.outs.items k d) ≡ link links k x.number ++ of k a.sent

-- the node has taken in one letter, that of the server with the number beside it: it is what a server by itself is after the letter
pub record Heard {V : Type 0} {D : V → Type 0} (w : Workload) (x : ServerNode V D) (taken : ℕ × Letter) (y : ServerNode V D) : Type 0 where
  pub alone : (links : List (List (List Letter))) (a : Alone) → IsAlone links x a → IsAlone links y (hearing_within w limit x.number a taken)
  pub number : y.number ≡ x.number
  pub steps : length y.journal ≡ length x.journal + 1
  pub outs : length y.outs.items ≡ length x.outs.items
  pub same : (k : ℕ) (d : Sender) → k < length x.outs.items → SameSender (slice_index_or x.outs.items k d) (slice_index_or y.outs.items k d)
  pub inputs : y.inputs ≡ x.inputs
