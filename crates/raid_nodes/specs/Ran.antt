-- A run of the nodes of a workload: from what it begins, and to what end it comes.
use Rattle.std.specs.Prelude.{◌≡◌, ℕ, zero, suc, ◌+◌, ◌<◌, ◌≤◌, Bool, List, [], ◌∷◌, length, map, slice_get, slice_index_or}
use Rattle.std.specs.Option.{option_map_or}
use Rattle.raid_base.specs.declared.report.CopyLine.{CopyLine}
use Rattle.raid_workload.specs.declared.workload.Workload.{Workload}
use Rattle.raid_boxed.specs.Boxed.{Says}
use Rattle.raid_steps.specs.World as steps
use Rattle.raid_steps.specs.World.{World, open_world, first_servers, is_idle, copy_lines}
use Rattle.raid_causes.specs.Histories.{History, Histories, alone}
use Rattle.raid_link.specs.Link.{given}
use Rattle.raid_link.specs.declared.ends.Receiver.{Receiver}
use Rattle.raid_nodes.specs.Nodes.{limit, IsServer, GoesOn, heard, Goes, IsAlone}
use Rattle.raid_nodes.specs.Settled.{receiver_of, WholeNodes}
use Rattle.raid_nodes.specs.declared.server.Server.{Server}
use Rattle.raid_nodes.specs.declared.node.ServerNode.{ServerNode}

-- the server is the one with this number, as before any letter
pub record IsFirst {V : Type 0} {D : V → Type 0} (say : Says V D) (w : Workload) (k : ℕ) (server : Server V D) : Type 0 where
  pub goes : GoesOn say w server
  pub is : IsServer k server (first_servers w)
  pub none : heard server ≡ 0

-- the nodes are the servers of the workload before any letter
pub record AreOpen {V : Type 0} {D : V → Type 0} (say : Says V D) (w : Workload) (xs : List (ServerNode V D)) : Type 0 where
  pub whole : WholeNodes xs
  pub count : length xs ≡ w.sites + 2
  pub go : (k : ℕ) (d : ServerNode V D) → k < length xs → Goes say w (slice_index_or xs k d)
  pub alone : (k : ℕ) (d : ServerNode V D) → k < length xs → IsAlone (open_world w).links (slice_index_or xs k d) (alone (open_world w) k)
  pub given : (k j : ℕ) (d : ServerNode V D) (f : Receiver) → k < length xs → j < length xs → given (receiver_of (slice_index_or xs k d) j f) ≡ []

-- the nodes are the servers of this state
pub record AreServers {V : Type 0} {D : V → Type 0} (w : Workload) (xs : List (ServerNode V D)) (s : steps.Servers) : Type 0 where
  pub count : length xs ≡ w.sites + 2
  pub sites : length s.sites ≡ w.sites
  pub are : (k : ℕ) (d : ServerNode V D) → k < length xs → IsServer k (slice_index_or xs k d).server s

-- from the start on each node has gone by itself, by the letters that it took, to its part of an end, and the links have lost none. b says
-- whether no letter is left on any link
pub record Ran {V : Type 0} {D : V → Type 0} (w : Workload) (b : Bool) (xs : List (ServerNode V D)) : Type 0 where
  pub end : World
  pub histories : ℕ → History
  pub are : Histories w (open_world w) histories end
  pub servers : AreServers w xs end.servers
  pub journals : end.journals ≡ map (λ (x : ServerNode V D). x.journal) xs
  pub idle : is_idle end ≡ b

-- no node's clock has come to the greatest one
abbrev pub BelowLimit : {V : Type 0} {D : V → Type 0} → List (ServerNode V D) → Type 0
BelowLimit {V} {D} xs = (k : ℕ) (d : ServerNode V D) → k < length xs → (slice_index_or xs k d).clock < limit

-- how many steps the nodes have taken in all
abbrev pub all_steps : {V : Type 0} {D : V → Type 0} → List (ServerNode V D) → ℕ
all_steps [] = 0
all_steps (x ∷ xs) = length x.journal + all_steps xs

-- all nodes go on
abbrev pub AllGo : {V : Type 0} {D : V → Type 0} → Says V D → Workload → List (ServerNode V D) → Type 0
AllGo {V} {D} say w xs = (k : ℕ) (d : ServerNode V D) → k < length xs → Goes say w (slice_index_or xs k d)

-- what is told of the copies of a server: none where it is no site's
abbrev pub lines_at : ℕ → steps.Servers → List CopyLine
lines_at zero s = []
lines_at (suc zero) s = []
lines_at (suc (suc k)) s = option_map_or copy_lines (slice_get s.sites k) []
