-- The links between all servers before any letter is taken.
use Rattle.std.specs.Prelude.{◌≡◌, ◌≢◌, ℕ, ◌+◌, ◌<◌, ◌≤◌, List, [], ◌∷◌, ◌++◌, length, slice_index_or}
use Rattle.raid_workload.specs.declared.workload.Workload.{Workload}
use Rattle.raid_steps.specs.World.{link, open_world}
use Rattle.raid_link.specs.Link.{all_sent, given, IsLink, SameSender}
use Rattle.raid_link.specs.declared.ends.Sender.{Sender}
use Rattle.raid_link.specs.declared.ends.Receiver.{Receiver}

-- the two are the ends of a link on which no letter has been
pub record IsNew (s : Sender) (r : Receiver) : Type 0 where
  pub link : IsLink s r
  pub sent : all_sent s ≡ []
  pub given : given r ≡ []

-- what stands in a row of ends that send, and of ends that receive
abbrev pub out : List (List Sender) → ℕ → ℕ → Sender → Sender
out outs i j e = slice_index_or (slice_index_or outs i []) j e

abbrev pub input : List (List Receiver) → ℕ → ℕ → Receiver → Receiver
input inputs j i f = slice_index_or (slice_index_or inputs j []) i f

-- there is a new link to each of the first so many servers, whose rows have its other end as their last
pub record AddedUpTo (k : ℕ) (before : List (List Receiver)) (senders : List Sender) (after : List (List Receiver)) : Type 0 where
  pub long : length after ≡ length before
  pub many : length senders ≡ k
  pub added : (j : ℕ) → j < k → j < length before → (r : Receiver) × (slice_index_or after j [] ≡ slice_index_or before j [] ++ r ∷ []) × ((e : Sender) → IsNew (slice_index_or senders j e) r)
  pub rest : (j : ℕ) → k ≤ j → slice_index_or after j [] ≡ slice_index_or before j []

-- there is a new link from each of the first k servers to each of n
pub record AllLinks (k n : ℕ) (outs : List (List Sender)) (inputs : List (List Receiver)) : Type 0 where
  pub senders : length outs ≡ k
  pub receivers : length inputs ≡ n
  pub each_out : (i : ℕ) → i < k → length (slice_index_or outs i []) ≡ n
  pub each_input : (j : ℕ) → j < n → length (slice_index_or inputs j []) ≡ k
  pub are : (i j : ℕ) (e : Sender) (f : Receiver) → i < k → j < n → IsNew (out outs i j e) (input inputs j i f)

-- the sequencer has sent the letters that wait at the start on the links to the first so many servers
pub record Welcomed (w : Workload) (k : ℕ) (before after : List Sender) : Type 0 where
  pub long : length after ≡ length before
  pub same : (j : ℕ) (e : Sender) → j < length before → SameSender (slice_index_or before j e) (slice_index_or after j e)
  pub sent : (j : ℕ) (e : Sender) → j < length before → j < k → all_sent (slice_index_or after j e) ≡ link (open_world w).links j 1
  pub rest : (j : ℕ) (e : Sender) → j < length before → k ≤ j → all_sent (slice_index_or after j e) ≡ []

-- all rows but that with this number are as they were
pub record AreRest {X : Type 0} (number : ℕ) (before after : List (List X)) : Type 0 where
  pub long : length after ≡ length before
  pub same : (j : ℕ) → j ≢ number → slice_index_or after j [] ≡ slice_index_or before j []

-- the links are those of the world at the start
pub record AreOpened (w : Workload) (outs : List (List Sender)) (inputs : List (List Receiver)) : Type 0 where
  pub senders : length outs ≡ w.sites + 2
  pub receivers : length inputs ≡ w.sites + 2
  pub each_out : (i : ℕ) → i < w.sites + 2 → length (slice_index_or outs i []) ≡ w.sites + 2
  pub each_input : (j : ℕ) → j < w.sites + 2 → length (slice_index_or inputs j []) ≡ w.sites + 2
  pub are : (i j : ℕ) (e : Sender) (f : Receiver) → i < w.sites + 2 → j < w.sites + 2 → IsLink (out outs i j e) (input inputs j i f)
  pub sent : (i j : ℕ) (e : Sender) → i < w.sites + 2 → j < w.sites + 2 → all_sent (out outs i j e) ≡ link (open_world w).links j i
  pub given : (i j : ℕ) (f : Receiver) → i < w.sites + 2 → j < w.sites + 2 → given (input inputs j i f) ≡ []
