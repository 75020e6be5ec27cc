-- What each server does by itself, whatever the others do meanwhile, and what ties the servers together: the links.
use Rattle.std.specs.Prelude.{◌≡◌, ℕ, zero, suc, ◌+◌, ◌<◌, ◌≤◌, max, List, [], ◌∷◌, ◌++◌, length, map, fold, slice_get, slice_index, slice_index_or}
use Rattle.raid_workload.specs.declared.workload.Workload.{Workload}
use Rattle.raid_message.specs.declared.letter.Letter.{Letter}
use Rattle.raid_message.specs.declared.letter.Step.{Step}
use Rattle.raid_merge.specs.Merged.{of}
use Rattle.raid_steps.specs.State.{Out}
use Rattle.raid_steps.specs.World.{Servers, World, hear, session_of, link}

-- the letters that a server takes, in order, each with its sender's number
abbrev pub History : Type 0
History = List (ℕ × Letter)

-- a server by itself: the servers as its own steps have left them, its clock, its journal, and the letters that it has sent, in order, each
-- with its addressee's number
pub record Alone : Type 0 where
  pub servers : Servers
  pub clock : ℕ
  pub journal : List Step
  pub sent : List (ℕ × Letter)

-- a server by itself as it is in a world; it has sent nothing yet
abbrev pub alone : World → ℕ → Alone
alone s server = record { servers = s.servers; clock = slice_index s.clocks server; journal = slice_index_or s.journals server []; sent = [] }

-- the letter that a message becomes, with its addressee's number
abbrev pub letter_of : ℕ → ℕ → Out → ℕ × Letter
letter_of session clock out = (out.0, record { clock = clock; from = session; to = out.1; message = out.2 })

-- a server by itself after a step with this clock, over one more letter
abbrev pub hearing_at : Workload → ℕ → ℕ → Alone → ℕ × Letter → Alone
hearing_at w server clock a taken =
    let heard = hear w a.servers server taken.0 taken.1 in
    record {
      servers = heard.0;
      clock = clock;
      journal = a.journal ++ record { clock = clock; from = taken.0 } ∷ [];
      sent = a.sent ++ map (letter_of (session_of heard.0 server) clock) heard.1;
    }

-- a server by itself after one more letter: the step's clock is one more than the larger of its own and the letter's
abbrev pub hearing : Workload → ℕ → Alone → ℕ × Letter → Alone
hearing w server a taken = hearing_at w server (1 + max a.clock taken.1.clock) a taken

-- a server by itself, from a world on, after all letters of a history
abbrev pub after : Workload → World → ℕ → History → Alone
after w s server history = fold (hearing w server) (alone s server) history

-- the server's own state is the same in both
abbrev pub IsAlike : ℕ → Servers → Servers → Type 0
IsAlike zero s t = s.fired ≡ t.fired
IsAlike (suc zero) s t = s.sequencer ≡ t.sequencer
IsAlike (suc (suc k)) s t = slice_get s.sites k ≡ slice_get t.sites k

-- there is a link to each of so many servers from each
pub record HasLinks (servers : ℕ) (links : List (List (List Letter))) : Type 0 where
  pub count : length links ≡ servers
  pub rows : (server : ℕ) → server < servers → length (slice_index_or links server []) ≡ servers

-- the world has all servers of the workload, a clock and a journal for each, and the links between them
pub record IsWhole (w : Workload) (s : World) : Type 0 where
  pub sites : length s.servers.sites ≡ w.sites
  pub clocks : length s.clocks ≡ w.sites + 2
  pub journals : length s.journals ≡ w.sites + 2
  pub links : HasLinks (w.sites + 2) s.links

-- from the one world on, the servers come by themselves, each by its history, to their states, clocks and journals in the other; and on
-- each link the letters that were taken, and then those that are left, are those that it had, and then those that were sent on it. A server
-- that there isn't takes none
pub record Histories (w : Workload) (start : World) (histories : ℕ → History) (end : World) : Type 0 where
  pub whole : IsWhole w end
  pub none : (server : ℕ) → w.sites + 2 ≤ server → histories server ≡ []
  pub states : (server : ℕ) → server < w.sites + 2 → IsAlike server end.servers (after w start server (histories server)).servers
  pub clocks : (server : ℕ) → server < w.sites + 2 → slice_index end.clocks server ≡ (after w start server (histories server)).clock
  pub journals : (server : ℕ) → server < w.sites + 2 → slice_index_or end.journals server [] ≡ (after w start server (histories server)).journal
  pub links : (server from : ℕ) → server < w.sites + 2 →
      of from (histories server) ++ link end.links server from ≡ link start.links server from ++ of server (after w start from (histories from)).sent
