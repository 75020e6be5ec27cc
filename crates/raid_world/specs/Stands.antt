-- What a world in memory is: that of which state, and what holds of it between two picks.
use Rattle.std.specs.Prelude.{◌≡◌, ℕ, zero, suc, ◌+◌, ◌<◌, ◌≤◌, max, Bool, false, List, [], map, fold, length, slice_get, slice_index, slice_index_or}
use Rattle.std.specs.List.{All, sum_by}
use Rattle.std.specs.Option.{option_map_or}
use Rattle.raid_base.specs.Sites.{site}
use Rattle.raid_workload.specs.declared.workload.Workload.{Workload}
use Rattle.raid_workload.specs.Parts.{count_from}
use Rattle.raid_message.specs.declared.letter.Letter.{Letter}
use Rattle.raid_message.specs.declared.letter.Step.{Step}
use Rattle.raid_steps.specs.State as states
use Rattle.raid_steps.specs.World as steps
use Rattle.raid_site.specs.declared.server.SiteServer.{SiteServer}
use Rattle.raid_site.specs.Server as serving
use Rattle.raid_boxed.specs.Boxed.{Says}
use Rattle.raid_sequencer.specs.Runs as deciding
use Rattle.raid_world.specs.declared.servers.Servers.{Servers}
use Rattle.raid_world.specs.declared.world.World.{World}

-- the servers are those of the state
pub record Are {V : Type 0} {D : V → Type 0} (servers : Servers V D) (s : steps.Servers) : Type 0 where
  pub monitor : servers.monitor ≡ s.fired
  pub sequencer : deciding.Tells servers.sequencer s.sequencer
  pub sites : map serving.state_of servers.sites.items ≡ s.sites

-- how many letters a server has heard that counts them: the sequencer, or a site
abbrev pub heard : {V : Type 0} {D : V → Type 0} → Servers V D → ℕ → ℕ
heard servers zero = 0
heard servers (suc zero) = deciding.heard servers.sequencer
heard servers (suc (suc k)) = option_map_or serving.heard (slice_get servers.sites.items k) 0

-- no server has heard a letter
pub record NoneHeard {V : Type 0} {D : V → Type 0} (servers : Servers V D) : Type 0 where
  pub none : (k : ℕ) → heard servers k ≡ 0

-- a site's server goes on
pub record GoesOn (w : Workload) (server : SiteServer) : Type 0 where
  pub run : serving.IsRun w server
  pub live : serving.is_finished server ≡ false

-- the servers go on: none was refused memory, each rests on what it has to, there are as many as the workload has, and the sequencer is
-- that of some state
pub record Go {V : Type 0} {D : V → Type 0} (say : Says V D) (w : Workload) (servers : Servers V D) : Type 0 where
  pub sequencer : deciding.Runs say servers.sequencer
  pub workload : deciding.workload_of servers.sequencer ≡ w
  pub live : deciding.is_finished servers.sequencer ≡ false
  pub state : states.Sequencer
  pub tells : deciding.Tells servers.sequencer state
  pub count : length servers.sites.items ≡ w.sites
  pub sites : All (GoesOn w) servers.sites.items

-- these are the servers of the first sites, so many, as before any letter
pub record AreFirst (w : Workload) (n : ℕ) (sites : List SiteServer) : Type 0 where
  pub states : map serving.state_of sites ≡ map (steps.first_site w) (map site (count_from 1 n))
  pub go : All (GoesOn w) sites
  pub heard : All (λ server. serving.heard server ≡ 0) sites

-- there are so many servers: a link to each from each
pub record AreLinks (servers : ℕ) (links : List (List (List Letter))) : Type 0 where
  pub count : length links ≡ servers
  pub rows : (k : ℕ) → k < servers → length (slice_index_or links k []) ≡ servers

-- how many steps the servers have taken together, and how many one of them has taken at most
abbrev pub all_steps : List (List Step) → ℕ
all_steps journals = sum_by length journals

abbrev pub most_steps : List (List Step) → ℕ
most_steps journals = fold (λ n (j : List Step). max n (length j)) 0 journals

-- the letter's clock is not beyond this
abbrev pub InTime : ℕ → Letter → Type 0
InTime most l = l.clock ≤ most

-- no clock, of a server or of a letter on its way, is beyond this
pub record AreClocks (most : ℕ) (links : List (List (List Letter))) (clocks : List ℕ) : Type 0 where
  pub servers : (k : ℕ) → slice_index clocks k ≤ most
  pub letters : All (All (All (InTime most))) links

-- the world was refused memory
abbrev pub is_finished : {V : Type 0} {D : V → Type 0} → World V D → Bool
is_finished world = world.finished

-- the most steps that one server has taken
abbrev pub steps_of : {V : Type 0} {D : V → Type 0} → World V D → ℕ
steps_of world = most_steps world.times.journals.items

-- the world is that of the state
pub record Stands {V : Type 0} {D : V → Type 0} (world : World V D) (s : steps.World) : Type 0 where
  pub servers : Are world.servers s.servers
  pub links : world.links ≡ s.links
  pub clocks : world.times.clocks.items ≡ s.clocks
  pub journals : world.times.journals.items ≡ s.journals

-- a world that goes on: its servers do, there are a clock and a journal for each, no server has heard more letters than its journal has
-- steps, and no clock is beyond the number of steps
pub record Live {V : Type 0} {D : V → Type 0} (say : Says V D) (w : Workload) (world : World V D) : Type 0 where
  pub servers : Go say w world.servers
  pub clocks : length world.times.clocks.items ≡ w.sites + 2
  pub journals : length world.times.journals.items ≡ w.sites + 2
  pub heard : (k : ℕ) → heard world.servers k ≤ length (slice_index_or world.times.journals.items k [])
  pub times : AreClocks (all_steps world.times.journals.items) world.links world.times.clocks.items

-- what holds of a world of the workload between two picks: it has its links, and until memory was wanted it goes on
pub record Runs {V : Type 0} {D : V → Type 0} (say : Says V D) (w : Workload) (world : World V D) : Type 0 where
  pub links : AreLinks (w.sites + 2) world.links
  pub live : is_finished world ≡ false → Live say w world
