-- What the step of one server may change.
use Rattle.std.specs.Prelude.{◌≡◌, ◌≢◌, ◌⊎◌, ℕ, ◌+◌, List, ◌++◌, drop, slice_get}
use Rattle.raid_message.specs.declared.letter.Letter.{Letter}
use Rattle.raid_message.specs.declared.letter.Pick.{Pick}
use Rattle.raid_steps.specs.World.{World, link}

-- the step changes only what is its server's own: its state, clock and journal. Of the letters on the way it takes the one that it was
-- given from the front of its link, and sends others, which stand behind what its links held
pub record ChangesOwn (p : Pick) (before after : World) : Type 0 where
  pub monitor : p.server ≢ 0 → after.servers.fired ≡ before.servers.fired
  pub sequencer : p.server ≢ 1 → after.servers.sequencer ≡ before.servers.sequencer
  pub sites : (k : ℕ) → p.server ≢ k + 2 → slice_get after.servers.sites k ≡ slice_get before.servers.sites k
  pub clocks : (k : ℕ) → k ≢ p.server → slice_get after.clocks k ≡ slice_get before.clocks k
  pub journals : (k : ℕ) → k ≢ p.server → slice_get after.journals k ≡ slice_get before.journals k
  pub taken : p.from ≢ p.server → link after.links p.server p.from ≡ drop 1 (link before.links p.server p.from)
  pub sent : (server : ℕ) → server ≢ p.server → (letters : List Letter) × (link after.links server p.server ≡ link before.links server p.server ++ letters)
  pub others : (server from : ℕ) → from ≢ p.server → (server ≢ p.server) ⊎ (from ≢ p.from) → link after.links server from ≡ link before.links server from
