use Rattle.std.proofs.Common.{◌≡◌, ◌==◌, ◌<◌, ℕ, [], drop, length}
use Rattle.std.specs.List.{list_all}
use Rattle.raid_steps.specs.World.{link}
use Rattle.raid_links.proofs.links.first_full.Given as goal

-- those so far are empty
abbrev pub invariant-loop-server : goal.invariant-loop-server
invariant-loop-server l = record {
  rest : list_all (λ row. list_all (λ queue. length queue == 0) row) (drop l.server l.rows) ≡ list_all (λ row. list_all (λ queue. length queue == 0) row) l.rows;
  before : (server from : ℕ) → server < l.server → link l.rows server from ≡ [];
}
