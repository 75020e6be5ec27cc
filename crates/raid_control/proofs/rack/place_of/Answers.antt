use Rattle.std.proofs.Common.{sym, ◌∙◌}
use Rattle.raid_control.proofs.Racked.{found_at}
use Rattle.raid_control.proofs.rack.place_of.Goals as goal

pub returns-then-does_serve-clause-first : goal.returns-then-does_serve-clause-first
returns-then-does_serve-clause-first g c = found_at _ _ _ _ c.loop-k.invariant.0 c.loop-k-test.true c.index-slots-k.is (sym c.does_serve.ensures ∙ c.if-does_serve.true)
