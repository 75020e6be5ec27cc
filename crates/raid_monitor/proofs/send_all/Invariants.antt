use Rattle.std.proofs.Common.{◌≡◌, ◌++◌, map, drop}
use Rattle.raid_steps.specs.Monitor.{event_out}
use Rattle.raid_monitor.proofs.send_all.Given as goal

-- what is left is still to be sent
abbrev pub invariant-loop-event : goal.invariant-loop-event
invariant-loop-event l = l.outs ++ map event_out (drop l.event-index l.events) ≡ l.fn.outs ++ map event_out l.events
