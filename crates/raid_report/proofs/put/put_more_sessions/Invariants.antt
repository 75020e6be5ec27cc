use Rattle.std.proofs.Common.{◌≡◌, ◌++◌, drop, map}
use Rattle.raid_report.specs.Spelling.{session_part, behind_commas}
use Rattle.raid_report.proofs.put.put_more_sessions.Given as goal

abbrev pub invariant-loop-session : goal.invariant-loop-session
invariant-loop-session l = l.out ++ behind_commas (map session_part (drop l.session-index l.sessions)) ≡ l.initial.out ++ behind_commas (map session_part l.sessions)
