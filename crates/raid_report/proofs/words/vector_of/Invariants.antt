use Rattle.std.proofs.Common.{◌≡◌, ◌≤◌, ◌-◌, length, take, drop, replicate}
use Rattle.raid_pieces.specs.Pieces.{pieces, pieces_behind}
use Rattle.raid_report.specs.Forms.{all_sessions}
use Rattle.raid_report.proofs.Loops.{prefixed}
use Rattle.raid_report.proofs.words.vector_of.Given as goal

abbrev pub invariant-loop-part : goal.invariant-loop-part
invariant-loop-part l = record {
  some : 1 ≤ l.count;
  few : l.count ≤ l.sites;
  long : length l.sessions ≡ 8;
  zeros : drop l.count l.sessions ≡ replicate (8 - l.count) 0;
  read : prefixed (take l.count l.sessions) (all_sessions (pieces_behind 44 l.rest)) ≡ all_sessions (pieces 44 l.word);
}

abbrev pub decreases-loop-part : goal.decreases-loop-part
decreases-loop-part l = length l.rest
