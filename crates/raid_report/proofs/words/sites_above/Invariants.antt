use Rattle.std.proofs.Common.{◌≡◌, ◌≤◌, length}
use Rattle.raid_pieces.specs.Pieces.{pieces, pieces_behind}
use Rattle.raid_report.specs.Forms.{sites_above}
use Rattle.raid_report.proofs.Loops.{prefixed, IsBelow}
use Rattle.raid_report.proofs.Ascending.{IsAbove}
use Rattle.raid_report.proofs.words.sites_above.Given as goal

abbrev pub invariant-loop-part : goal.invariant-loop-part
invariant-loop-part l = record {
  some : 1 ≤ l.last.0;
  few : l.last.0 ≤ 8;
  ascending : IsAbove 0 l.sites;
  below : IsBelow l.last.0 l.sites;
  read : prefixed l.sites (sites_above l.known l.last.0 (pieces_behind 44 l.rest)) ≡ sites_above l.known 0 (pieces 44 l.word);
}

abbrev pub decreases-loop-part : goal.decreases-loop-part
decreases-loop-part l = length l.rest
