use Rattle.std.proofs.Common.{◌≡◌, [], length}
use Rattle.raid_scan.specs.Words.{words_of}
use Rattle.raid_text.specs.Head.{sites_at}
use Rattle.raid_text.proofs.head.take_sites.Given as goal

abbrev pub invariant-loop-word : goal.invariant-loop-word
invariant-loop-word l = sites_at l.sites l.found (words_of l.rest) ≡ sites_at l.sites [] (words_of l.line)

abbrev pub decreases-loop-word : goal.decreases-loop-word
decreases-loop-word l = length (words_of l.rest)
