use Rattle.std.proofs.Common.{◌≡◌, ◌++◌, drop, map, filter}
use Rattle.raid_base.specs.Names.{has_site}
use Rattle.raid_base.specs.Sites.{all_sites}
use Rattle.raid_text.specs.Spelling.{spaced, site_word}
use Rattle.raid_text.proofs.writing.put_sites.Given as goal

abbrev pub invariant-loop-before : goal.invariant-loop-before
invariant-loop-before l = l.out ++ spaced (map site_word (filter (has_site l.sites) (drop l.before all_sites))) ≡ l.initial.out ++ spaced (map site_word (filter (has_site l.sites) all_sites))
