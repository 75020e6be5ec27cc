use Rattle.std.proofs.Common.{◌≡◌, ◌++◌, drop, filter}
use Rattle.raid_base.specs.Names.{has_site}
use Rattle.raid_base.specs.Sites.{all_sites}
use Rattle.raid_report.proofs.Sets.{marked}
use Rattle.raid_report.proofs.put.put_set.Given as goal

abbrev pub invariant-loop-before : goal.invariant-loop-before
invariant-loop-before l = l.out ++ marked l.mark (filter (has_site l.sites) (drop l.before all_sites)) ≡ l.initial.out ++ marked 32 l.sites
