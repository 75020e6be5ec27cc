use Rattle.std.proofs.Common.{◌≡◌, ◌<◌, ◌≤◌, true, false, List, [], fold, take, length}
use Rattle.std.specs.List.{list_any, AllPairs}
use Rattle.raid_base.specs.declared.names.Txn.{Txn}
use Rattle.raid_base.specs.declared.entry.Noted.{Noted}
use Rattle.raid_rules.specs.Conflict as words
use Rattle.raid_conflict.specs.Arrange.{IsLeft}
use Rattle.raid_conflict.specs.Found.{is_marked}
use Rattle.raid_conflict.specs.Tables.{Tells}
use Rattle.raid_conflict.proofs.arrange.listing.Given as goal

-- what the rounds so far have listed; none is left before the first place
abbrev pub invariant-loop-round : goal.invariant-loop-round
invariant-loop-round l = record {
  listed : (view : List Noted) → Tells l.tables view → AllPairs (λ m n. m.at < n.at) view → IsLeft l.all l.fn.left.items [] →
      (l.listed ≡ fold (λ listed t. words.list_next (words.edges view) l.all listed) [] (take l._round-index l.all)) × IsLeft l.all l.left.items l.listed;
  less : (t : Txn) → is_marked l.left.items t ≡ true → is_marked l.fn.left.items t ≡ true;
  within : l.first ≤ length l.all;
  none : list_any (λ t. is_marked l.left.items t) (take l.first l.all) ≡ false;
}
