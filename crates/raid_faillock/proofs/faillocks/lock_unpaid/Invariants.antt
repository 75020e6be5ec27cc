use Rattle.std.proofs.Common.{◌≡◌, ◌≤◌, ◌&&◌, ◌||◌, length, take}
use Rattle.std.specs.List.{list_any}
use Rattle.raid_base.specs.declared.names.Item.{Item}
use Rattle.raid_base.specs.declared.names.Site.{Site}
use Rattle.raid_base.specs.Names.{is_site}
use Rattle.raid_faillock.specs.Sets.{has_at}
use Rattle.raid_faillock.specs.Debts.{owes_in, wrote_in}
use Rattle.raid_faillock.proofs.faillocks.lock_unpaid.Given as goal

-- what the transactions so far wrote is locked
abbrev pub invariant-loop-txn : goal.invariant-loop-txn
invariant-loop-txn l = record {
  size : length l.locks ≡ length l.fn.locks;
  locks : (s : Site) (x : Item) → 1 ≤ s.0 → s.0 ≤ 8 → has_at l.locks x.0 s ≡ (has_at l.fn.locks x.0 s || (list_any (λ t. owes_in l.debts l.site t && wrote_in l.debts t x) (take l.txn-index l.debts.unpaid.items) && is_site s l.site && has_at l.holders x.0 s));
}
