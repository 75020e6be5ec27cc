use Rattle.std.proofs.Common.{◌≡◌, ◌&&◌, not, take}
use Rattle.raid_base.specs.declared.names.Txn.{Txn}
use Rattle.raid_base.specs.declared.names.Site.{Site}
use Rattle.raid_base.specs.Names.{is_site, has_txn}
use Rattle.raid_faillock.specs.Sets.{has_at}
use Rattle.raid_faillock.proofs.debts.pay_all.Given as goal

-- those of the transactions so far were taken
abbrev pub invariant-loop-txn : goal.invariant-loop-txn
invariant-loop-txn l = (s : Site) (t : Txn) → has_at l.owed.items t.0 s ≡ (has_at l.fn.owed.items t.0 s && not (has_txn (take l.txn-index l.txns) t && is_site s l.site))
