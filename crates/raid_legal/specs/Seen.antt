-- What a prefix of a history says, read with its workload: what each transaction has seen, which sites are up, and who may begin next.
use Rattle.std.specs.Prelude.{ℕ, ℤ, ◌-◌, ◌==◌, nat_lt, Bool, true, false, not, ◌&&◌, List, [], filter, find, length, Option, Some, None, if◌then◌else◌}
use Rattle.std.specs.List.{list_any}
use Rattle.raid_base.specs.declared.names.Txn.{Txn}
use Rattle.raid_base.specs.declared.names.Item.{Item}
use Rattle.raid_base.specs.declared.names.Site.{Site}
use Rattle.raid_base.specs.declared.entry.Cause.{Cause}
use Rattle.raid_base.specs.declared.entry.Cause.TheVariants.{Own, Overflow, HomeDown, NoCopy}
use Rattle.raid_base.specs.declared.entry.Entry.{Entry}
use Rattle.raid_base.specs.declared.entry.Noted.{Noted}
use Rattle.raid_base.specs.Names.{is_txn, is_site, has_site, attempt_of}
use Rattle.raid_workload.specs.declared.workload.Workload.{Workload}
use Rattle.raid_workload.specs.Parts.{txns, sites, placement, initial, home, program}
use Rattle.raid_program.specs.declared.program.Outcome.{Outcome}
use Rattle.raid_program.specs.Run.{Answers, outcome_of}
use Rattle.raid_rules.specs.Entries.{is_abort, is_down, reads_item}
use Rattle.raid_rules.specs.History.{fold_seeing, is_running, has_begun, value}
use Rattle.raid_rules.specs.Sessions as rules

-- the running transactions, least number first: those that a switch or a Down may abort
abbrev pub running : Workload → List Noted → List Txn
running w p = filter (is_running p) (txns w)

-- an item's value after the prefix: that of the last Commit that wrote it, else its initial one
abbrev pub value_of : Workload → List Noted → Item → ℤ
value_of w p x = value (initial w x) p x

-- what the transaction has read: for each item the value that it had just before the transaction's last Read of it
abbrev pub seen : Workload → List Noted → Txn → Answers
seen w p t x = fold_seeing (λ before v n. if reads_item t x n.entry then Some (value_of w before x) else v) [] None p

-- how the transaction's program runs on what it has seen: what it asks for next, or how it has ended
abbrev pub outcome : Workload → List Noted → Txn → Outcome
outcome w p t = outcome_of (program w t) (seen w p t)

-- the session of each site, 0 for one that is down
abbrev pub vector : Workload → List Noted → List ℕ
vector w p = rules.vector w.sites p

-- the site is up
abbrev pub is_up : Workload → List Noted → Site → Bool
is_up w p s = rules.is_site_up (vector w p) s

-- the site holds a copy of the item that has missed a write, so that nobody may read it
abbrev pub is_locked : Workload → List Noted → Site → Item → Bool
is_locked w p s x = rules.is_locked (placement w) p s x

-- the sites that may serve a read of the item, least first
abbrev pub sources : Workload → List Noted → Item → List Site
sources w p x = rules.sources w.sites (placement w) p x

-- the site holds one of the written items, so that it takes part in the commit
abbrev pub holds_some : Workload → List (Item × ℤ) → Site → Bool
holds_some w writes s = list_any (λ pair. has_site (rules.holders (placement w) pair.0) s) writes

-- the up sites that hold a written item, least first: where a Commit is applied
abbrev pub up_holders : Workload → List Noted → List (Item × ℤ) → List Site
up_holders w p writes = filter (λ s. is_up w p s && holds_some w writes s) (sites w)

-- which attempt at its program the transaction is, 0 for the first
abbrev pub attempt : Workload → Txn → ℕ
attempt w t = attempt_of t (length w.programs)

-- the transaction that the home begins next: its least first attempt that hasn't begun
abbrev pub next_of : Workload → List Noted → Site → Option Txn
next_of w p s = find (λ t. attempt w t == 0 && is_site s (home w t) && not (has_begun p t)) (txns w)

-- a transaction that is aborted so may be tried again: not one that ended itself, lost its home, or found no copy
abbrev pub is_restartable : Cause → Bool
is_restartable Own = false
is_restartable Overflow = false
is_restartable HomeDown = false
is_restartable NoCopy = false
is_restartable other = true

-- the site has gone down after the entry with this number
abbrev pub has_down_after : List Noted → ℕ → Site → Bool
has_down_after p k s = list_any (λ n. nat_lt k n.at && is_down (is_site s) n.entry) p

-- the transaction that was the attempt before this one, at the same program
abbrev pub previous : Workload → Txn → Txn
previous w t = record { 0 = t.0 - length w.programs }

-- the entry aborts the transaction for a cause that lets it be tried again
abbrev pub is_restart : Txn → Entry → Bool
is_restart t = is_abort (λ u cause. is_txn t u && is_restartable cause)

-- the transaction is a new attempt that is due: the one before was aborted so, and their home has stayed up since
abbrev pub again : Workload → List Noted → Txn → Bool
again w p t = nat_lt 0 (attempt w t) && list_any (λ n. is_restart (previous w t) n.entry && not (has_down_after p n.at (home w t))) p
