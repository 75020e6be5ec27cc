-- That a session of a site is over, and how often a transaction was let read.
use Rattle.std.specs.Prelude.{◌≡◌, ℕ, ◌-◌, ◌<◌, true, List, Some, slice_get, count_by}
use Rattle.raid_base.specs.declared.names.Txn.{Txn}
use Rattle.raid_base.specs.declared.names.Site.{Site}
use Rattle.raid_base.specs.declared.entry.Noted.{Noted}
use Rattle.raid_base.specs.Names.{is_txn}
use Rattle.raid_rules.specs.Entries.{is_read}
use Rattle.raid_steps.specs.State.{SiteState}

-- the site's session has ended: it has stopped, or come up in a later one
abbrev pub HasEnded : List SiteState → Site → ℕ → Type 0
HasEnded sites s n = (own : SiteState) → slice_get sites (s.0 - 1) ≡ Some own → own.up ≡ true → n < own.session

-- how many Reads of the transaction the history has
abbrev pub count_reads : List Noted → Txn → ℕ
count_reads p t = count_by (λ n. is_read (λ u x s. is_txn t u) n.entry) p
