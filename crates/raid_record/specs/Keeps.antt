-- What the tables of a history say, and which entry they may be given.
use Rattle.std.specs.Prelude.{◌≡◌, ◌≤◌, ℕ, ◌-◌, ◌==◌, nat_lt, Bool, true, false, not, ◌&&◌, List, find, filter_map, slice_index, slice_index_or, All}
use Rattle.std.specs.List.{list_any}
use Rattle.std.specs.Option.{option_map_or}
use Rattle.raid_base.specs.declared.names.Txn.{Txn}
use Rattle.raid_base.specs.declared.names.Site.{Site}
use Rattle.raid_base.specs.declared.request.Request.{Request}
use Rattle.raid_base.specs.declared.entry.Entry.{Entry}
use Rattle.raid_base.specs.declared.entry.Entry.TheVariants.{Begin, Read, Wait}
use Rattle.raid_base.specs.declared.entry.Noted.{Noted}
use Rattle.raid_base.specs.Names.{is_site, has_txn}
use Rattle.raid_workload.specs.declared.workload.Workload.{Workload}
use Rattle.raid_workload.specs.Parts.{txns, placement, home}
use Rattle.raid_rules.specs.Entries.{wait_of}
use Rattle.raid_rules.specs.History.{has_begun, waiting, is_waiting}
use Rattle.raid_legal.specs.Seen.{attempt, has_down_after, is_restart}
use Rattle.raid_steps.specs.Sequencer.{next_number}
use Rattle.raid_conflict.specs.declared.state.State.{State}
use Rattle.raid_conflict.specs.Live as graphs
use Rattle.raid_faillock.specs.Stands as faillocks
use Rattle.raid_faillock.specs.Stands.{is_of_sites}

-- the number of the site's least first attempt past a number that hasn't begun, 0 where none is left
abbrev pub next_past : Workload → List Noted → Site → ℕ → ℕ
next_past w p s after = option_map_or (λ (t : Txn). t.0) (find (λ t. nat_lt after t.0 && (attempt w t == 0 && is_site s (home w t) && not (has_begun p t))) (txns w)) 0

-- the list has, by site, the number of the transaction that the site begins next
abbrev pub AreNext : Workload → List ℕ → List Noted → Type 0
AreNext w numbers p = (s : Site) → 1 ≤ s.0 → s.0 ≤ 8 → slice_index numbers (s.0 - 1) ≡ next_number w p s

-- the transaction was aborted for a cause that lets its program be tried again, and its home has stayed up since
abbrev pub is_left : Workload → List Noted → Txn → Bool
is_left w p t = list_any (λ n. is_restart t n.entry && not (has_down_after p n.at (home w t))) p

-- just those transactions are marked
abbrev pub AreLeft : Workload → List Bool → List Noted → Type 0
AreLeft w marks p = (t : Txn) → slice_index_or marks t.0 false ≡ is_left w p t

-- the tables answer each question as the noted entries do; and each transaction that began is one of the workload, and each that waited began
pub record Stands (w : Workload) (g : State) (f : faillocks.Parts) (rs : List (Txn × Request)) (numbers : List ℕ) (marks : List Bool) (p : List Noted) : Type 0 where
  pub graph : graphs.Stands g p
  pub locks : faillocks.Stands f w.sites (placement w) p
  pub waits : rs ≡ waiting p
  pub nexts : AreNext w numbers p
  pub left : AreLeft w marks p
  pub begun : (t : Txn) → has_begun p t ≡ true → has_txn (txns w) t ≡ true
  pub waited : All (λ r. has_begun p r.0 ≡ true) (filter_map (λ n. wait_of n.entry) p)

-- a transaction that begins is one of the workload, a Wait comes of one that doesn't wait, and a read is served by one of the sites
abbrev pub is_fit : Workload → List Noted → Entry → Bool
is_fit w p (Begin t home) = has_txn (txns w) t
is_fit w p (Read t x site) = is_of_sites w.sites site
is_fit w p (Wait t request) = not (is_waiting p t)
is_fit w p other = true
