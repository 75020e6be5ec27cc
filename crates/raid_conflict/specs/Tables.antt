-- What the tables of a graph say of a list of noted entries.
use Rattle.std.specs.Prelude.{◌≡◌, ◌+◌, ◌-◌, ℕ, ℤ, true, false, ◌&&◌, List, [], ◌++◌, filter, flat_map, map, slice_index_or, slice_get, vec_len, vec_capacity, if◌then◌else◌}
use Rattle.std.specs.Option.{option_map_or}
use Rattle.raid_base.specs.declared.names.Txn.{Txn}
use Rattle.raid_base.specs.declared.names.Item.{Item}
use Rattle.raid_base.specs.declared.entry.Entry.{Entry}
use Rattle.raid_base.specs.declared.entry.Entry.TheVariants.{Read, Commit}
use Rattle.raid_base.specs.declared.entry.Noted.{Noted}
use Rattle.raid_base.specs.Names.{is_txn, is_item}
use Rattle.raid_rules.specs.declared.conflict.Action.{Action}
use Rattle.raid_rules.specs.History.{stamp, has_aborted}
use Rattle.raid_rules.specs.Conflict.{acts, committed}
use Rattle.raid_conflict.specs.declared.chains.Chain.{Chain}
use Rattle.raid_conflict.specs.declared.tables.Mark.{Mark}
use Rattle.raid_conflict.specs.declared.tables.Tables.{Tables}

-- the actions at a place, none past the end
abbrev pub chain_at : List Chain → ℕ → List Action
chain_at chains k = option_map_or (λ c. c.actions.items) (slice_get chains k) []

-- how many actions there is room for at a place
abbrev pub room : List Chain → ℕ → ℕ
room chains k = option_map_or (λ c. vec_capacity c.actions - vec_len c.actions) (slice_get chains k) 0

-- the writes of a Commit
abbrev pub writes_of : ℕ → Txn → List (Item × ℤ) → List Action
writes_of at by writes = map (λ p. record { at = at; by = by; item = p.0; writes = true }) writes

-- a transaction's mark, blank past the end
abbrev pub blank : Mark
blank = record { stamp = 0; aborted = false }

abbrev pub mark : Tables → Txn → Mark
mark t u = slice_index_or t.marks.items u.0 blank

-- the chains of what can conflict with an action: a read conflicts with no read
abbrev pub chains_against : Tables → Action → List Chain
chains_against t a = if a.writes then t.items.items else t.writes.items

-- the actions of a list, also those of the aborted
abbrev pub all_actions : List Noted → List Action
all_actions view = flat_map (λ n. acts n n.entry) view

-- how many places an entry needs: up to its transaction where it is a Read or Commit
abbrev pub places_of : Entry → ℕ
places_of (Read t x site) = t.0 + 1
places_of (Commit t request applied) = t.0 + 1
places_of other = 0

-- the tables answer each question as the list does
pub record Tells (t : Tables) (view : List Noted) : Type 0 where
  pub on : (x : Item) → chain_at t.items.items x.0 ≡ filter (λ a. is_item x a.item) (all_actions view)
  pub writes : (x : Item) → chain_at t.writes.items x.0 ≡ filter (λ a. a.writes && is_item x a.item) (all_actions view)
  pub own : (u : Txn) → chain_at t.own.items u.0 ≡ filter (λ a. is_txn u a.by) (all_actions view)
  pub stamps : (u : Txn) → (mark t u).stamp ≡ stamp view u
  pub aborted : (u : Txn) → (mark t u).aborted ≡ has_aborted view u
  pub committed : t.committed.items ≡ committed view

-- the tables answer as before
pub record AnswersAlike (t s : Tables) : Type 0 where
  pub on : (x : Item) → chain_at s.items.items x.0 ≡ chain_at t.items.items x.0
  pub writes : (x : Item) → chain_at s.writes.items x.0 ≡ chain_at t.writes.items x.0
  pub own : (u : Txn) → chain_at s.own.items u.0 ≡ chain_at t.own.items u.0
  pub marks : (u : Txn) → mark s u ≡ mark t u
  pub committed : s.committed.items ≡ t.committed.items

-- these actions of a transaction came last
pub record Acted (t s : Tables) (by : Txn) (actions : List Action) : Type 0 where
  pub on : (x : Item) → chain_at s.items.items x.0 ≡ chain_at t.items.items x.0 ++ filter (λ a. is_item x a.item) actions
  pub writes : (x : Item) → chain_at s.writes.items x.0 ≡ chain_at t.writes.items x.0 ++ filter (λ a. a.writes && is_item x a.item) actions
  pub own : (u : Txn) → chain_at s.own.items u.0 ≡ (if is_txn u by then chain_at t.own.items u.0 ++ actions else chain_at t.own.items u.0)
  pub marks : (u : Txn) → mark s u ≡ mark t u

-- the transaction has another mark
pub record Marked (t s : Tables) (of : Txn) (with : Mark) : Type 0 where
  pub on : (x : Item) → chain_at s.items.items x.0 ≡ chain_at t.items.items x.0
  pub writes : (x : Item) → chain_at s.writes.items x.0 ≡ chain_at t.writes.items x.0
  pub own : (u : Txn) → chain_at s.own.items u.0 ≡ chain_at t.own.items u.0
  pub marks : (u : Txn) → mark s u ≡ (if is_txn u of then with else mark t u)
  pub committed : s.committed.items ≡ t.committed.items
