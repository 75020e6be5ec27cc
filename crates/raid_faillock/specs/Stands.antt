-- The fail-locks: which lists of noted entries they stand for, and how an entry changes them.
use Rattle.std.specs.Prelude.{◌≡◌, ◌≤◌, nat_le, ℕ, Bool, true, not, ◌&&◌, ◌||◌, List, length, if◌then◌else◌}
use Rattle.std.specs.List.{list_any}
use Rattle.raid_base.specs.declared.names.Txn.{Txn}
use Rattle.raid_base.specs.declared.names.Item.{Item}
use Rattle.raid_base.specs.declared.names.Site.{Site}
use Rattle.raid_base.specs.declared.entry.Entry.{Entry}
use Rattle.raid_base.specs.declared.entry.Entry.TheVariants.{Commit, Ack, Down, Up, Clear}
use Rattle.raid_base.specs.declared.entry.Noted.{Noted}
use Rattle.raid_base.specs.Names.{is_item, is_site, has_site, holds}
use Rattle.raid_base.specs.Sites.{all_sites}
use Rattle.raid_workload.specs.Parts.{count_from}
use Rattle.raid_rules.specs.Entries.{writes_item}
use Rattle.raid_rules.specs.Sessions.{vector, turn_vector, owes, is_locked, is_site_up}
use Rattle.raid_faillock.specs.declared.debts.Debts.{Debts}
use Rattle.raid_faillock.specs.Sets.{has_at}
use Rattle.raid_faillock.specs.Debts.{owes_in, wrote_in, AreListed, owed_for, DebtsTurn, DebtsAlike}

-- what is kept: the holders of each item and the sites whose copies of it are locked, what is owed, and the vector
pub record Parts : Type 0 where
  pub holders : List (List Site)
  pub locks : List (List Site)
  pub debts : Debts
  pub vector : List ℕ

-- the fail-locks answer each question as the noted entries do
pub record Stands (f : Parts) (sites : ℕ) (placement : List (List Site)) (p : List Noted) : Type 0 where
  pub holders : f.holders ≡ placement
  pub locks : (s : Site) (x : Item) → 1 ≤ s.0 → s.0 ≤ 8 → has_at f.locks x.0 s ≡ is_locked placement p s x
  pub owed : (s : Site) (t : Txn) → 1 ≤ s.0 → s.0 ≤ 8 → owes_in f.debts s t ≡ owes p s t
  pub wrote : (t : Txn) (x : Item) → wrote_in f.debts t x ≡ list_any (λ n. writes_item t x n.entry) p
  pub listed : AreListed f.debts
  pub vector : f.vector ≡ vector sites p
  pub count : length f.vector ≡ sites

-- the site is one of so many
abbrev pub is_of_sites : ℕ → Site → Bool
is_of_sites sites s = nat_le 1 s.0 && nat_le s.0 sites

-- the site that an entry says something of is one of so many
abbrev pub names_sites : ℕ → Entry → Bool
names_sites sites (Ack t s) = is_of_sites sites s
names_sites sites (Down s) = is_of_sites sites s
names_sites sites (Up s session) = is_of_sites sites s
names_sites sites (Clear s x version) = is_of_sites sites s
names_sites sites other = true

-- some site's copy of some item of the placement is locked
abbrev pub is_any_locked : List (List Site) → List Noted → Bool
is_any_locked placement p = list_any (λ k. list_any (λ s. is_locked placement p s (let x : Item = record { 0 = k } in x)) all_sites) (count_from 0 (length placement))

-- the site's copy of some item of the placement is locked
abbrev pub is_any_locked_at : List (List Site) → List Noted → Site → Bool
is_any_locked_at placement p s = list_any (λ k. is_locked placement p s (let x : Item = record { 0 = k } in x)) (count_from 0 (length placement))

-- the site is up, and holds an unlocked copy of the item
abbrev pub serves : Parts → Item → Site → Bool
serves f x s = has_at f.holders x.0 s && is_site_up f.vector s && not (has_at f.locks x.0 s)

-- whether a site's copy of an item is locked after an entry, given whether the site holds one, and owes an acknowledgement for it
abbrev pub turn_held : Site → Item → Bool → Bool → Bool → Entry → Bool
turn_held s x held owed locked (Commit t request applied) = if holds x request.writes then held && not (has_site applied s) else locked
turn_held s x held owed locked (Down site) = locked || (owed && is_site s site && held)
turn_held s x held owed locked (Clear site y version) = locked && not (is_site s site && is_item x y)
turn_held s x held owed locked other = locked

-- what is said after an entry
pub record Turns (f g : Parts) (e : Entry) : Type 0 where
  pub holders : g.holders ≡ f.holders
  pub locks : (s : Site) (x : Item) → 1 ≤ s.0 → s.0 ≤ 8 → has_at g.locks x.0 s ≡ turn_held s x (has_at f.holders x.0 s) (owed_for f.debts s x) (has_at f.locks x.0 s) e
  pub debts : DebtsTurn f.debts g.debts e
  pub vector : g.vector ≡ turn_vector f.vector e

-- the same is said
pub record Alike (f g : Parts) : Type 0 where
  pub holders : g.holders ≡ f.holders
  pub locks : g.locks ≡ f.locks
  pub debts : DebtsAlike f.debts g.debts
  pub vector : g.vector ≡ f.vector
