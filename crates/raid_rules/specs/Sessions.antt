-- Sessions, owed Acks, fail-locks and sources. The placement has the holders of each item, ascending.
use Rattle.std.specs.Prelude.{ℕ, ◌-◌, nat_lt, Bool, false, not, ◌&&◌, ◌||◌, List, [], fold, filter, replicate, slice_set, slice_index_or, Option, Some, slice_get, if◌then◌else◌}
use Rattle.std.specs.List.{list_any}
use Rattle.raid_base.specs.declared.names.Txn.{Txn}
use Rattle.raid_base.specs.declared.names.Item.{Item}
use Rattle.raid_base.specs.declared.names.Site.{Site}
use Rattle.raid_base.specs.declared.entry.Entry.{Entry}
use Rattle.raid_base.specs.declared.entry.Entry.TheVariants.{Commit, Ack, Down, Up, Clear}
use Rattle.raid_base.specs.declared.entry.Noted.{Noted}
use Rattle.raid_base.specs.Names.{is_txn, is_item, is_site, has_site, holds}
use Rattle.raid_base.specs.Sites.{session, all_sites}
use Rattle.raid_rules.specs.Entries.{is_commit}
use Rattle.raid_rules.specs.History.{fold_seeing}

-- the vector with another session of the site
abbrev pub with_session : List ℕ → Site → ℕ → List ℕ
with_session v s session = slice_set v (s.0 - 1) session

-- what an entry does to the vector
abbrev pub turn_vector : List ℕ → Entry → List ℕ
turn_vector v (Down site) = with_session v site 0
turn_vector v (Up site session) = with_session v site session
turn_vector v other = v

-- the session of each of so many sites, 0 for one that is down
abbrev pub vector : ℕ → List Noted → List ℕ
vector sites p = fold (λ v n. turn_vector v n.entry) (replicate sites 1) p

-- the site's last session after the entry
abbrev pub turn_last : Site → ℕ → Entry → ℕ
turn_last s last (Up site session) = if is_site s site then session else last
turn_last s last other = last

-- the last session of the site, up or down
abbrev pub last_session : List Noted → Site → ℕ
last_session p s = fold (λ last n. turn_last s last n.entry) 1 p

-- the site has a session
abbrev pub is_site_up : List ℕ → Site → Bool
is_site_up v s = nat_lt 0 (session v s)

-- whether the site owes the transaction's Ack after the entry: from a Commit that is applied there until its Ack or a Down
abbrev pub turn_owed : Site → Txn → Bool → Entry → Bool
turn_owed s t owed (Commit u request applied) = owed || (is_txn t u && has_site applied s)
turn_owed s t owed (Ack u site) = owed && not (is_txn t u && is_site s site)
turn_owed s t owed (Down site) = owed && not (is_site s site)
turn_owed s t owed other = owed

-- the site owes an Ack for the transaction's Commit
abbrev pub owes : List Noted → Site → Txn → Bool
owes p s t = fold (λ owed n. turn_owed s t owed n.entry) false p

-- the site owes an Ack for a Commit that wrote the item
abbrev pub owes_for : List Noted → Site → Item → Bool
owes_for p s x = list_any (λ n. is_commit (λ t request. holds x request.writes && owes p s t) n.entry) p

-- whether the copy is locked after the entry: a Commit passed it by, or the site went down with its Ack owed
abbrev pub turn_lock : Site → Item → List Noted → Bool → Entry → Bool
turn_lock s x before locked (Commit t request applied) = if holds x request.writes then not (has_site applied s) else locked
turn_lock s x before locked (Down site) = locked || (is_site s site && owes_for before s x)
turn_lock s x before locked (Clear site y version) = locked && not (is_site s site && is_item x y)
turn_lock s x before locked other = locked

-- the sites that hold the item, none past the placement
abbrev pub holders : List (List Site) → Item → List Site
holders placement x = slice_index_or placement x.0 []

-- a copy at the site, if there is one, is locked
abbrev pub is_copy_locked : List Noted → Site → Item → Bool
is_copy_locked p s x = fold_seeing (λ before locked n. turn_lock s x before locked n.entry) [] false p

-- the site holds a copy of the item, and it is locked
abbrev pub is_locked : List (List Site) → List Noted → Site → Item → Bool
is_locked placement p s x = has_site (holders placement x) s && is_copy_locked p s x

-- the site is up and has an unlocked copy of the item
abbrev pub is_source : ℕ → List (List Site) → List Noted → Item → Site → Bool
is_source sites placement p x s = has_site (holders placement x) s && is_site_up (vector sites p) s && not (is_copy_locked p s x)

-- the sources of the item, ascending
abbrev pub sources : ℕ → List (List Site) → List Noted → Item → List Site
sources sites placement p x = filter (is_source sites placement p x) all_sites

-- of the sources found the home, where it is one, else the least
abbrev pub source_for : List Site → Site → Option Site
source_for found home = if has_site found home then Some home else slice_get found 0
