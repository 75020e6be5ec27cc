-- What programs get for their reads is what the history says that they have seen.
use Rattle.std.specs.Prelude.{◌≡◌, ℕ, ℤ, ◌+◌, ◌==◌, Bool, true, false, ◌&&◌, List, ◌∷◌, Option, Some, ⊤}
use Rattle.std.specs.List.{AllByRecursion}
use Rattle.raid_base.specs.declared.names.Txn.{Txn}
use Rattle.raid_base.specs.declared.names.Item.{Item}
use Rattle.raid_base.specs.declared.names.Site.{Site}
use Rattle.raid_base.specs.declared.entry.Noted.{Noted}
use Rattle.raid_base.specs.Names.{is_txn, is_item}
use Rattle.raid_workload.specs.declared.workload.Workload.{Workload}
use Rattle.raid_rules.specs.History.{has_ended}
use Rattle.raid_legal.specs.Seen.{seen}
use Rattle.raid_message.specs.declared.letter.Message.{Message}
use Rattle.raid_message.specs.declared.letter.Message.TheVariants as letters
use Rattle.raid_message.specs.declared.letter.Letter.{Letter}
use Rattle.raid_steps.specs.State.{asking, Copy, Running, SiteState}
use Rattle.raid_steps.specs.Copies.{copy_of}
use Rattle.raid_steps.specs.Programs.{running_of}
use Rattle.raid_steps.specs.World.{World, link}
use Rattle.raid_moves.specs.Moves.{Given}
use Rattle.raid_staged.specs.Staged.{history}
use Rattle.raid_versions.specs.Versions.{IsLive, Along}
use Rattle.raid_values.specs.Values.{committed_value}

-- an ask that is outstanding: the transaction, the place of its home, counted from 0, the home's session, the number of the ask, and the item
pub record Ask : Type 0 where
  pub txn : Txn
  pub place : ℕ
  pub session : ℕ
  pub number : ℕ
  pub item : Item

-- the message has the item read for the ask
abbrev pub reads_for : Ask → Message → Bool
reads_for a (letters.ReadDo t number x home session) = is_txn a.txn t && number == a.number && is_item a.item x && home.0 == a.place + 1 && session == a.session
reads_for a other = false

-- where it does, the value that a copy with this version has is the one that the transaction has seen
abbrev pub ReadsSeen : Workload → List Noted → Ask → ℕ → Message → List Letter → Type 0
ReadsSeen w p a version message behind = reads_for a message ≡ true → seen w p a.txn a.item ≡ Some (committed_value w p a.item version)

-- the message, meant for this session, brings a value for the ask
abbrev pub brings_for : Ask → ℕ → Message → Bool
brings_for a to (letters.Value t number v) = is_txn a.txn t && number == a.number && to == a.session
brings_for a to other = false

-- if it does, that value is the one that the transaction has seen
abbrev pub BringsSeen : Workload → List Noted → Ask → ℕ → Message → Type 0
BringsSeen w p a to (letters.Value t number v) = brings_for a to (letters.Value t number v) ≡ true → seen w p a.txn a.item ≡ Some v
BringsSeen w p a to other = ⊤

-- So it is of all that is on its way to answer the ask
pub record IsAnsweredBySeen (w : Workload) (p : List Noted) (sites : List SiteState) (links : List (List (List Letter))) (a : Ask) : Type 0 where
  -- at a live site, wherever its copy is to be read: the version is what the copy has there, after the Applies before
  pub read : (j : ℕ) (s : SiteState) (c : Copy) → IsLive p sites j s → copy_of s a.item ≡ Some c → Along (ReadsSeen w p a) p a.item s.session c.version (link links (j + 2) 1)
  -- what the site at a place has read, and sent to the home
  pub brought : (j : ℕ) → AllByRecursion (λ (l : Letter). BringsSeen w p a l.to l.message) (link links (a.place + 2) (j + 2))

-- at each live home, for each program that waits for an item, and whose transaction isn't over
abbrev pub GetWhatTheySaw : Workload → List Noted → List SiteState → List (List (List Letter)) → Type 0
GetWhatTheySaw w p sites links =
    (k : ℕ) (s : SiteState) (r : Running) (number : ℕ) (x : Item) (q : Option Site) → IsLive p sites k s → running_of s r.txn ≡ Some r → r.phase ≡ asking number x q → has_ended p r.txn ≡ false →
    IsAnsweredBySeen w p sites links (record { txn = r.txn; place = k; session = s.session; number = number; item = x })

-- so in a world
abbrev pub ProgramsGetWhatTheySaw : Workload → World → Type 0
ProgramsGetWhatTheySaw w state = GetWhatTheySaw w (history state) state.servers.sites state.links

-- what the letter that a live site hears next from a server gives to a program there for its ask, if the program's transaction isn't over, is
-- the value that the transaction has seen
abbrev pub GivesSeen : Workload → World → Type 0
GivesSeen w state =
    (k : ℕ) (s : SiteState) → IsLive (history state) state.servers.sites k s → (from : ℕ) (letter : Letter) (rest : List Letter) → link state.links (k + 2) from ≡ letter ∷ rest →
    (r : Running) (number : ℕ) (x : Item) (q : Option Site) (v : ℤ) → running_of s r.txn ≡ Some r → r.phase ≡ asking number x q → has_ended (history state) r.txn ≡ false →
    Given w s from letter r.txn number v → seen w (history state) r.txn x ≡ Some v
