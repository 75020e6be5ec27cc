-- Which versions copies have, and which they get by what is on its way to their sites. No value of an item is in it.
use Rattle.std.specs.Prelude.{◌≡◌, ◌⊎◌, ℕ, ◌+◌, ◌<◌, ◌≤◌, ◌==◌, Bool, true, false, ◌&&◌, List, [], ◌∷◌, fold, Some, slice_get, ⊤, if◌then◌else◌}
use Rattle.std.specs.List.{AllByRecursion, list_any}
use Rattle.raid_base.specs.declared.names.Txn.{Txn}
use Rattle.raid_base.specs.declared.names.Item.{Item}
use Rattle.raid_base.specs.declared.names.Site.{Site}
use Rattle.raid_base.specs.declared.entry.Noted.{Noted}
use Rattle.raid_base.specs.Names.{is_item, holds}
use Rattle.raid_base.specs.Sites.{site}
use Rattle.raid_rules.specs.Entries.{writes_of, writes_item}
use Rattle.raid_rules.specs.History.{noted, has_committed, version}
use Rattle.raid_rules.specs.Sessions.{last_session, owes, is_copy_locked}
use Rattle.raid_message.specs.declared.letter.Message.{Message}
use Rattle.raid_message.specs.declared.letter.Message.TheVariants as letters
use Rattle.raid_message.specs.declared.letter.Letter.{Letter}
use Rattle.raid_steps.specs.State.{Copy, SiteState}
use Rattle.raid_steps.specs.Copies.{copy_of}
use Rattle.raid_steps.specs.World.{World, link}

-- the entry with this number is a Commit that writes the item
abbrev pub was_written : List Noted → Item → ℕ → Bool
was_written p x number = list_any (λ n. (n.at == number) && holds x (writes_of n.entry)) p

-- and it is one of the transaction
abbrev pub was_written_by : List Noted → Txn → Item → ℕ → Bool
was_written_by p t x number = list_any (λ n. (n.at == number) && writes_item t x n.entry) p

-- a version of the item: 0, which each copy has at first, or the number of a Commit that writes it
abbrev pub IsVersion : List Noted → Item → ℕ → Type 0
IsVersion p x v = (v ≡ 0) ⊎ (was_written p x v ≡ true)

-- the site owes the Ack of the item's last Commit
pub record OwesLast (p : List Noted) (here : Site) (x : Item) : Type 0 where
  pub txn : Txn
  pub wrote : was_written_by p txn x (version p x) ≡ true
  pub owed : owes p here txn ≡ true

-- the site at a place, counted from 0, is live: it is so, up, and in the last session that the history tells of
pub record IsLive (p : List Noted) (sites : List SiteState) (k : ℕ) (s : SiteState) : Type 0 where
  pub at : slice_get sites k ≡ Some s
  pub up : s.up ≡ true
  pub last : last_session p (site (k + 1)) ≡ s.session

-- the message tells its site to apply the Commit with this number
abbrev pub applies : ℕ → Message → Bool
applies number (letters.Apply t n) = n == number
applies number other = false

-- The Commit is pending: one of the letters to the site, meant for this session, is such
abbrev pub is_pending : ℕ → ℕ → List Letter → Bool
is_pending m number ls = list_any (λ (l : Letter). l.to == m && applies number l.message) ls

-- the version that a copy of the item has after a message to its site, and after a letter, if that is meant for the session
abbrev pub after_message : List Noted → Item → ℕ → Message → ℕ
after_message p x v (letters.Apply t number) = if was_written p x number then number else v
after_message p x v other = v

abbrev pub after_letter : List Noted → Item → ℕ → ℕ → Letter → ℕ
after_letter p x m v l = if l.to == m then after_message p x v l.message else v

-- the one that it has after all these: that of the last pending Commit that writes the item, if there is one
abbrev pub latest : List Noted → Item → ℕ → ℕ → List Letter → ℕ
latest p x m v ls = fold (after_letter p x m) v ls

-- each pending Commit that writes the item is above the version
abbrev pub AreAbove : List Noted → Item → ℕ → ℕ → List Letter → Type 0
AreAbove p x m v ls = (number : ℕ) → is_pending m number ls ≡ true → was_written p x number ≡ true → v < number

-- none that writes it is pending
abbrev pub NonePending : List Noted → Item → ℕ → List Letter → Type 0
NonePending p x m ls = (number : ℕ) → is_pending m number ls ≡ true → was_written p x number ≡ false

-- no gap: each Commit that writes the item and is above the version is pending
abbrev pub NoGap : List Noted → Item → ℕ → ℕ → List Letter → Type 0
NoGap p x m v ls = (number : ℕ) → was_written p x number ≡ true → v < number → is_pending m number ls ≡ true

-- so it is of each letter that is meant for the session, given the version of the copy where it stands, and the letters behind it
abbrev pub Along : (ℕ → Message → List Letter → Type 0) → List Noted → Item → ℕ → ℕ → List Letter → Type 0
Along Q p x m v [] = ⊤
Along Q p x m v (l ∷ ls) = ((l.to == m) ≡ true → Q v l.message ls) × Along Q p x m (after_letter p x m v l) ls

-- the message has the copy of the item read, or sent to another site
abbrev pub reads_copy : Item → Message → Bool
reads_copy x (letters.ReadDo t ask y home session) = is_item x y
reads_copy x (letters.CopyDo y target session) = is_item x y
reads_copy x other = false

-- where a copy is read, there is no gap
abbrev pub ReadsWhole : List Noted → Item → ℕ → ℕ → Message → List Letter → Type 0
ReadsWhole p x m v message behind = reads_copy x message ≡ true → NoGap p x m v behind

-- The copy of an item at a live site, in this session: its version, and the letters of the sequencer to the site
pub record IsKeptUp (p : List Noted) (here : Site) (x : Item) (m v : ℕ) (notes : List Letter) : Type 0 where
  -- an unlocked one has the last version after what is pending
  pub current : is_copy_locked p here x ≡ false → latest p x m v notes ≡ version p x
  -- nothing is pending for a locked one
  pub locked : is_copy_locked p here x ≡ true → NonePending p x m notes
  -- what is pending is above its version
  pub above : AreAbove p x m v notes
  -- wherever it is read, nothing was missed
  pub whole : Along (ReadsWhole p x m) p x m v notes

-- what is to be applied at the site has its Ack owed
abbrev pub ApplyOwed : List Noted → Site → Message → Type 0
ApplyOwed p here (letters.Apply t number) = owes p here t ≡ true
ApplyOwed p here other = ⊤

-- what the site tells the sequencer. The Commit that it acknowledges is in all its copies
pub record AckTold (p : List Noted) (s : SiteState) (t : Txn) : Type 0 where
  pub committed : has_committed p t ≡ true
  pub within : (x : Item) (c : Copy) (number : ℕ) → copy_of s x ≡ Some c → was_written_by p t x number ≡ true → number ≤ c.version

-- a copy that was renewed has at least the version told
abbrev pub CopyTold : SiteState → Item → ℕ → Type 0
CopyTold s x v = (c : Copy) → copy_of s x ≡ Some c → v ≤ c.version

abbrev pub Told : List Noted → SiteState → Message → Type 0
Told p s (letters.Ack t) = AckTold p s t
Told p s (letters.CopyDone x v) = CopyTold s x v
Told p s other = ⊤

-- what is pending at the site at a place, if it is live in this session, is above the version
abbrev pub AboveAt : List Noted → List SiteState → List (List (List Letter)) → ℕ → ℕ → Item → ℕ → Type 0
AboveAt p sites links j n x v = (s : SiteState) → IsLive p sites j s → s.session ≡ n → AreAbove p x n v (link links (j + 2) 1)

-- a copy that comes to the site at a place, meant for a session of it: its version is one of the item, and what is pending there is above it
abbrev pub Brings : List Noted → List SiteState → List (List (List Letter)) → ℕ → ℕ → Message → Type 0
Brings p sites links k to (letters.CopyValue x value version) = IsVersion p x version × AboveAt p sites links k to x version
Brings p sites links k to other = ⊤

-- a copy that is to be sent to another site, with this version then: what is pending there is above it
abbrev pub Sends : List Noted → List SiteState → List (List (List Letter)) → Item → ℕ → Message → List Letter → Type 0
Sends p sites links x v (letters.CopyDo y target n) behind = is_item x y ≡ true → (j : ℕ) → target ≡ site (j + 1) → AboveAt p sites links j n x v
Sends p sites links x v other behind = ⊤

-- a history, the sites and the links, with what each copy has and gets
pub record LastVersions (p : List Noted) (sites : List SiteState) (links : List (List (List Letter))) : Type 0 where
  -- the version of each copy is one of its item
  pub versions : (k : ℕ) (s : SiteState) → slice_get sites k ≡ Some s → (x : Item) (c : Copy) → copy_of s x ≡ Some c → IsVersion p x c.version
  -- an unlocked copy has the last version, or its site, up or not, owes the Ack of the item's last Commit
  pub unlocked : (k : ℕ) (s : SiteState) → slice_get sites k ≡ Some s → (x : Item) (c : Copy) → copy_of s x ≡ Some c → is_copy_locked p (site (k + 1)) x ≡ false →
      (c.version ≡ version p x) ⊎ OwesLast p (site (k + 1)) x
  -- at a live site, each copy is kept up by what is on its way
  pub kept : (k : ℕ) (s : SiteState) → IsLive p sites k s → (x : Item) (c : Copy) → copy_of s x ≡ Some c → IsKeptUp p (site (k + 1)) x s.session c.version (link links (k + 2) 1)
  -- such a site owes the Ack of what it is told to apply, in that session
  pub owed : (k : ℕ) (s : SiteState) → IsLive p sites k s → AllByRecursion (λ (l : Letter). (l.to == s.session) ≡ true → ApplyOwed p (site (k + 1)) l.message) (link links (k + 2) 1)
  -- what a site tells the sequencer is so
  pub told : (k : ℕ) (s : SiteState) → slice_get sites k ≡ Some s → AllByRecursion (λ (l : Letter). Told p s l.message) (link links 1 (k + 2))
  -- copies on their way to the site at the first place, from the one at the second
  pub brought : (k j : ℕ) → AllByRecursion (λ (l : Letter). Brings p sites links k l.to l.message) (link links (k + 2) (j + 2))
  -- copies that a live site is to send
  pub sent : (k : ℕ) (s : SiteState) → IsLive p sites k s → (x : Item) (c : Copy) → copy_of s x ≡ Some c → Along (Sends p sites links x) p x s.session c.version (link links (k + 2) 1)

-- copies have their items' last versions, as far as the history, the sites and the letters on their way are concerned
abbrev pub HaveLastVersions : World → Type 0
HaveLastVersions state = LastVersions (noted state.servers.sequencer.history) state.servers.sites state.links
