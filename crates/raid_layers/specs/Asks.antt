-- What of a transaction's asks is on its way, and what its program is about meanwhile. No value of an item is in it.
use Rattle.std.specs.Prelude.{◌≡◌, ◌⊎◌, ℕ, ℤ, zero, suc, ◌+◌, ◌<◌, ◌≤◌, ◌==◌, Bool, true, false, ◌&&◌, ◌||◌, List, [], ◌∷◌, ◌++◌, Option, Some, None, is_some, slice_get, ⊤, if◌then◌else◌}
use Rattle.std.specs.List.{AllByRecursion, list_any}
use Rattle.raid_base.specs.declared.names.Txn.{Txn}
use Rattle.raid_base.specs.declared.names.Item.{Item}
use Rattle.raid_base.specs.declared.names.Site.{Site}
use Rattle.raid_base.specs.declared.entry.Entry.{Entry}
use Rattle.raid_base.specs.declared.entry.Entry.TheVariants.{Read, Wait}
use Rattle.raid_base.specs.declared.entry.Noted.{Noted}
use Rattle.raid_base.specs.Names.{is_txn, is_item, holds}
use Rattle.raid_workload.specs.declared.workload.Workload.{Workload}
use Rattle.raid_rules.specs.Entries.{reads_item}
use Rattle.raid_rules.specs.History.{noted, has_committed, has_ended}
use Rattle.raid_legal.specs.Seen.{has_down_after}
use Rattle.raid_legal.specs.Legal.{last_read, is_lost}
use Rattle.raid_message.specs.declared.letter.Message.{Message}
use Rattle.raid_message.specs.declared.letter.Message.TheVariants as letters
use Rattle.raid_message.specs.declared.letter.Letter.{Letter}
use Rattle.raid_steps.specs.State.{Phase, asking, preparing, sent, Running, SiteState}
use Rattle.raid_steps.specs.Programs.{running_of}
use Rattle.raid_steps.specs.World.{World, link}
use Rattle.raid_sessions.specs.Present.{last_told}

-- the transaction has read the item
abbrev pub has_read : List Noted → Txn → Item → Bool
has_read p t x = list_any (λ n. reads_item t x n.entry) p

-- the transaction was made to wait
abbrev pub is_wait_of : Txn → Entry → Bool
is_wait_of t (Wait u request) = is_txn t u
is_wait_of t other = false

abbrev pub has_waited : List Noted → Txn → Bool
has_waited p t = list_any (λ n. is_wait_of t n.entry) p

-- the pairs are of just the items that the transaction has read; and so but for one item
abbrev pub AreRead : List Noted → Txn → List (Item × ℤ) → Type 0
AreRead p t pairs = (x : Item) → holds x pairs ≡ has_read p t x

abbrev pub AreReadBut : List Noted → Txn → Item → List (Item × ℤ) → Type 0
AreReadBut p t x pairs = (y : Item) → is_item x y ≡ false → holds y pairs ≡ has_read p t y

-- the message, if it asks the sequencer for something that the transaction needs
abbrev pub ask_of : Txn → Message → List Message
ask_of t (letters.ReadAsk u ask x) = if is_txn t u then letters.ReadAsk u ask x ∷ [] else []
ask_of t (letters.CommitAsk u request) = if is_txn t u then letters.CommitAsk u request ∷ [] else []
ask_of t (letters.EndAsk u cause reads) = if is_txn t u then letters.EndAsk u cause reads ∷ [] else []
ask_of t other = []

-- what the letters ask for it, in order
abbrev pub asks_of : Txn → List Letter → List Message
asks_of t [] = []
asks_of t (l ∷ ls) = ask_of t l.message ++ asks_of t ls

-- An ask is up to date: the item wasn't read yet, or what was read of it may be lost; or just what was read is told
abbrev pub IsTimely : List Noted → Txn → Message → Type 0
IsTimely p t (letters.ReadAsk u ask x) = (has_read p t x ≡ false) ⊎ (is_lost p t x ≡ true)
IsTimely p t (letters.CommitAsk u request) = AreRead p t request.reads
IsTimely p t (letters.EndAsk u cause reads) = AreRead p t reads
IsTimely p t other = ⊤

-- there is no ask, or just one, which is up to date
pub data IsOneAsk (p : List Noted) (t : Txn) (asks : List Message) : Type 0 where
  no_ask : asks ≡ [] → IsOneAsk p t asks
  one_ask : (m : Message) → asks ≡ m ∷ [] → IsTimely p t m → IsOneAsk p t asks

-- What tells that a read was granted: the server with this number is to read the item; the value is brought; another site serves it
pub data Token : Type 0 where
  reading : ℕ → Item → Token
  bringing : Token
  serving : Site → Token

-- what is claimed of the tokens of a transaction, each with the number of the ask that it is for
abbrev pub Claim : Type 1
Claim = ℕ → Token → Type 0

-- it holds of what a message of the sequencer to a server, meant for one of its sessions, tells of a token; the transaction's home is at a
-- place, in a session
abbrev pub OfSequencer : Txn → ℕ → ℕ → Claim → ℕ → ℕ → Message → Type 0
OfSequencer t k m P server to (letters.ReadDo u ask x h n) = is_txn t u ≡ true → (h.0 == k + 1) ≡ true → (n == m) ≡ true → P ask (reading server x)
OfSequencer t k m P server to (letters.Serving u ask s) = is_txn t u ≡ true → (server == k + 2) ≡ true → (to == m) ≡ true → P ask (serving s)
OfSequencer t k m P server to other = ⊤

-- and of what one of a site tells
abbrev pub OfSite : Txn → ℕ → ℕ → Claim → ℕ → ℕ → Message → Type 0
OfSite t k m P server to (letters.Value u ask v) = is_txn t u ≡ true → (server == k + 2) ≡ true → (to == m) ≡ true → P ask bringing
OfSite t k m P server to other = ⊤

abbrev pub HoldsOf : Txn → ℕ → ℕ → Claim → ℕ → ℕ → ℕ → Message → Type 0
HoldsOf t k m P server zero to message = ⊤
HoldsOf t k m P server (suc zero) to message = OfSequencer t k m P server to message
HoldsOf t k m P server (suc (suc j)) to message = OfSite t k m P server to message

-- and so on all links
abbrev pub AllTokens : List (List (List Letter)) → Txn → ℕ → ℕ → Claim → Type 0
AllTokens links t k m P = (server from : ℕ) → AllByRecursion (λ (l : Letter). HoldsOf t k m P server from l.to l.message) (link links server from)

-- the claims: tokens are of earlier asks; of none later; and those of this ask are of a read of the item at the site
abbrev pub IsBelow : ℕ → Claim
IsBelow ask a token = a < ask

abbrev pub IsAtMost : ℕ → Claim
IsAtMost ask a token = a ≤ ask

abbrev pub IsFor : Item → Site → Token → Type 0
IsFor x s (reading server y) = (server ≡ s.0 + 1) × (y ≡ x)
IsFor x s bringing = ⊤
IsFor x s (serving r) = r ≡ s

abbrev pub IsOfRead : ℕ → Item → Site → Claim
IsOfRead ask x s a token = (a ≤ ask) × (a ≡ ask → IsFor x s token)

-- the letter tells the home, in its session, who serves the ask
abbrev pub serves_in : Txn → ℕ → Message → Bool
serves_in t ask (letters.Serving u a s) = is_txn t u && a == ask
serves_in t ask other = false

abbrev pub tells_server : Txn → ℕ → ℕ → Letter → Bool
tells_server t m ask l = l.to == m && serves_in t ask l.message

-- once it is known who serves the ask, a note that this site is down comes only where it has gone down after the read
abbrev pub FallsLater : List Noted → Txn → ℕ → ℕ → Site → ℕ → Bool → List Letter → Type 0
FallsLater p t m ask s at known [] = ⊤
FallsLater p t m ask s at known (l ∷ ls) =
    (known ≡ true → (l.to == m) ≡ true → l.message ≡ letters.DownNote s → has_down_after p at s ≡ true) × FallsLater p t m ask s at (known || tells_server t m ask l) ls

-- if it is known who serves the ask, it is the site
abbrev pub IsServer : Option Site → Site → Type 0
IsServer None s = ⊤
IsServer (Some q) s = q ≡ s

-- A program at a home waits for an item: its ask is on its way; or it was dropped; or the item was read
pub data Outstanding (p : List Noted) (links : List (List (List Letter))) (k m : ℕ) (t : Txn) (ask : ℕ) (x : Item) (q : Option Site) (asks : List Message) : Type 0 where
  asked : asks ≡ letters.ReadAsk t ask x ∷ [] → q ≡ None → AllTokens links t k m (IsBelow ask) → Outstanding p links k m t ask x q asks
  dropped : asks ≡ [] → q ≡ None → AllTokens links t k m (IsBelow ask) → Outstanding p links k m t ask x q asks
  read : (n : Noted) (s : Site) → asks ≡ [] → last_read p t ≡ Some n → n.entry ≡ Read t x s → has_read p t x ≡ true → AllTokens links t k m (IsOfRead ask x s) → IsServer q s →
      FallsLater p t m ask s n.at (is_some q) (link links (k + 2) 1) → Outstanding p links k m t ask x q asks

-- the message asks for the transaction's end
abbrev pub asks_end : Message → Bool
asks_end (letters.CommitAsk t request) = true
asks_end (letters.EndAsk t cause reads) = true
asks_end other = false

-- a program that has sent its last ask: the sequencer took it, or it is on its way
pub data Closing (p : List Noted) (t : Txn) (asks : List Message) : Type 0 where
  taken : asks ≡ [] → Closing p t asks
  closes : (m : Message) → asks ≡ m ∷ [] → asks_end m ≡ true → Closing p t asks

-- What a program is about at a home, given how often it has asked, its answers and what is asked for it. While it reads or prepares, it
-- wasn't made to wait, and it was answered just what was read, but for the item that it waits for
abbrev pub IsAbout : List Noted → List (List (List Letter)) → ℕ → ℕ → Txn → ℕ → List (Item × ℤ) → List Message → Phase → Type 0
IsAbout p links k m t number answers asks (asking ask x q) =
    (ask ≡ number) × ((has_waited p t ≡ false) × (AreReadBut p t x answers × Outstanding p links k m t ask x q asks))
IsAbout p links k m t number answers asks (preparing reads writes awaited) =
    (asks ≡ []) × ((has_waited p t ≡ false) × (AreRead p t reads × AllTokens links t k m (IsAtMost number)))
IsAbout p links k m t number answers asks sent = Closing p t asks × AllTokens links t k m (IsAtMost number)

-- Of a transaction that isn't over, something is asked only while its program runs, and as the program is about. Once it has committed, its
-- program has sent its last ask
abbrev pub Talks : List Noted → List (List (List Letter)) → ℕ → ℕ → Txn → List Message → Option Running → Type 0
Talks p links k m t asks None = (has_ended p t ≡ true) ⊎ (asks ≡ [])
Talks p links k m t asks (Some r) = (has_committed p t ≡ true → r.phase ≡ sent) × ((has_ended p t ≡ true) ⊎ IsAbout p links k m t r.asks r.answers asks r.phase)

-- programs ask one thing at a time
pub record AskOneThing (w : Workload) (state : World) : Type 0 where
  -- of each transaction that isn't over, one ask at most is on its way from a site, and it is up to date
  pub one : (k : ℕ) (t : Txn) → (has_ended (noted state.servers.sequencer.history) t ≡ true) ⊎ IsOneAsk (noted state.servers.sequencer.history) t (asks_of t (link state.links 1 (k + 2)))
  -- at a site that is up in its last session told, programs are about what was asked for them
  pub talks : (k : ℕ) (s : SiteState) → slice_get state.servers.sites k ≡ Some s → s.up ≡ true → last_told state k ≡ s.session → (t : Txn) →
      Talks (noted state.servers.sequencer.history) state.links k s.session t (asks_of t (link state.links 1 (k + 2))) (running_of s t)
