-- What letters on their way say, and what there is where they say it.
use Rattle.std.specs.Prelude.{◌≡◌, ℕ, ℤ, ◌+◌, ◌==◌, ◌≤◌, ◌<◌, Bool, true, false, ◌&&◌, List, [], ◌∷◌, length, ⊤}
use Rattle.std.specs.List.{AllByRecursion, list_any}
use Rattle.raid_base.specs.declared.names.Txn.{Txn}
use Rattle.raid_base.specs.declared.names.Item.{Item}
use Rattle.raid_base.specs.declared.names.Site.{Site}
use Rattle.raid_base.specs.declared.request.Request.{Request}
use Rattle.raid_base.specs.declared.entry.Answer.{Answer}
use Rattle.raid_base.specs.declared.entry.Answer.TheVariants.{Yes}
use Rattle.raid_base.specs.declared.entry.Entry.{Entry}
use Rattle.raid_base.specs.declared.entry.Entry.TheVariants.{Commit}
use Rattle.raid_base.specs.declared.entry.Noted.{Noted}
use Rattle.raid_base.specs.Names.{is_txn, is_site, has_site}
use Rattle.raid_base.specs.Sites.{session, site}
use Rattle.raid_workload.specs.declared.workload.Workload.{Workload}
use Rattle.raid_workload.specs.Parts.{home, placement}
use Rattle.raid_rules.specs.History.{noted, has_begun, has_committed, has_aborted, waiting}
use Rattle.raid_rules.specs.Sessions.{holders, last_session}
use Rattle.raid_message.specs.declared.letter.Message.{Message}
use Rattle.raid_message.specs.declared.letter.Message.TheVariants as letters
use Rattle.raid_message.specs.declared.letter.Letter.{Letter}
use Rattle.raid_steps.specs.Fits.{knows_site}
use Rattle.raid_steps.specs.World.{World, link}
use Rattle.raid_asks.specs.Own.{IsOf}

-- the site holds a copy of the item, as the workload places it
abbrev pub is_held : Workload → Site → Item → Bool
is_held w s x = has_site (holders (placement w) x) s

-- the entry is a Commit of the transaction that is applied at the site
abbrev pub is_applied : Txn → Site → Entry → Bool
is_applied t s (Commit u request applied) = is_txn t u && has_site applied s
is_applied t s other = false

-- the entry with this number is such a Commit
abbrev pub was_applied : List Noted → Txn → Site → ℕ → Bool
was_applied p t s number = list_any (λ n. (n.at == number) && is_applied t s n.entry) p

-- each site's session in the vector is none after its last
abbrev pub AreReached : Workload → List Noted → List ℕ → Type 0
AreReached w p v = (s : Site) → knows_site w s ≡ true → session v s ≤ last_session p s

-- a ReadDo to a site, meant for one of its sessions
pub record ReadDoSays (w : Workload) (p : List Noted) (here : Site) (to : ℕ) (t : Txn) (ask : ℕ) (x : Item) (h : Site) (n : ℕ) : Type 0 where
  -- it names the transaction's home
  pub of : h ≡ home w t
  -- the site holds the item
  pub held : is_held w here x ≡ true
  -- the transaction has begun
  pub begun : has_begun p t ≡ true
  -- asks are counted from 1
  pub some : 1 ≤ ask
  -- where the site is the home itself, the session named is the one that the letter is meant for
  pub own : is_site here h ≡ true → n ≡ to

-- a Serving to a site
pub record ServingSays (w : Workload) (p : List Noted) (here : Site) (t : Txn) (ask : ℕ) (s : Site) : Type 0 where
  -- it goes to the transaction's home
  pub of : home w t ≡ here
  -- another site serves
  pub other : is_site s here ≡ false
  -- the transaction has begun
  pub begun : has_begun p t ≡ true
  -- asks are counted from 1
  pub some : 1 ≤ ask

-- a CopyDo to a site
pub record CopyDoSays (w : Workload) (here : Site) (x : Item) (target : Site) : Type 0 where
  -- the site holds the item
  pub held : is_held w here x ≡ true
  -- so does the target
  pub wanted : is_held w target x ≡ true
  -- which is another site
  pub other : is_site target here ≡ false

-- what the sequencer tells a site, meant for one of its sessions
abbrev pub NoteSays : Workload → List Noted → Site → ℕ → Message → Type 0
-- what is to be read is there, and has been asked for
NoteSays w p here to (letters.ReadDo t ask x h n) = ReadDoSays w p here to t ask x h n
-- what another site serves was asked for here
NoteSays w p here to (letters.Serving t ask s) = ServingSays w p here t ask s
-- the entry with the number is a Commit of the transaction that is applied here
NoteSays w p here to (letters.Apply t number) = was_applied p t here number ≡ true
-- the transaction has committed, and this is its home
NoteSays w p here to (letters.Done t) = (has_committed p t ≡ true) × (home w t ≡ here)
-- the transaction was aborted
NoteSays w p here to (letters.Drop t again) = has_aborted p t ≡ true
-- who is down, or up again, is another site
NoteSays w p here to (letters.DownNote s) = is_site s here ≡ false
NoteSays w p here to (letters.UpNote s n) = is_site s here ≡ false
-- both sites have a copy
NoteSays w p here to (letters.CopyDo x target n) = CopyDoSays w here x target
NoteSays w p here to other = ⊤

-- what a site asks the sequencer
abbrev pub AskSays : Workload → List Noted → Site → Message → Type 0
-- it asks for its own transactions alone
AskSays w p here (letters.Begin t) = IsOf w here t
-- asks are counted from 1
AskSays w p here (letters.ReadAsk t ask x) = IsOf w here t × (1 ≤ ask)
-- a commit is asked for under sessions that there have been
AskSays w p here (letters.CommitAsk t request) = IsOf w here t × AreReached w p request.under
AskSays w p here (letters.EndAsk t cause reads) = IsOf w here t
AskSays w p here other = ⊤

-- a Prepare to a site, of another
pub record PrepareSays (w : Workload) (here there : Site) (t : Txn) (ps : List (Item × ℤ)) : Type 0 where
  -- the transaction's home sends it
  pub of : home w t ≡ there
  -- there is something to be staged
  pub some : 1 ≤ length ps
  -- and the site holds all of it
  pub held : AllByRecursion (λ pair. is_held w here pair.0 ≡ true) ps

-- a vote, of a site in one of its sessions: what was voted for is the addressee's own; and a yes is of a session that there has been
abbrev pub VoteSays : Workload → List Noted → Site → Site → ℕ → Txn → Answer → Type 0
VoteSays w p here there from t Yes = (home w t ≡ here) × (from ≤ last_session p there)
VoteSays w p here there from t other = home w t ≡ here

-- a Value to a site
pub record ValueSays (w : Workload) (p : List Noted) (here : Site) (t : Txn) (ask : ℕ) : Type 0 where
  -- it goes to the transaction's home
  pub of : home w t ≡ here
  -- the transaction has begun
  pub begun : has_begun p t ≡ true
  -- asks are counted from 1
  pub some : 1 ≤ ask

-- what a site is told by another, which said it in one of its sessions
abbrev pub PeerSays : Workload → List Noted → Site → Site → ℕ → Message → Type 0
PeerSays w p here there from (letters.Value t ask v) = ValueSays w p here t ask
PeerSays w p here there from (letters.Prepare t ps) = PrepareSays w here there t ps
PeerSays w p here there from (letters.Vote t answer) = VoteSays w p here there from t answer
-- the site holds the item whose copy comes
PeerSays w p here there from (letters.CopyValue x v version) = is_held w here x ≡ true
PeerSays w p here there from other = ⊤

-- after an Apply with this number, an Apply has a larger one
abbrev pub IsAfterApply : ℕ → Message → Type 0
IsAfterApply n (letters.Apply t number) = n < number
IsAfterApply n other = ⊤

-- after a Drop of the transaction, a Drop is of another
abbrev pub IsAfterDrop : Txn → Message → Type 0
IsAfterDrop t (letters.Drop u again) = is_txn t u ≡ false
IsAfterDrop t other = ⊤

-- the second message may stand behind the first
abbrev pub IsBefore : Message → Message → Type 0
IsBefore (letters.Apply t number) m = IsAfterApply number m
IsBefore (letters.Drop t again) m = IsAfterDrop t m
IsBefore other m = ⊤

-- along the letters the numbers of Applies ascend, and no transaction has two Drops
abbrev pub AreInTurn : List Letter → Type 0
AreInTurn [] = ⊤
AreInTurn (l ∷ ls) = AllByRecursion (λ (later : Letter). IsBefore l.message later.message) ls × AreInTurn ls

-- all letters on their way, by link
pub record LettersSay (w : Workload) (state : World) : Type 0 where
  -- of the sequencer to the site at a place, counted from 0
  pub notes : (k : ℕ) → AllByRecursion (λ (l : Letter). NoteSays w (noted state.servers.sequencer.history) (site (k + 1)) l.to l.message) (link state.links (k + 2) 1)
  -- of the site to the sequencer
  pub asks : (k : ℕ) → AllByRecursion (λ (l : Letter). AskSays w (noted state.servers.sequencer.history) (site (k + 1)) l.message) (link state.links 1 (k + 2))
  -- of another site, at the second place, to the site
  pub peers : (k j : ℕ) → AllByRecursion (λ (l : Letter). PeerSays w (noted state.servers.sequencer.history) (site (k + 1)) (site (j + 1)) l.from l.message) (link state.links (k + 2) (j + 2))
  -- the sequencer's letters to the site stand in turn
  pub turns : (k : ℕ) → AreInTurn (link state.links (k + 2) 1)
  -- each request that waits was made under sessions that there have been
  pub waits : AllByRecursion (λ (r : Txn × Request). AreReached w (noted state.servers.sequencer.history) r.1.under) (waiting (noted state.servers.sequencer.history))
