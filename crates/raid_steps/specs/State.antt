-- The states of the servers, and what a step gives: the state after it and the letters that it sends.
use Rattle.std.specs.Prelude.{ℕ, ℤ, ◌+◌, Bool, List, [], ◌∷◌, ◌++◌, Option}
use Rattle.raid_base.specs.declared.names.Txn.{Txn}
use Rattle.raid_base.specs.declared.names.Item.{Item}
use Rattle.raid_base.specs.declared.names.Site.{Site}
use Rattle.raid_base.specs.declared.entry.Entry.{Entry}
use Rattle.raid_message.specs.declared.letter.Message.{Message}
use Rattle.raid_base.specs.Sites.{session}

-- a message to be sent: the addressee's server number, the session that the letter is meant for, and the message
abbrev pub Out : Type 0
Out = ℕ × ℕ × Message

-- what a step, or a part of it, has come to: the server's state, and what was sent so far, in order
pub record Turn (S : Type 0) : Type 0 where
  pub state : S
  pub outs : List Out

-- the turn in which nothing is sent yet
abbrev pub opened : {S : Type 0} → S → Turn S
opened state = record { state = state; outs = [] }

-- the turn, with another state
abbrev pub with_state : {S : Type 0} → Turn S → S → Turn S
with_state turn state = record { state = state; outs = turn.outs }

-- the turn, with more sent
abbrev pub sending : {S : Type 0} → Turn S → List Out → Turn S
sending turn outs = record { state = turn.state; outs = turn.outs ++ outs }

-- the turn, with one more sent
abbrev pub send : {S : Type 0} → Turn S → Out → Turn S
send turn out = sending turn (out ∷ [])

-- the turn, with one more sent to the sequencer
abbrev pub tell : {S : Type 0} → Turn S → Message → Turn S
tell turn message = send turn (1, 0, message)

-- a message to a site, meant for its session in the vector
abbrev pub to_site : List ℕ → Site → Message → Out
to_site v s message = (s.0 + 1, session v s, message)

-- a copy that is under way: whose copy is renewed, of which item, and who was asked for it
pub record Copying : Type 0 where
  pub target : Site
  pub item : Item
  pub source : Site

-- the sequencer: the history; for each site the largest session whose end was announced, 0 at first; and the copies that are under way.
-- All else that it decides from is a function of the history
pub record Sequencer : Type 0 where
  pub history : List Entry
  pub announced : List ℕ
  pub copying : List Copying

-- a site's copy of an item: the value, and the number of the Commit that wrote it, 0 at first
pub record Copy : Type 0 where
  pub item : Item
  pub value : ℤ
  pub version : ℕ

-- what a running program is about. It is asking: the number of its outstanding ask, the item, and the other site that was told to serve
-- it, if one is known. It is in preparation: its reads, its writes, and the sites whose votes are awaited, ascending. Or its CommitAsk or
-- EndAsk was sent
pub data Phase : Type 0 where
  asking : ℕ → Item → Option Site → Phase
  preparing : List (Item × ℤ) → List (Item × ℤ) → List Site → Phase
  sent : Phase

-- a program that runs at its home: its transaction, the answers that it got, how often it has asked, and what it is about
pub record Running : Type 0 where
  pub txn : Txn
  pub answers : List (Item × ℤ)
  pub asks : ℕ
  pub phase : Phase

-- a site. On stopping it keeps its copies and its session, and loses what is staged for each transaction (last staged last), its vector,
-- the number of the transaction that it begins next (0 for none) and its running programs (ascending)
pub record SiteState : Type 0 where
  pub site : Site
  pub up : Bool
  pub session : ℕ
  pub copies : List Copy
  pub staged : List (Txn × List (Item × ℤ))
  pub vector : List ℕ
  pub next : ℕ
  pub running : List Running
