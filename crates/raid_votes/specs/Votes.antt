-- A vote that a program in preparation awaits is on its way, or can't come any more.
use Rattle.std.specs.Prelude.{◌≡◌, ℕ, ◌+◌, ◌≤◌, ◌==◌, Bool, true, false, ◌&&◌, List, length, Some, slice_get, ⊤}
use Rattle.std.specs.List.{AllByRecursion, list_any}
use Rattle.raid_base.specs.declared.names.Txn.{Txn}
use Rattle.raid_base.specs.declared.names.Site.{Site}
use Rattle.raid_base.specs.declared.entry.Answer.TheVariants.{Yes}
use Rattle.raid_base.specs.Names.{is_txn}
use Rattle.raid_base.specs.Sites.{session}
use Rattle.raid_message.specs.declared.letter.Message.{Message}
use Rattle.raid_message.specs.declared.letter.Message.TheVariants as letters
use Rattle.raid_message.specs.declared.letter.Letter.{Letter}
use Rattle.raid_steps.specs.State.{Phase, preparing, Running, SiteState}
use Rattle.raid_steps.specs.World.{World, link}
use Rattle.raid_moves.specs.Moves.{is_preparing}
use Rattle.raid_witness.specs.Ended.{HasEnded}

-- the message asks for a vote on the transaction
abbrev pub asks_for : Txn → Message → Bool
asks_for t (letters.Prepare u writes) = is_txn t u
asks_for t other = false

-- the message is a yes to it
abbrev pub agrees_to : Txn → Message → Bool
agrees_to t (letters.Vote u Yes) = is_txn t u
agrees_to t other = false

-- the letter, sent in the home's session m, asks the voter in its session n
abbrev pub asks_vote : ℕ → ℕ → Txn → Letter → Bool
asks_vote m n t l = (l.from == m && l.to == n) && asks_for t l.message

-- the letter, sent in the voter's session n, tells the home in its session m that it agrees
abbrev pub votes_yes : ℕ → ℕ → Txn → Letter → Bool
votes_yes m n t l = (l.from == n && l.to == m) && agrees_to t l.message

-- the vote of a site in its session n comes to the home in its session m: a letter of the home
-- asks for it, a letter of the site brings it, or the site's session has ended, so it never comes
pub data VoteComes (sites : List SiteState) (asks votes : List Letter) (m n : ℕ) (t : Txn)
    (a : Site) : Type 0 where
  asked : list_any (asks_vote m n t) asks ≡ true → VoteComes sites asks votes m n t a
  voted : list_any (votes_yes m n t) votes ≡ true → VoteComes sites asks votes m n t a
  ended : HasEnded sites a n → VoteComes sites asks votes m n t a

-- so does the vote that a program of the site at a place, counted from 0, awaits of another site:
-- of the session, not 0, in which the home's vector has it
pub record Awaits (sites : List SiteState) (links : List (List (List Letter))) (k : ℕ)
    (s : SiteState) (t : Txn) (a : Site) : Type 0 where
  pub up : 1 ≤ session s.vector a
  pub comes : VoteComes sites (link links (a.0 + 1) (k + 2)) (link links (k + 2) (a.0 + 1))
      s.session (session s.vector a) t a

-- a program in preparation awaits some vote, and each that it awaits comes
abbrev pub AwaitsVotes :
    List SiteState → List (List (List Letter)) → ℕ → SiteState → Txn → Phase → Type 0
AwaitsVotes sites links k s t (preparing reads writes awaited) =
    (1 ≤ length awaited) × AllByRecursion (Awaits sites links k s t) awaited
AwaitsVotes sites links k s t other = ⊤

-- so does each program that runs
abbrev pub VotesCome : World → Type 0
VotesCome state =
    (k : ℕ) (s : SiteState) → slice_get state.servers.sites k ≡ Some s →
    AllByRecursion
    (λ (r : Running). AwaitsVotes state.servers.sites state.links k s r.txn r.phase) s.running

-- no program of any site is in preparation
abbrev pub NoneIsPreparing : World → Type 0
NoneIsPreparing state =
    (k : ℕ) (s : SiteState) → slice_get state.servers.sites k ≡ Some s →
    list_any (λ (r : Running). is_preparing r.phase) s.running ≡ false
