-- What is asked to be committed was staged where it is to be applied. No value of an item is in it.
use Rattle.std.specs.Prelude.{◌≡◌, ◌⊎◌, ℕ, ℤ, ◌+◌, ◌==◌, Bool, true, false, List, Some, slice_get, ⊤}
use Rattle.std.specs.List.{AllByRecursion, list_any}
use Rattle.raid_base.specs.declared.names.Txn.{Txn}
use Rattle.raid_base.specs.declared.names.Item.{Item}
use Rattle.raid_base.specs.declared.entry.Answer.TheVariants.{Yes}
use Rattle.raid_base.specs.declared.entry.Entry.{Entry}
use Rattle.raid_base.specs.declared.entry.Entry.TheVariants.{Wait}
use Rattle.raid_base.specs.declared.entry.Noted.{Noted}
use Rattle.raid_base.specs.Names.{is_txn, has_site}
use Rattle.raid_base.specs.Sites.{session, site}
use Rattle.raid_workload.specs.declared.workload.Workload.{Workload}
use Rattle.raid_rules.specs.History.{noted, has_ended}
use Rattle.raid_rules.specs.Sessions.{last_session}
use Rattle.raid_legal.specs.Seen.{holds_some}
use Rattle.raid_message.specs.declared.letter.Message.{Message}
use Rattle.raid_message.specs.declared.letter.Message.TheVariants as letters
use Rattle.raid_message.specs.declared.letter.Letter.{Letter}
use Rattle.raid_steps.specs.State.{Phase, preparing, Running, SiteState}
use Rattle.raid_steps.specs.World.{World, link}
use Rattle.raid_sessions.specs.Present.{last_told}

-- something is staged for the transaction at the site
abbrev pub is_staged : Txn → SiteState → Bool
is_staged t s = list_any (λ (e : Txn × List (Item × ℤ)). is_txn t e.0) s.staged

-- it is at the site at a place, counted from 0, if the site is up in this session and the history has it in it; or the transaction is over
abbrev pub IsStagedAt : List Noted → List SiteState → Txn → ℕ → ℕ → Type 0
IsStagedAt p sites t j n =
    (has_ended p t ≡ true)
    ⊎ ((s : SiteState) → slice_get sites j ≡ Some s → s.up ≡ true → s.session ≡ n → last_session p (site (j + 1)) ≡ n → is_staged t s ≡ true)

-- so at each site that holds a written item, in its session in a vector
abbrev pub AreStaged : Workload → List Noted → List SiteState → Txn → List (Item × ℤ) → List ℕ → Type 0
AreStaged w p sites t writes v = (j : ℕ) → holds_some w writes (site (j + 1)) ≡ true → IsStagedAt p sites t j (session v (site (j + 1)))

-- a site that votes yes has staged what it votes for
abbrev pub VoteStaged : List Noted → List SiteState → ℕ → ℕ → Message → Type 0
VoteStaged p sites j from (letters.Vote t Yes) = IsStagedAt p sites t j from
VoteStaged p sites j from other = ⊤

-- a commit is asked for, and made to wait, once all is staged
abbrev pub AskStaged : Workload → List Noted → List SiteState → Message → Type 0
AskStaged w p sites (letters.CommitAsk t request) = AreStaged w p sites t request.writes request.under
AskStaged w p sites other = ⊤

abbrev pub WaitStaged : Workload → List Noted → List SiteState → Entry → Type 0
WaitStaged w p sites (Wait t request) = AreStaged w p sites t request.writes request.under
WaitStaged w p sites other = ⊤

-- what is to be applied at the site is staged there
abbrev pub ApplyStaged : SiteState → Message → Type 0
ApplyStaged s (letters.Apply t number) = is_staged t s ≡ true
ApplyStaged s other = ⊤

-- a transaction in preparation at its home, which is at a place: its home has staged its part, and so has each other site that isn't awaited
abbrev pub IsPrepared : Workload → List Noted → List SiteState → ℕ → SiteState → Txn → Phase → Type 0
IsPrepared w p sites k s t (preparing reads writes awaited) =
    (holds_some w writes (site (k + 1)) ≡ true → (has_ended p t ≡ true) ⊎ (is_staged t s ≡ true))
    × ((j : ℕ) → (j ≡ k → ⊥) → holds_some w writes (site (j + 1)) ≡ true → has_site awaited (site (j + 1)) ≡ false → IsStagedAt p sites t j (session s.vector (site (j + 1))))
IsPrepared w p sites k s t other = ⊤

-- the entries that the sequencer has placed
abbrev pub history : World → List Noted
history state = noted state.servers.sequencer.history

-- what is to be applied is staged
pub record StagedFirst (w : Workload) (state : World) : Type 0 where
  -- a site has staged what it votes yes for: votes on their way to the site at the first place, from the one at the second
  pub votes : (k j : ℕ) → AllByRecursion (λ (l : Letter). VoteStaged (history state) state.servers.sites j l.from l.message) (link state.links (k + 2) (j + 2))
  -- all sites have staged what a commit is asked for, on its way from each site
  pub asks : (k : ℕ) → AllByRecursion (λ (l : Letter). AskStaged w (history state) state.servers.sites l.message) (link state.links 1 (k + 2))
  -- and what was made to wait
  pub waits : AllByRecursion (λ (n : Noted). WaitStaged w (history state) state.servers.sites n.entry) (history state)
  -- so it is for what is in preparation at a site that is up in its last session told
  pub prepared : (k : ℕ) (s : SiteState) → slice_get state.servers.sites k ≡ Some s → s.up ≡ true → last_told state k ≡ s.session →
      AllByRecursion (λ (r : Running). IsPrepared w (history state) state.servers.sites k s r.txn r.phase) s.running
  -- such a site has staged what it is told to apply, in that session
  pub applies : (j : ℕ) (s : SiteState) → slice_get state.servers.sites j ≡ Some s → s.up ≡ true → last_told state j ≡ s.session →
      AllByRecursion (λ (l : Letter). (l.to == s.session) ≡ true → ApplyStaged s l.message) (link state.links (j + 2) 1)
