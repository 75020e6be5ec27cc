-- A site, put together from its parts.
use Rattle.std.specs.Prelude.{ℕ, ◌≤◌, ◌≡◌, ◌==◌, Bool, true, false, not, ◌&&◌, List, [], ◌∷◌, ◌++◌, map, find, length, if◌then◌else◌}
use Rattle.std.specs.List.{list_all}
use Rattle.std.specs.Option.{option_map_or}
use Rattle.raid_base.specs.declared.names.Txn.{Txn}
use Rattle.raid_base.specs.declared.names.Site.{Site}
use Rattle.raid_base.specs.Names.{is_txn, has_txn}
use Rattle.raid_workload.specs.declared.workload.Workload.{Workload}
use Rattle.raid_legal.specs.Seen.{holds_some}
use Rattle.raid_message.specs.declared.letter.Message.TheVariants as letters
use Rattle.raid_steps.specs.State.{Out, Turn, Phase, asking, preparing, sent, Running, SiteState}
use Rattle.raid_steps.specs.Programs.{held_by, voters, prepare_out, with_vote}
use Rattle.raid_access.specs.Stock.{staging}
use Rattle.raid_driver.specs.declared.task.Doing.{Doing}
use Rattle.raid_driver.specs.declared.task.Doing.TheVariants.{Asking, Done, Over}
use Rattle.raid_driver.specs.declared.task.Task.{Task}
use Rattle.raid_driver.specs.Drive.{Drive, txns_of, done_of, writes_of, reads_of}
use Rattle.raid_vote.specs.declared.changes.Ballot.{Ballot}
use Rattle.raid_vote.specs.Ballots.{is_of, started, close, is_open, awaited}
use Rattle.raid_vote.specs.Ballots as votes
use Rattle.raid_site.specs.declared.parts.Parts.{Parts}

-- what a running program is about: one that is done is in preparation while its transaction's ballot is open
abbrev pub phase_of : List Ballot → Txn → Doing → Phase
phase_of ballots t (Asking ask x server) = asking ask x server
phase_of ballots t (Done reads writes) = option_map_or (λ (b : Ballot). preparing reads writes b.awaited) (find (is_of t) ballots) sent
phase_of ballots t Over = sent

-- a running program, given the open ballots
abbrev pub running_of : List Ballot → Task → Running
running_of ballots r = record { txn = r.txn; answers = r.answers; asks = r.asks; phase = phase_of ballots r.txn r.doing }

-- the site that has these parts
abbrev pub state_of : Parts → SiteState
state_of p = record {
  site = p.site;
  up = p.up;
  session = p.session;
  copies = p.copies.copies;
  staged = p.copies.staged;
  vector = p.vector;
  next = p.driver.next;
  running = map (running_of p.ballots.ballots) p.driver.running;
}

-- what it is, with what was sent so far
abbrev pub turn : Parts → List Out → Turn SiteState
turn p outs = record { state = state_of p; outs = outs }

-- a site's driver was refused no memory and is that of the site, which is one that there can be; and its vector has each site of the workload
pub record Live (w : Workload) (driver : Drive) (s : Site) (vector : List ℕ) : Type 0 where
  pub live : driver.finished ≡ false
  pub same : driver.site ≡ s
  pub least : 1 ≤ s.0
  pub most : s.0 ≤ 8
  pub count : length vector ≡ w.sites

-- the parts are in use, and fit the workload
abbrev pub IsLive : Workload → Parts → Type 0
IsLive w p = Live w p.driver p.site p.vector

-- the transactions that have ballots
abbrev pub open_txns : List Ballot → List Txn
open_txns bs = map (λ (b : Ballot). b.txn) bs

-- no transaction stands twice in the list
abbrev pub is_once : List Txn → Bool
is_once [] = true
is_once (t ∷ ts) = not (has_txn ts t) && is_once ts

-- at most as many programs run as may together, and for so many ballots there is room; each ballot is of a transaction that runs, and no two
-- are of one; and the copies are those of the site
pub record Whole (together : ℕ) (running voting : List Txn) (space : ℕ) (stored own : Site) : Type 0 where
  pub few : length running ≤ together
  pub room : space ≡ together
  pub run : list_all (has_txn running) voting ≡ true
  pub once : is_once voting ≡ true
  pub home : stored ≡ own

-- the parts fit one another
abbrev pub IsWhole : Workload → Parts → Type 0
IsWhole w p = Whole w.together (txns_of p.driver.running) (open_txns p.ballots.ballots) p.ballots.room p.copies.site p.site

-- the transaction's program is done
abbrev pub is_over : Parts → Txn → Bool
is_over p t = has_txn (done_of p.driver.running) t

-- what a transaction's program that is done writes, and the sites that have to vote on it
abbrev pub voters_of : Workload → Parts → Txn → List Site
voters_of w p t = voters w (state_of p) (writes_of p.driver.running t)

-- the parts after a transaction went into preparation
abbrev pub prepared : Workload → Parts → Txn → Parts
prepared w p t =
    let writes = writes_of p.driver.running t in
    record p {
      copies = if holds_some w writes p.site then staging p.copies t (held_by w p.site writes) else p.copies;
      ballots = started t (voters_of w p t) (close t p.ballots);
    }

-- what is sent then
abbrev pub prepared_outs : Workload → Parts → Txn → List Out
prepared_outs w p t = map (prepare_out w p.vector t (writes_of p.driver.running t)) (voters_of w p t)

-- the same, where it is wanted
abbrev pub settled : Workload → Parts → List Out → Txn → Bool → Turn SiteState
settled w p outs t true = turn (prepared w p t) (outs ++ prepared_outs w p t)
settled w p outs t false = turn p outs

-- a transaction in preparation of which no vote is awaited any more
abbrev pub is_due : Parts → Txn → Bool
is_due p t = is_over p t && is_open p.ballots t && length (awaited p.ballots t) == 0

-- what it asks for then
abbrev pub commit_out : Parts → Txn → Out
commit_out p t = (1, 0, letters.CommitAsk t (record { reads = reads_of p.driver.running t; writes = writes_of p.driver.running t; under = p.vector }))

-- a transaction asks to commit, where it is due
abbrev pub committing : Parts → List Out → Txn → Bool → Turn SiteState
committing p outs t true = turn (record p { ballots = close t p.ballots }) (outs ++ commit_out p t ∷ [])
committing p outs t false = turn p outs

-- a transaction in preparation that writes an item of a site, which has come up
abbrev pub is_joined : Workload → Parts → Txn → Site → Bool
is_joined w p t s = is_over p t && is_open p.ballots t && holds_some w (writes_of p.driver.running t) s

-- that site is asked to stage its part and to vote, where it is so
abbrev pub joining : Workload → Parts → List Out → Txn → Site → Bool → Turn SiteState
joining w p outs t s true =
    turn (record p { ballots = votes.change t (with_vote s) p.ballots }) (outs ++ prepare_out w p.vector t (writes_of p.driver.running t) s ∷ [])
joining w p outs t s false = turn p outs

-- the ballots are the same for all transactions but one
abbrev pub Same : Txn → List Ballot → List Ballot → Type 0
Same t bs cs = (u : Txn) → is_txn t u ≡ false → find (is_of u) bs ≡ find (is_of u) cs
