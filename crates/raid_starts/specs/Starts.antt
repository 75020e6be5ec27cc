-- What lets a transaction begin that hasn't begun, and a program end whose transaction is over.
use Rattle.std.specs.Prelude.{◌≡◌, ℕ, ◌+◌, ◌==◌, nat_le, Bool, true, false, not, ◌&&◌, ◌||◌, List, Some, slice_get}
use Rattle.std.specs.List.{list_any}
use Rattle.raid_base.specs.declared.names.Txn.{Txn}
use Rattle.raid_base.specs.declared.entry.Noted.{Noted}
use Rattle.raid_base.specs.Names.{is_txn, has_txn}
use Rattle.raid_base.specs.Sites.{site}
use Rattle.raid_workload.specs.declared.workload.Workload.{Workload}
use Rattle.raid_workload.specs.Parts.{home}
use Rattle.raid_rules.specs.History.{noted, has_begun, has_ended}
use Rattle.raid_legal.specs.Seen.{is_up, attempt, previous, again}
use Rattle.raid_message.specs.declared.letter.Message.{Message}
use Rattle.raid_message.specs.declared.letter.Message.TheVariants as letters
use Rattle.raid_message.specs.declared.letter.Letter.{Letter}
use Rattle.raid_steps.specs.State.{SiteState}
use Rattle.raid_steps.specs.Programs.{runs_here}
use Rattle.raid_steps.specs.World.{World, link}
use Rattle.raid_moves.specs.After.{is_full}
use Rattle.raid_asks.specs.Own.{IsOf}
use Rattle.raid_asks.specs.Way.{begins_of}
use Rattle.raid_vectors.specs.Vectors.{IsTold}

-- the number is that of a transaction, which is this one or an earlier one
abbrev pub is_at_most : ℕ → Txn → Bool
is_at_most n t = not (n == 0) && nat_le n t.0

-- the message welcomes a site, which is to begin with the transaction or with an earlier one
abbrev pub welcomes : Txn → Message → Bool
welcomes t (letters.Welcome v next) = is_at_most next t
welcomes t other = false

-- the message drops the transaction, which is to be tried again
abbrev pub retries : Txn → Message → Bool
retries t (letters.Drop u again) = again && is_txn t u
retries t other = false

-- the message says that the transaction is over
abbrev pub ends : Txn → Message → Bool
ends t (letters.Done u) = is_txn t u
ends t (letters.Drop u again) = is_txn t u
ends t other = false

-- one of the letters that are meant for a session passes the test
abbrev pub is_coming : (Message → Bool) → ℕ → List Letter → Bool
is_coming test m notes = list_any (λ (l : Letter). l.to == m && test l.message) notes

-- the site at a place, given what is on its way from it and to it. Each first attempt there that
-- hasn't begun waits for the Welcome, or its Begin is on its way, or it is at or behind the site's
-- next; and as many programs run as may, or the site has no next
pub record FirstCome (w : Workload) (p : List Noted) (k : ℕ) (s : SiteState)
    (asks notes : List Letter) : Type 0 where
  pub waits : (t : Txn) → IsOf w (site (k + 1)) t → attempt w t ≡ 0 → has_begun p t ≡ false →
      (is_coming (welcomes t) s.session notes || has_txn (begins_of s.session asks) t
      || is_at_most s.next t) ≡ true
  pub full : is_full w s ≡ true

-- Each later attempt there that is due and hasn't begun: the attempt before still runs, and its
-- Drop is on its way, by which it is tried again; or its Begin is on its way
abbrev pub NextCome : Workload → List Noted → ℕ → SiteState → List Letter → List Letter → Type 0
NextCome w p k s asks notes =
    (t : Txn) → IsOf w (site (k + 1)) t → again w p t ≡ true → has_begun p t ≡ false →
    ((is_coming (retries (previous w t)) s.session notes && runs_here s (previous w t))
    || has_txn (begins_of s.session asks) t) ≡ true

-- each program there whose transaction is over is told so
abbrev pub EndCome : List Noted → SiteState → List Letter → Type 0
EndCome p s notes =
    (t : Txn) → runs_here s t ≡ true → has_ended p t ≡ true →
    is_coming (ends t) s.session notes ≡ true

-- so it is at each site that the history has up in the site's session
abbrev pub FirstAttemptsCome : Workload → World → Type 0
FirstAttemptsCome w state =
    let p = noted state.servers.sequencer.history in
    (k : ℕ) (s : SiteState) → slice_get state.servers.sites k ≡ Some s → IsTold w p k s →
    FirstCome w p k s (link state.links 1 (k + 2)) (link state.links (k + 2) 1)

abbrev pub EndsCome : Workload → World → Type 0
EndsCome w state =
    let p = noted state.servers.sequencer.history in
    (k : ℕ) (s : SiteState) → slice_get state.servers.sites k ≡ Some s → IsTold w p k s →
    EndCome p s (link state.links (k + 2) 1)

-- and the history has the home of each attempt up that is due
pub record NextAttemptsCome (w : Workload) (state : World) : Type 0 where
  pub up : (t : Txn) → again w (noted state.servers.sequencer.history) t ≡ true →
      is_up w (noted state.servers.sequencer.history) (home w t) ≡ true
  pub comes : (k : ℕ) (s : SiteState) → slice_get state.servers.sites k ≡ Some s →
      IsTold w (noted state.servers.sequencer.history) k s →
      NextCome w (noted state.servers.sequencer.history) k s
      (link state.links 1 (k + 2)) (link state.links (k + 2) 1)
