-- The parts of a transaction's writes that are staged, or asked to be, are of the writes that are to be committed.
use Rattle.std.specs.Prelude.{◌≡◌, ℕ, ℤ, ◌+◌, true, false, List, Option, Some, None, slice_get, ⊤}
use Rattle.std.specs.List.{AllByRecursion}
use Rattle.raid_base.specs.declared.names.Txn.{Txn}
use Rattle.raid_base.specs.declared.names.Item.{Item}
use Rattle.raid_base.specs.declared.names.Site.{Site}
use Rattle.raid_base.specs.declared.entry.Entry.{Entry}
use Rattle.raid_base.specs.declared.entry.Entry.TheVariants.{Wait, Commit}
use Rattle.raid_base.specs.declared.entry.Noted.{Noted}
use Rattle.raid_base.specs.Names.{is_txn}
use Rattle.raid_base.specs.Sites.{site}
use Rattle.raid_program.specs.declared.program.Want.{Want}
use Rattle.raid_program.specs.declared.program.Want.TheVariants as wants
use Rattle.raid_program.specs.declared.program.Outcome.{Outcome}
use Rattle.raid_workload.specs.declared.workload.Workload.{Workload}
use Rattle.raid_rules.specs.History.{has_begun, has_ended}
use Rattle.raid_message.specs.declared.letter.Message.{Message}
use Rattle.raid_message.specs.declared.letter.Message.TheVariants as letters
use Rattle.raid_message.specs.declared.letter.Letter.{Letter}
use Rattle.raid_steps.specs.State.{Phase, asking, preparing, sent, Running, SiteState}
use Rattle.raid_steps.specs.Programs.{held_by}
use Rattle.raid_steps.specs.World.{World, link}
use Rattle.raid_moves.specs.Moves.{comes_to, fresh}
use Rattle.raid_sessions.specs.Present.{last_told}
use Rattle.raid_staged.specs.Staged.{history}

-- the writes with which an outcome is done, if it is
abbrev pub writes_at : Want → List (Item × ℤ) → Option (List (Item × ℤ))
writes_at wants.Done writes = Some writes
writes_at other writes = None

abbrev pub writes_of : Outcome → Option (List (Item × ℤ))
writes_of o = writes_at o.end o.writes

-- those with which the transaction's program is done that has read nothing, if it is
abbrev pub first_writes : Workload → Txn → Option (List (Item × ℤ))
first_writes w t = writes_of (comes_to w (fresh t))

-- the pairs are the site's part of the writes; of none there is no part
abbrev pub IsPartOf : Workload → Site → Option (List (Item × ℤ)) → List (Item × ℤ) → Type 0
IsPartOf w s None pairs = ⊥
IsPartOf w s (Some writes) pairs = pairs ≡ held_by w s writes

-- so what the message asks the site to stage for the transaction
abbrev pub AsksPart : Workload → Txn → Option (List (Item × ℤ)) → Site → Message → Type 0
AsksPart w t writes s (letters.Prepare u pairs) = is_txn t u ≡ true → IsPartOf w s writes pairs
AsksPart w t writes s other = ⊤

-- so all that is staged for it, or asked to be by a site
pub record AreParts (w : Workload) (state : World) (t : Txn) (writes : Option (List (Item × ℤ))) : Type 0 where
  pub staged : (k : ℕ) (s : SiteState) → slice_get state.servers.sites k ≡ Some s → AllByRecursion (λ (e : Txn × List (Item × ℤ)). is_txn t e.0 ≡ true → IsPartOf w (site (k + 1)) writes e.1) s.staged
  pub asked : (k j : ℕ) → AllByRecursion (λ (l : Letter). AsksPart w t writes (site (k + 1)) l.message) (link state.links (k + 2) (j + 2))

-- what a commit is asked for
abbrev pub AskAgrees : Workload → World → Message → Type 0
AskAgrees w state (letters.CommitAsk t request) = has_ended (history state) t ≡ false → AreParts w state t (Some request.writes)
AskAgrees w state other = ⊤

-- what was made to wait, and what has committed
abbrev pub EntryAgrees : Workload → World → Entry → Type 0
EntryAgrees w state (Wait t request) = has_ended (history state) t ≡ false → AreParts w state t (Some request.writes)
EntryAgrees w state (Commit t request applied) = AreParts w state t (Some request.writes)
EntryAgrees w state other = ⊤

-- a program that runs: nothing is staged for it while it asks
abbrev pub PhaseAgrees : Workload → World → Txn → Phase → Type 0
PhaseAgrees w state t (asking ask x served) = AreParts w state t None
PhaseAgrees w state t (preparing reads writes awaited) = AreParts w state t (Some writes)
PhaseAgrees w state t sent = ⊤

-- all parts are of the writes that are to be committed
pub record PartsAgree (w : Workload) (state : World) : Type 0 where
  -- of a transaction that hasn't begun, those of its program that has read nothing
  pub unbegun : (t : Txn) → has_begun (history state) t ≡ false → AreParts w state t (first_writes w t)
  -- at a site that is up in its last session told, those of its programs
  pub running : (k : ℕ) (s : SiteState) → slice_get state.servers.sites k ≡ Some s → s.up ≡ true → last_told state k ≡ s.session →
      AllByRecursion (λ (r : Running). has_ended (history state) r.txn ≡ false → PhaseAgrees w state r.txn r.phase) s.running
  -- those that a commit is asked for
  pub asks : (k : ℕ) → AllByRecursion (λ (l : Letter). AskAgrees w state l.message) (link state.links 1 (k + 2))
  -- those that were made to wait, and those that have committed
  pub entries : AllByRecursion (λ (n : Noted). EntryAgrees w state n.entry) (history state)
