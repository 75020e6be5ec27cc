-- Where the programs that run at a site stand: just where the answers lead that they got.
use Rattle.std.specs.Prelude.{◌≡◌, ℕ, ℤ, ◌+◌, ◌==◌, ◌≤◌, false, List, None, ⊤}
use Rattle.std.specs.List.{AllByRecursion}
use Rattle.raid_base.specs.declared.names.Txn.{Txn}
use Rattle.raid_base.specs.declared.names.Item.{Item}
use Rattle.raid_base.specs.declared.names.Site.{Site}
use Rattle.raid_base.specs.Names.{has_site}
use Rattle.raid_program.specs.declared.program.Want.TheVariants as wants
use Rattle.raid_program.specs.Run.{asks_for}
use Rattle.raid_workload.specs.declared.workload.Workload.{Workload}
use Rattle.raid_message.specs.declared.letter.Message.{Message}
use Rattle.raid_message.specs.declared.letter.Message.TheVariants as letters
use Rattle.raid_steps.specs.State.{Phase, asking, preparing, sent, Running, SiteState}
use Rattle.raid_made.specs.Made.{made_of}

-- what a transaction's program is about, given its answers and how often it has asked, is what these lead to. It asks for the item that its
-- run wants, under the number of its last ask; or its run is done with just these reads and writes, and its home awaits no vote of itself;
-- or its run wants no item any more
abbrev pub StandsIn : Workload → Site → Txn → List (Item × ℤ) → ℕ → Phase → Type 0
StandsIn w here t answers asks (asking k x served) = ((made_of w t answers).end ≡ wants.Read x) × (k ≡ asks) × (1 ≤ k)
StandsIn w here t answers asks (preparing reads writes awaited) =
    (made_of w t answers ≡ record { end = wants.Done; reads = reads; writes = writes }) × (has_site awaited here ≡ false)
StandsIn w here t answers asks sent = asks_for (made_of w t answers).end ≡ None

-- the program has read just what it was answered, and stands where that leads
pub record Stands (w : Workload) (here : Site) (r : Running) : Type 0 where
  pub reads : (made_of w r.txn r.answers).reads ≡ r.answers
  pub phase : StandsIn w here r.txn r.answers r.asks r.phase

-- so of all programs that run at a site
abbrev pub AreStanding : Workload → SiteState → Type 0
AreStanding w state = AllByRecursion (Stands w state.site) state.running

-- the message, if it tells that a site is up again, tells it of another server than the one with this number
abbrev pub IsOfAnother : ℕ → Message → Type 0
IsOfAnother server (letters.UpNote s n) = (s.0 + 1 == server) ≡ false
IsOfAnother server other = ⊤
