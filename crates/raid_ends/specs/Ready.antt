-- What a site has to be like so that the letter that it hears lowers the measure. In a run each site is so.
use Rattle.std.specs.Prelude.{◌≡◌, ℕ, ℤ, ◌+◌, ◌≤◌, ◌==◌, Bool, true, false, List, length, Option, Some}
use Rattle.std.specs.List.{AllByRecursion}
use Rattle.raid_base.specs.declared.names.Txn.{Txn}
use Rattle.raid_base.specs.declared.names.Item.{Item}
use Rattle.raid_base.specs.declared.names.Site.{Site}
use Rattle.raid_base.specs.declared.entry.Noted.{Noted}
use Rattle.raid_base.specs.Names.{is_site, has_txn, has_site}
use Rattle.raid_program.specs.declared.program.Want.TheVariants as wants
use Rattle.raid_program.specs.Run.{put}
use Rattle.raid_workload.specs.declared.workload.Workload.{Workload}
use Rattle.raid_workload.specs.Parts.{txns, sites, home}
use Rattle.raid_rules.specs.History.{has_begun}
use Rattle.raid_message.specs.declared.letter.Message.TheVariants as letters
use Rattle.raid_message.specs.declared.letter.Letter.{Letter}
use Rattle.raid_steps.specs.State.{Turn, asking, Running, SiteState}
use Rattle.raid_steps.specs.Programs.{running_of, runs_here, next_attempt}
use Rattle.raid_moves.specs.Moves.{Ascend, Tells, comes_to, drops, Starts, next_of, Reached}
use Rattle.raid_measure.specs.Measure.{most_reads, is_idle_at}

-- a value makes one answer more; where the program then reads on, it hasn't as many answers yet as a program may have
pub record Gives (w : Workload) (r : Running) (x : Item) (v : ℤ) : Type 0 where
  pub more : length (put r.answers x v) ≡ length r.answers + 1
  pub room : length r.answers + 1 ≤ most_reads
  pub few : (y : Item) → (comes_to w (record r { answers = put r.answers x v })).end ≡ wants.Read y → length (put r.answers x v) + 1 ≤ most_reads

-- the transaction is one of the workload's that the site may take up: its own, which hasn't begun and doesn't run
abbrev pub MayTakeUp : Workload → List Noted → SiteState → Txn → Type 0
MayTakeUp w p state t = (has_txn (txns w) t ≡ true) × (is_idle_at w p state t ≡ true)

pub record Ready (w : Workload) (p : List Noted) (state : SiteState) (from : ℕ) (letter : Letter) : Type 0 where
  pub known : has_site (sites w) state.site ≡ true
  -- programs of its own transactions run there, each once, and not too many
  pub own : AllByRecursion (λ (r : Running). (has_txn (txns w) r.txn ≡ true) × (is_site state.site (home w r.txn) ≡ true)) state.running
  pub once : Ascend state.running
  pub together : length state.running ≤ w.together
  pub gives : (r : Running) (k : ℕ) (x : Item) (q : Option Site) (v : ℤ) → running_of state r.txn ≡ Some r → r.phase ≡ asking k x q → Gives w r x v
  -- a transaction that is told to be over has begun
  pub done : (t : Txn) → Tells w state from letter (letters.Done t) → has_begun p t ≡ true
  pub dropped : (t : Txn) (again : Bool) → Tells w state from letter (letters.Drop t again) → has_begun p t ≡ true
  -- whatever begins in the step may be taken up
  pub retries : (t : Txn) → Tells w state from letter (letters.Drop t true) → runs_here state t ≡ true → MayTakeUp w p (drops state t).state (next_attempt w t)
  pub starts : Starts w state from letter → (turn : Turn SiteState) → Reached w state from letter turn → (turn.state.next == 0) ≡ false → MayTakeUp w p turn.state (next_of turn)
