-- What the sequencer may place so that the entry pays, by lowering the measure, for the letters that it sends. In a run each entry is so.
use Rattle.std.specs.Prelude.{◌≡◌, ℕ, ◌+◌, ◌<◌, true, false, ◌&&◌, List, [], ⊤}
use Rattle.raid_base.specs.declared.names.Txn.{Txn}
use Rattle.raid_base.specs.declared.names.Item.{Item}
use Rattle.raid_base.specs.declared.entry.Entry.{Entry}
use Rattle.raid_base.specs.declared.entry.Entry.TheVariants.{Commit, Abort, Down, Up}
use Rattle.raid_base.specs.declared.entry.Noted.{Noted}
use Rattle.raid_base.specs.Names.{has_txn, has_site}
use Rattle.raid_base.specs.Sites.{site}
use Rattle.raid_workload.specs.declared.workload.Workload.{Workload}
use Rattle.raid_workload.specs.Parts.{txns, sites}
use Rattle.raid_rules.specs.History.{noted, has_ended, version}
use Rattle.raid_legal.specs.Seen.{is_up, is_locked, up_holders}
use Rattle.raid_legal.specs.Legal.{downs, ups, EachSeeing}
use Rattle.raid_message.specs.declared.letter.Message.TheVariants as letters
use Rattle.raid_message.specs.declared.letter.Letter.{Letter}
use Rattle.raid_steps.specs.State.{Sequencer}
use Rattle.raid_steps.specs.Sequencer.{hear_sequencer}
use Rattle.raid_measure.specs.Measure.{events_of}

-- the transaction is one of the workload's, and hasn't ended
abbrev pub MayEnd : Workload → List Noted → Txn → Type 0
MayEnd w p t = (has_txn (txns w) t ≡ true) × (has_ended p t ≡ false)

-- a site goes down, or comes up, no more often than it is stopped, or returns; a transaction ends once, and a Commit is applied at the up
-- holders of what it writes
abbrev pub MayPlace : Workload → List Noted → Entry → Type 0
MayPlace w p (Commit t request applied) = MayEnd w p t × (applied ≡ up_holders w p request.writes)
MayPlace w p (Abort t cause act) = MayEnd w p t
MayPlace w p (Down s) = (has_site (sites w) s ≡ true) × (downs p s < events_of w true s)
MayPlace w p (Up s session) = (has_site (sites w) s ≡ true) × (ups p s < events_of w false s)
MayPlace w p other = ⊤

-- each entry of a history is such a one after those before it
abbrev pub EachMay : Workload → List Entry → Type 0
EachMay w h = EachSeeing (λ p n. MayPlace w p n.entry) [] (noted h)

-- the sequencer may hear the letter: each entry of the history is such a one after the step, and a site that tells of a copy of it that is locked
-- has brought it to the item's version
pub record MayHear (w : Workload) (q : Sequencer) (from : ℕ) (letter : Letter) : Type 0 where
  pub entries : EachMay w (hear_sequencer w q from letter).state.history
  pub copied : (k : ℕ) (x : Item) (v : ℕ) → from ≡ k + 2 → letter.message ≡ letters.CopyDone x v → (is_up w (noted q.history) (site (k + 1)) && is_locked w (noted q.history) (site (k + 1)) x) ≡ true → v ≡ version (noted q.history) x
