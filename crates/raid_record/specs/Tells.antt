-- When a record is that of the sequencer's state, and what a call makes of it.
use Rattle.std.specs.Prelude.{◌≡◌, true, List, length}
use Rattle.raid_base.specs.declared.entry.Entry.{Entry}
use Rattle.raid_base.specs.declared.entry.Noted.{Noted}
use Rattle.raid_workload.specs.declared.workload.Workload.{Workload}
use Rattle.raid_rules.specs.History.{noted, next}
use Rattle.raid_history.specs.Tables.{may_follow}
use Rattle.raid_conflict.specs.Listed.{Extends}
use Rattle.raid_faillock.specs.Stands.{names_sites}
use Rattle.raid_steps.specs.State.{Out, Turn, Sequencer}
use Rattle.raid_copier.specs.Copiers as copiers
use Rattle.raid_placed.specs.Placed.{Placed}
use Rattle.raid_record.specs.declared.records.Record.{Record}
use Rattle.raid_record.specs.Keeps.{Stands, is_fit}

-- the tables are those of the record's history, which is one that a sequencer places
pub record IsKept (w : Workload) (r : Record) : Type 0 where
  pub placed : Placed w r.history
  pub tables : Stands w r.graph r.locks r.waits r.nexts r.left (noted r.history)
  pub sites : length r.announced ≡ w.sites

-- the record is that of the sequencer's state
pub record Tells (w : Workload) (r : Record) (s : Sequencer) : Type 0 where
  pub kept : IsKept w r
  pub history : r.history ≡ s.history
  pub announced : r.announced ≡ s.announced
  pub copying : copiers.Stands r.copiers s.copying

-- the record is that of the turn's state, and these letters are those that were sent in it
pub record IsOf (w : Workload) (r : Record) (sent : List Out) (turn : Turn Sequencer) : Type 0 where
  pub state : Tells w r turn.state
  pub outs : sent ≡ turn.outs

-- of whatever turn the first record and letters are, the second ones are of the turn after the step
abbrev pub Turns : Workload → Record → List Out → Record → List Out → (Turn Sequencer → Turn Sequencer) → Type 0
Turns w before sent after more step = (turn : Turn Sequencer) → IsOf w before sent turn → IsOf w after more (step turn)

-- what the tables ask of an entry that they are to note after the prefix
pub record Suits (w : Workload) (p : List Noted) (e : Entry) : Type 0 where
  pub fit : is_fit w p e ≡ true
  pub follows : may_follow p e ≡ true
  pub extends : Extends p (next p e)
  pub sites : names_sites w.sites e ≡ true
