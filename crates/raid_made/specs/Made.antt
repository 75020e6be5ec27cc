-- What programs make of the reads that are told of them. Each needs no knowledge of who wrote the values that were read.
use Rattle.std.specs.Prelude.{◌≡◌, ℤ, List, ⊤}
use Rattle.std.specs.List.{AllByRecursion}
use Rattle.raid_base.specs.declared.names.Txn.{Txn}
use Rattle.raid_base.specs.declared.names.Item.{Item}
use Rattle.raid_base.specs.declared.request.Request.{Request}
use Rattle.raid_base.specs.declared.entry.Act.{Act}
use Rattle.raid_base.specs.declared.entry.Act.TheVariants as acts
use Rattle.raid_base.specs.declared.entry.Cause.{Cause}
use Rattle.raid_base.specs.declared.entry.Cause.TheVariants as causes
use Rattle.raid_base.specs.declared.entry.Entry.{Entry}
use Rattle.raid_base.specs.declared.entry.Entry.TheVariants.{Wait, Commit, Abort}
use Rattle.raid_program.specs.declared.program.Want.{Want}
use Rattle.raid_program.specs.declared.program.Want.TheVariants as wants
use Rattle.raid_program.specs.Run.{Outcome, outcome_of, given}
use Rattle.raid_workload.specs.declared.workload.Workload.{Workload}
use Rattle.raid_workload.specs.Parts.{program}
use Rattle.raid_message.specs.declared.letter.Message.{Message}
use Rattle.raid_message.specs.declared.letter.Message.TheVariants as letters
use Rattle.raid_steps.specs.State.{Out, Phase, preparing, Running}

-- what the transaction's program comes to, given just the values of these reads
abbrev pub made_of : Workload → Txn → List (Item × ℤ) → Outcome
made_of w t reads = outcome_of (program w t) (given reads)

-- the program, given just the values of these reads, is done with just these reads and these writes
abbrev pub IsDone : Workload → Txn → List (Item × ℤ) → List (Item × ℤ) → Type 0
IsDone w t reads writes = made_of w t reads ≡ record { end = wants.Done; reads = reads; writes = writes }

-- so of a commit request
abbrev pub IsMadeRequest : Workload → Txn → Request → Type 0
IsMadeRequest w t request = IsDone w t request.reads request.writes

-- the program, given just the values of these reads, ends this way with just these reads
pub record EndsWith (w : Workload) (t : Txn) (end : Want) (reads : List (Item × ℤ)) : Type 0 where
  pub ended : (made_of w t reads).end ≡ end
  pub read : (made_of w t reads).reads ≡ reads

-- so of an own end with this cause: a stop of its own, or an overflow; no other is one
abbrev pub IsMadeEnd : Workload → Txn → Cause → List (Item × ℤ) → Type 0
IsMadeEnd w t causes.Own reads = EndsWith w t wants.Own reads
IsMadeEnd w t causes.Overflow reads = EndsWith w t wants.Overflow reads
IsMadeEnd w t other reads = ⊥

-- what an abort says that its transaction asked for, where that is a commit or its end, is what its program makes
abbrev pub IsMadeAct : Workload → Txn → Cause → Act → Type 0
IsMadeAct w t cause (acts.Commit request) = IsMadeRequest w t request
IsMadeAct w t cause (acts.Ended reads) = IsMadeEnd w t cause reads
IsMadeAct w t cause other = ⊤

-- the entry, if it tells a commit request or an own end, tells one that its program makes
abbrev pub IsMade : Workload → Entry → Type 0
IsMade w (Wait t request) = IsMadeRequest w t request
IsMade w (Commit t request applied) = IsMadeRequest w t request
IsMade w (Abort t cause act) = IsMadeAct w t cause act
IsMade w other = ⊤

-- so of all entries
abbrev pub EntriesMade : Workload → List Entry → Type 0
EntriesMade w h = AllByRecursion (IsMade w) h

-- the message, if it asks for a commit or tells an own end, says what its program makes
abbrev pub IsMadeMessage : Workload → Message → Type 0
IsMadeMessage w (letters.CommitAsk t request) = IsMadeRequest w t request
IsMadeMessage w (letters.EndAsk t cause reads) = IsMadeEnd w t cause reads
IsMadeMessage w other = ⊤

-- so of all messages that are sent
abbrev pub SentMade : Workload → List Out → Type 0
SentMade w outs = AllByRecursion (λ (out : Out). IsMadeMessage w out.2) outs

-- what a transaction in preparation is to write, and has read, is what its program makes
abbrev pub IsMadePhase : Workload → Txn → Phase → Type 0
IsMadePhase w t (preparing reads writes awaited) = IsDone w t reads writes
IsMadePhase w t other = ⊤

-- so of all programs that run at a site
abbrev pub AreMade : Workload → List Running → Type 0
AreMade w running = AllByRecursion (λ (r : Running). IsMadePhase w r.txn r.phase) running
