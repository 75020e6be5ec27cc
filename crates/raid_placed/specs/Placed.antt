-- What the sequencer places, whatever letters it hears. A legal history is placed; a placed one needn't be legal, since the sequencer can't
-- see what the programs want, which stops and returns are due, or which sessions there were: it takes the letters' word for that.
use Rattle.std.specs.Prelude.{◌≡◌, ℕ, ◌+◌, ◌*◌, ◌-◌, true, false, List, [], length, Option, Some, None, ⊤, if◌then◌else◌}
use Rattle.raid_base.specs.declared.names.Txn.{Txn}
use Rattle.raid_base.specs.declared.names.Item.{Item}
use Rattle.raid_base.specs.declared.request.Request.{Request}
use Rattle.raid_base.specs.declared.entry.Entry.{Entry}
use Rattle.raid_base.specs.declared.entry.Entry.TheVariants.{Begin, Read, Wait, Commit, Abort, Ack, SwitchOn, SwitchEnd, Down, Up, Clear}
use Rattle.raid_base.specs.declared.entry.Act.{Act}
use Rattle.raid_base.specs.declared.entry.Act.TheVariants as acts
use Rattle.raid_base.specs.declared.entry.Cause.{Cause}
use Rattle.raid_base.specs.declared.entry.Noted.{Noted}
use Rattle.raid_base.specs.Names.{has_txn}
use Rattle.raid_workload.specs.declared.workload.Workload.{Workload}
use Rattle.raid_workload.specs.Parts.{home, txns}
use Rattle.raid_rules.specs.History.{noted, has_begun, version}
use Rattle.raid_rules.specs.Sessions.{owes}
use Rattle.raid_legal.specs.Seen.{running, is_up, is_locked}
use Rattle.raid_legal.specs.InForce.{in_force, is_joint}
use Rattle.raid_legal.specs.Answers.{answer_read, answer_commit}
use Rattle.raid_legal.specs.Forced.{forced}
use Rattle.raid_legal.specs.Legal.{EachSeeing, is_free, may_begin}

-- the entry is the answer to a read, asked by a transaction that may ask
abbrev pub SentRead : Workload → List Noted → Txn → Item → Entry → Type 0
SentRead w p t x e = (is_free p t ≡ true) × (answer_read w p t x ≡ e)

-- the entry is the answer to a commit request of such a transaction
abbrev pub SentCommit : Workload → List Noted → Txn → Request → Entry → Type 0
SentCommit w p t request e = (is_free p t ≡ true) × (answer_commit w p t request ≡ Some e)

-- an abort that no switch and no stop forces: it answers what its act says was asked
abbrev pub SentAbort : Workload → List Noted → Txn → Cause → Act → Type 0
SentAbort w p t cause acts.Nothing = ⊥
SentAbort w p t cause (acts.Ended reads) = is_free p t ≡ true
SentAbort w p t cause (acts.Read x) = SentRead w p t x (Abort t cause (acts.Read x))
SentAbort w p t cause (acts.Commit request) = SentCommit w p t request (Abort t cause (acts.Commit request))

-- the entry may be placed where none is forced: one rule for each sort of entry. A Down may come at any time, since a Hello may name a
-- session that no site has, and is then followed by one
abbrev pub Sent : Workload → List Noted → Entry → Type 0
Sent w p (Begin t s) = (home w t ≡ s) × (may_begin w p t ≡ true)
Sent w p (Read t x s) = SentRead w p t x (Read t x s)
Sent w p (Wait t request) = SentCommit w p t request (Wait t request)
Sent w p (Commit t request applied) = SentCommit w p t request (Commit t request applied)
Sent w p (Abort t cause act) = SentAbort w p t cause act
Sent w p (Ack t s) = owes p s t ≡ true
Sent w p (SwitchOn k kind method) = ⊥
Sent w p (SwitchEnd k) = ⊥
Sent w p (Down s) = ⊤
Sent w p (Up s session) = is_up w p s ≡ false
Sent w p (Clear s x v) = (is_locked w p s x ≡ true) × (v ≡ version p x)

-- the entry is the forced one, where one is forced, and else one that may be placed
abbrev pub Goes : Workload → List Noted → Entry → Option Entry → Type 0
Goes w p e (Some must) = e ≡ must
Goes w p e None = Sent w p e

-- the entry may be placed next after the prefix
abbrev pub Placeable : Workload → List Noted → Entry → Type 0
Placeable w p e = Goes w p e (forced w p)

-- each entry of the history could be placed after those before it
abbrev pub Placed : Workload → List Entry → Type 0
Placed w h = EachSeeing (λ p n. Placeable w p n.entry) [] (noted h)

-- each transaction with a Begin is of the workload
abbrev pub AreKnown : Workload → List Noted → Type 0
AreKnown w p = (t : Txn) → has_begun p t ≡ true → has_txn (txns w) t ≡ true

-- how many entries can still be forced one after the other, at most: an end for each that runs, two entries for each switch to come, one for
-- the switch that is on
abbrev pub to_force : Workload → List Noted → ℕ
to_force w p = length (running w p) + (2 * (length w.switches - (in_force w p).switches) + (if is_joint (in_force w p) then 1 else 0))
