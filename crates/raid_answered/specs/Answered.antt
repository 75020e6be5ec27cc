-- What became of what programs have asked.
use Rattle.std.specs.Prelude.{◌≡◌, ℕ, ◌+◌, true, false, List, [], Some, ⊤}
use Rattle.raid_base.specs.declared.names.Txn.{Txn}
use Rattle.raid_base.specs.declared.entry.Noted.{Noted}
use Rattle.raid_workload.specs.declared.workload.Workload.{Workload}
use Rattle.raid_rules.specs.History.{noted, has_ended, is_waiting}
use Rattle.raid_steps.specs.State.{Phase, asking, preparing, sent, Running, SiteState}
use Rattle.raid_steps.specs.Programs.{running_of}
use Rattle.raid_steps.specs.World.{World, link}
use Rattle.raid_layers.specs.Asks.{asks_of}
use Rattle.raid_witness.specs.AtHome.{IsAwake}
use Rattle.raid_witness.specs.Ended.{count_reads}

-- what became of a program's last ask, once it isn't on its way any more: each ask for an item was
-- granted a Read, and who has asked for the end waits
abbrev pub IsAnswered : List Noted → Txn → Phase → Type 0
IsAnswered p t (asking ask x q) = count_reads p t ≡ ask
IsAnswered p t (preparing reads writes awaited) = ⊤
IsAnswered p t sent = is_waiting p t ≡ true

-- so it is with each program at an awake site whose transaction isn't over, and of which no ask is
-- on its way
abbrev pub AsksAreAnswered : Workload → World → Type 0
AsksAreAnswered w state =
    let p = noted state.servers.sequencer.history in
    (k : ℕ) (s : SiteState) → IsAwake state k s →
    (t : Txn) (r : Running) → running_of s t ≡ Some r → has_ended p t ≡ false →
    asks_of t (link state.links 1 (k + 2)) ≡ [] → IsAnswered p t r.phase
