-- Who owes an Ack has on its way what brings it: the Apply, or the Ack itself.
use Rattle.std.specs.Prelude.{◌≡◌, ℕ, ◌+◌, ◌==◌, Bool, true, false, ◌&&◌, ◌||◌, List, Some, slice_get}
use Rattle.std.specs.List.{list_any}
use Rattle.raid_base.specs.declared.names.Txn.{Txn}
use Rattle.raid_base.specs.declared.entry.Noted.{Noted}
use Rattle.raid_base.specs.Names.{is_txn}
use Rattle.raid_base.specs.Sites.{site}
use Rattle.raid_workload.specs.declared.workload.Workload.{Workload}
use Rattle.raid_workload.specs.Parts.{txns, sites}
use Rattle.raid_rules.specs.History.{noted}
use Rattle.raid_rules.specs.Sessions.{owes}
use Rattle.raid_message.specs.declared.letter.Message.{Message}
use Rattle.raid_message.specs.declared.letter.Message.TheVariants as letters
use Rattle.raid_message.specs.declared.letter.Letter.{Letter}
use Rattle.raid_steps.specs.State.{SiteState}
use Rattle.raid_steps.specs.World.{World, link}
use Rattle.raid_vectors.specs.Vectors.{IsTold}

-- the message tells its site to apply the transaction's writes
abbrev pub applies : Txn → Message → Bool
applies t (letters.Apply u number) = is_txn t u
applies t other = false

-- the message says that this was done
abbrev pub acks : Txn → Message → Bool
acks t (letters.Ack u) = is_txn t u
acks t other = false

-- one of the letters to a site, meant for a session, tells it to apply them
abbrev pub is_to_apply : ℕ → Txn → List Letter → Bool
is_to_apply m t notes = list_any (λ (l : Letter). l.to == m && applies t l.message) notes

-- one of the letters of a site, sent in a session, says that it has
abbrev pub is_acked : ℕ → Txn → List Letter → Bool
is_acked m t asks = list_any (λ (l : Letter). l.from == m && acks t l.message) asks

-- what the site at a place owes, while the history has it up in its session, is on its way
abbrev pub OwesWhatComes : List Noted → ℕ → SiteState → List Letter → List Letter → Type 0
OwesWhatComes p k s asks notes =
    (t : Txn) → owes p (site (k + 1)) t ≡ true →
    (is_to_apply s.session t notes || is_acked s.session t asks) ≡ true

abbrev pub AcksCome : Workload → World → Type 0
AcksCome w state =
    let p = noted state.servers.sequencer.history in
    (k : ℕ) (s : SiteState) → slice_get state.servers.sites k ≡ Some s → IsTold w p k s →
    OwesWhatComes p k s (link state.links 1 (k + 2)) (link state.links (k + 2) 1)

-- no site owes an Ack
abbrev pub NoneOwes : Workload → World → Type 0
NoneOwes w state =
    let p = noted state.servers.sequencer.history in
    list_any (λ s. list_any (owes p s) (txns w)) (sites w) ≡ false
