-- What is on its way from a site to the sequencer.
use Rattle.std.specs.Prelude.{◌≡◌, ℕ, ◌+◌, ◌==◌, Bool, true, false, not, ◌&&◌, List, [], ◌∷◌, ◌++◌, ⊤, if◌then◌else◌}
use Rattle.std.specs.List.{AllByRecursion, list_any}
use Rattle.raid_base.specs.declared.names.Txn.{Txn}
use Rattle.raid_base.specs.Names.{is_txn, has_txn}
use Rattle.raid_base.specs.declared.entry.Noted.{Noted}
use Rattle.raid_workload.specs.declared.workload.Workload.{Workload}
use Rattle.raid_legal.specs.Legal.{may_begin}
use Rattle.raid_message.specs.declared.letter.Message.{Message}
use Rattle.raid_message.specs.declared.letter.Message.TheVariants as letters
use Rattle.raid_message.specs.declared.letter.Letter.{Letter}
use Rattle.raid_rules.specs.History.{noted, has_begun}
use Rattle.raid_steps.specs.State.{Running, SiteState}
use Rattle.raid_steps.specs.World.{World, link}

-- the message is the transaction's Begin
abbrev pub begins : Txn → Message → Bool
begins t (letters.Begin u) = is_txn t u
begins t other = false

-- the transaction's Begin is among the letters that were sent in a session
abbrev pub is_on_its_way : ℕ → Txn → List Letter → Bool
is_on_its_way session t ls = list_any (λ (l : Letter). l.from == session && begins t l.message) ls

-- of each program that runs at the site at a place, counted from 0: its transaction's Begin is among the letters on the way that the site
-- sent in its session, exactly where the history hasn't it
abbrev pub HaveBegun : World → ℕ → SiteState → Type 0
HaveBegun state k s = AllByRecursion (λ (r : Running). is_on_its_way s.session r.txn (link state.links 1 (k + 2)) ≡ not (has_begun (noted state.servers.sequencer.history) r.txn)) s.running

-- the transactions whose Begins are among the letters that were sent in a session, in order
abbrev pub begun_by : Message → List Txn
begun_by (letters.Begin t) = t ∷ []
begun_by other = []

abbrev pub begins_of : ℕ → List Letter → List Txn
begins_of session [] = []
begins_of session (l ∷ ls) = if l.from == session then begun_by l.message ++ begins_of session ls else begins_of session ls

-- they haven't begun, and each is there once
abbrev pub AreNew : List Noted → List Txn → Type 0
AreNew p [] = ⊤
AreNew p (t ∷ ts) = ((has_begun p t ≡ false) × (has_txn ts t ≡ false)) × AreNew p ts

-- the first of them may begin
abbrev pub FirstMay : Workload → List Noted → List Txn → Type 0
FirstMay w p [] = ⊤
FirstMay w p (t ∷ ts) = may_begin w p t ≡ true

-- the Begins on their way from a site at a place, counted from 0, that were sent in its session
pub record WaitInTurn (w : Workload) (state : World) (k : ℕ) (s : SiteState) : Type 0 where
  pub new : AreNew (noted state.servers.sequencer.history) (begins_of s.session (link state.links 1 (k + 2)))
  pub first : FirstMay w (noted state.servers.sequencer.history) (begins_of s.session (link state.links 1 (k + 2)))
