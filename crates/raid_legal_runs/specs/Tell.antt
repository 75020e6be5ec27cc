-- What programs were answered, and what is asked for them, is what the history says that their transactions have seen.
use Rattle.std.specs.Prelude.{◌≡◌, ℕ, ℤ, ◌+◌, true, false, List, Some, slice_get, ⊤}
use Rattle.std.specs.List.{AllByRecursion}
use Rattle.raid_base.specs.declared.names.Txn.{Txn}
use Rattle.raid_base.specs.declared.names.Item.{Item}
use Rattle.raid_base.specs.declared.entry.Noted.{Noted}
use Rattle.raid_base.specs.Names.{is_item, holds}
use Rattle.raid_program.specs.declared.program.Want.TheVariants as wants
use Rattle.raid_program.specs.Run.{given}
use Rattle.raid_workload.specs.declared.workload.Workload.{Workload}
use Rattle.raid_rules.specs.History.{noted, has_ended}
use Rattle.raid_legal.specs.Seen.{seen, outcome}
use Rattle.raid_message.specs.declared.letter.Message.{Message}
use Rattle.raid_message.specs.declared.letter.Message.TheVariants as letters
use Rattle.raid_message.specs.declared.letter.Letter.{Letter}
use Rattle.raid_steps.specs.State.{Phase, asking, preparing, sent, Running, SiteState}
use Rattle.raid_steps.specs.World.{World, link}
use Rattle.raid_sessions.specs.Present.{last_told}
use Rattle.raid_layers.specs.Asks.{has_read}
use Rattle.raid_runs.specs.Asked.{IsSeen}

-- the values of all items but one are those that the transaction has seen
abbrev pub IsSeenBut : Workload → List Noted → Txn → Item → List (Item × ℤ) → Type 0
IsSeenBut w p t x answers = (y : Item) → is_item x y ≡ false → holds y answers ≡ true → seen w p t y ≡ given answers y

-- What a program has, by what it is about: while it asks for an item, its other answers are what was seen; in preparation, the reads are
abbrev pub HasSeen : Workload → List Noted → Txn → List (Item × ℤ) → Phase → Type 0
HasSeen w p t answers (asking ask x server) = IsSeenBut w p t x answers
HasSeen w p t answers (preparing reads writes awaited) = IsSeen w p t reads
HasSeen w p t answers sent = ⊤

-- What is asked for a transaction that isn't over: its program, run on what was seen, wants the item, if it hasn't read it yet; and the reads
-- that are told are what was seen
abbrev pub AsksSeen : Workload → List Noted → Message → Type 0
AsksSeen w p (letters.ReadAsk t ask x) = has_ended p t ≡ false → has_read p t x ≡ false → (outcome w p t).end ≡ wants.Read x
AsksSeen w p (letters.CommitAsk t request) = has_ended p t ≡ false → IsSeen w p t request.reads
AsksSeen w p (letters.EndAsk t cause reads) = has_ended p t ≡ false → IsSeen w p t reads
AsksSeen w p other = ⊤

-- programs go by what the history says
pub record TellSeen (w : Workload) (state : World) : Type 0 where
  -- at a site that is up in its last session told, each program whose transaction isn't over has what was seen
  pub running : (k : ℕ) (s : SiteState) → slice_get state.servers.sites k ≡ Some s → s.up ≡ true → last_told state k ≡ s.session →
      AllByRecursion (λ (r : Running). has_ended (noted state.servers.sequencer.history) r.txn ≡ false → HasSeen w (noted state.servers.sequencer.history) r.txn r.answers r.phase) s.running
  -- and from each site just that is asked for
  pub asks : (k : ℕ) → AllByRecursion (λ (l : Letter). AsksSeen w (noted state.servers.sequencer.history) l.message) (link state.links 1 (k + 2))
