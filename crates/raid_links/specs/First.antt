-- Which link comes first in the fixed order of picks: by addressee, then by sender.
use Rattle.std.specs.Prelude.{◌≡◌, ◌≢◌, ℕ, ◌<◌, ◌==◌, Bool, not, List, [], length, slice_index_or}
use Rattle.raid_message.specs.declared.letter.Letter.{Letter}
use Rattle.raid_steps.specs.World.{link}

-- a letter is on the link
abbrev pub has_letter : List Letter → Bool
has_letter queue = not (length queue == 0)

-- of the links to one server, by sender: this one holds a letter, and none from a lesser sender does
pub record IsFirstSender (queues : List (List Letter)) (from : ℕ) : Type 0 where
  pub holds : slice_index_or queues from [] ≢ []
  pub senders : (k : ℕ) → k < from → slice_index_or queues k [] ≡ []

-- the link to this server from this sender holds a letter, and no link to a lesser server, nor one to this server from a lesser sender, does
pub record IsFirst (links : List (List (List Letter))) (pick : ℕ × ℕ) : Type 0 where
  pub holds : link links pick.0 pick.1 ≢ []
  pub servers : (server from : ℕ) → server < pick.0 → link links server from ≡ []
  pub senders : (from : ℕ) → from < pick.1 → link links pick.0 from ≡ []
