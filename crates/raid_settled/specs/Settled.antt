-- Copies that are under way: each has a letter on its way, and each that could be sent for is one.
-- No version and no value is in it.
use Rattle.std.specs.Prelude.{◌≡◌, ℕ, ◌+◌, ◌≤◌, ◌==◌, Bool, true, false, ◌&&◌, ◌||◌, List}
use Rattle.std.specs.List.{AllByRecursion, list_any, list_all}
use Rattle.raid_base.specs.declared.names.Item.{Item}
use Rattle.raid_base.specs.declared.names.Site.{Site}
use Rattle.raid_base.specs.declared.entry.Noted.{Noted}
use Rattle.raid_base.specs.Names.{is_item, is_site}
use Rattle.raid_base.specs.Sites.{session}
use Rattle.raid_workload.specs.declared.workload.Workload.{Workload}
use Rattle.raid_workload.specs.Parts.{sites, items}
use Rattle.raid_rules.specs.History.{noted}
use Rattle.raid_legal.specs.Seen.{vector, is_locked}
use Rattle.raid_legal.specs.Switched.{is_settled}
use Rattle.raid_message.specs.declared.letter.Message.{Message}
use Rattle.raid_message.specs.declared.letter.Message.TheVariants as letters
use Rattle.raid_message.specs.declared.letter.Letter.{Letter}
use Rattle.raid_steps.specs.State.{Copying, SiteState}
use Rattle.raid_steps.specs.Fits.{knows_site, knows_item}
use Rattle.raid_steps.specs.World.{World, link}
use Rattle.raid_witness.specs.Ended.{HasEnded}

-- the message asks for a copy of the item, for the target in a session of it
abbrev pub asks_for : Item → Site → ℕ → Message → Bool
asks_for x target n (letters.CopyDo y s k) = is_item x y && (is_site target s && (k == n))
asks_for x target n other = false

-- the message brings a copy of the item
abbrev pub brings : Item → Message → Bool
brings x (letters.CopyValue y value version) = is_item x y
brings x other = false

-- the message tells that the copy of the item was renewed
abbrev pub tells : Item → Message → Bool
tells x (letters.CopyDone y version) = is_item x y
tells x other = false

-- the letter asks a source in its session m for the copy of a target in its session n
abbrev pub asks_copy : ℕ → ℕ → Copying → Letter → Bool
asks_copy m n c l = (l.to == m) && asks_for c.item c.target n l.message

-- the letter brings the copy to the target in its session
abbrev pub brings_copy : ℕ → Copying → Letter → Bool
brings_copy n c l = (l.to == n) && brings c.item l.message

-- the target tells in its session that the copy was renewed
abbrev pub tells_copy : ℕ → Copying → Letter → Bool
tells_copy n c l = (l.from == n) && tells c.item l.message

-- The copy has a letter on its way, its source being in session m and its target in session n; or one
-- of these has ended
pub data HasLetter (sites : List SiteState) (links : List (List (List Letter))) (m n : ℕ)
    (c : Copying) : Type 0 where
  asked : list_any (asks_copy m n c) (link links (c.source.0 + 1) 1) ≡ true → HasLetter sites links m n c
  brought : list_any (brings_copy n c) (link links (c.target.0 + 1) (c.source.0 + 1)) ≡ true →
      HasLetter sites links m n c
  told : list_any (tells_copy n c) (link links 1 (c.target.0 + 1)) ≡ true → HasLetter sites links m n c
  source_ended : HasEnded sites c.source m → HasLetter sites links m n c
  target_ended : HasEnded sites c.target n → HasLetter sites links m n c

-- the copy is locked at an up site, and its source is another up site
pub record Stands (w : Workload) (p : List Noted) (c : Copying) : Type 0 where
  pub target_known : knows_site w c.target ≡ true
  pub source_known : knows_site w c.source ≡ true
  pub item_known : knows_item w c.item ≡ true
  pub other : is_site c.target c.source ≡ false
  pub target_up : 1 ≤ session (vector w p) c.target
  pub source_up : 1 ≤ session (vector w p) c.source
  pub locked : is_locked w p c.target c.item ≡ true

-- it is under way: it has a letter besides, of the sessions that the history has
pub record UnderWay (w : Workload) (p : List Noted) (sites : List SiteState)
    (links : List (List (List Letter))) (c : Copying) : Type 0 where
  pub stands : Stands w p c
  pub letter : HasLetter sites links (session (vector w p) c.source) (session (vector w p) c.target) c

-- a copy of the item is sent for, for the site
abbrev pub is_sent_for : List Copying → Site → Item → Bool
is_sent_for out s x = list_any (λ c. is_site s c.target && is_item x c.item) out

-- the site's copy needn't be renewed or can't be, or it is sent for
abbrev pub is_cared_for : Workload → List Noted → List Copying → Site → Item → Bool
is_cared_for w p out s x = is_settled w p s x || is_sent_for out s x

abbrev pub are_cared_for : Workload → List Noted → List Copying → Bool
are_cared_for w p out = list_all (λ s. list_all (is_cared_for w p out s) (items w)) (sites w)

-- what is sent for is under way, and each copy is cared for
pub record CopiesAreCaredFor (w : Workload) (state : World) : Type 0 where
  pub under_way : AllByRecursion (UnderWay w (noted state.servers.sequencer.history) state.servers.sites state.links) state.servers.sequencer.copying
  pub cared_for : are_cared_for w (noted state.servers.sequencer.history) state.servers.sequencer.copying ≡ true
