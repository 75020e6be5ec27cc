-- What copiers are told and tell of copies that wait to be renewed.
-- While a locked copy waits at an up site nobody writes its item, so what is sent for it is the
-- item's version. No value of an item is in it.
use Rattle.std.specs.Prelude.{◌≡◌, ℕ, zero, suc, ◌+◌, ◌-◌, ◌≤◌, true, false, List, [], ◌∷◌, ⊤}
use Rattle.std.specs.List.{AllByRecursion}
use Rattle.raid_base.specs.declared.names.Item.{Item}
use Rattle.raid_base.specs.declared.names.Site.{Site}
use Rattle.raid_base.specs.declared.entry.Noted.{Noted}
use Rattle.raid_base.specs.Sites.{session, site}
use Rattle.raid_workload.specs.declared.workload.Workload.{Workload}
use Rattle.raid_rules.specs.History.{noted, version}
use Rattle.raid_rules.specs.Sessions.{last_session, is_copy_locked}
use Rattle.raid_legal.specs.Seen.{vector}
use Rattle.raid_message.specs.declared.letter.Message.{Message}
use Rattle.raid_message.specs.declared.letter.Message.TheVariants as letters
use Rattle.raid_message.specs.declared.letter.Letter.{Letter}
use Rattle.raid_steps.specs.Fits.{knows_site}
use Rattle.raid_steps.specs.World.{World, link}
use Rattle.raid_letters.specs.Says.{is_held}
use Rattle.raid_versions.specs.Versions.{was_written}

-- a locked copy of the item waits at the site, which is up in the session
pub record Awaits (w : Workload) (p : List Noted) (s : Site) (n : ℕ) (x : Item) : Type 0 where
  pub some : 1 ≤ n
  pub up : session (vector w p) s ≡ n
  pub held : is_held w s x ≡ true
  pub locked : is_copy_locked p s x ≡ true

-- what comes for the site's copy, in a session that there has been, is the item's version while the
-- copy waits in that session
pub record IsCurrent (w : Workload) (p : List Noted) (s : Site) (n : ℕ) (x : Item) (v : ℕ)
    : Type 0 where
  pub past : n ≤ last_session p s
  pub current : Awaits w p s n x → v ≡ version p x

-- the message has no Commit applied that writes the item
abbrev pub IsOff : List Noted → Item → Message → Type 0
IsOff p x (letters.Apply t number) = was_written p x number ≡ false
IsOff p x other = ⊤

abbrev pub AreOff : List Noted → Item → List Letter → Type 0
AreOff p x ls = AllByRecursion (λ (l : Letter). IsOff p x l.message) ls

-- A site is told, in a session of it, to send its copy to a target in a session of that, and there
-- are letters behind. While the target's copy waits for it, the site's own isn't locked in its
-- session, and no letter behind has a write of the item applied.
pub record Copies (w : Workload) (p : List Noted) (here : Site) (to : ℕ) (x : Item) (target : Site)
    (n : ℕ) (behind : List Letter) : Type 0 where
  pub past : to ≤ last_session p here
  pub target_past : n ≤ last_session p target
  pub unlocked : is_held w here x ≡ true → 1 ≤ to → session (vector w p) here ≡ to →
      Awaits w p target n x → is_copy_locked p here x ≡ false
  pub off : Awaits w p target n x → AreOff p x behind

-- what the sequencer tells a site, with the letters behind
abbrev pub Asks : Workload → List Noted → Site → ℕ → Message → List Letter → Type 0
Asks w p here to (letters.CopyDo x target n) behind =
    knows_site w here ≡ true → knows_site w target ≡ true → Copies w p here to x target n behind
Asks w p here to other behind = ⊤

-- what a site tells another server: a copy for the addressee, or that its own was renewed
abbrev pub Speaks : Workload → List Noted → Site → Site → ℕ → ℕ → Message → Type 0
Speaks w p here there to from (letters.CopyValue x value v) =
    knows_site w here ≡ true → IsCurrent w p here to x v
Speaks w p here there to from (letters.CopyDone x v) =
    knows_site w there ≡ true → IsCurrent w p there from x v
Speaks w p here there to from other = ⊤

-- along the sequencer's letters to a site
abbrev pub AskAlong : Workload → List Noted → Site → List Letter → Type 0
AskAlong w p here [] = ⊤
AskAlong w p here (l ∷ ls) = Asks w p here l.to l.message ls × AskAlong w p here ls

-- the letters on the link to a server from another: from the sequencer, or from a site
abbrev pub QueueTells : Workload → List Noted → ℕ → ℕ → List Letter → Type 0
QueueTells w p server zero queue = ⊤
QueueTells w p server (suc zero) queue = AskAlong w p (site (server - 1)) queue
QueueTells w p server (suc (suc j)) queue =
    let heard = Speaks w p (site (server - 1)) (site (j + 1)) in
    AllByRecursion (λ (l : Letter). heard l.to l.from l.message) queue

-- all links
abbrev pub LinksTell : Workload → List Noted → List (List (List Letter)) → Type 0
LinksTell w p links = (server from : ℕ) → QueueTells w p server from (link links server from)

-- what copiers are told and tell is so, as far as history and letters on their way are concerned
abbrev pub CopiersTell : Workload → World → Type 0
CopiersTell w state = LinksTell w (noted state.servers.sequencer.history) state.links
