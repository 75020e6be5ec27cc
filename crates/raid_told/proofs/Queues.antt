-- Letters on links: what is added at the end of a link, and what is left when its front is taken.
use Rattle.std.proofs.Common.{◌≡◌, ℕ, zero, suc, ◌+◌, ◌-◌, Bool, true, false, List, [], ◌∷◌, ◌++◌, fold, subst, refl}
use Rattle.std.specs.Prelude.{⊤}
use Rattle.std.specs.List.{AllByRecursion}
use Rattle.raid_base.specs.declared.names.Item.{Item}
use Rattle.raid_base.specs.declared.names.Site.{Site}
use Rattle.raid_base.specs.declared.entry.Noted.{Noted}
use Rattle.raid_base.specs.Sites.{site}
use Rattle.raid_workload.specs.declared.workload.Workload.{Workload}
use Rattle.raid_message.specs.declared.letter.Message.{Message}
use Rattle.raid_message.specs.declared.letter.Message.TheVariants as letters
use Rattle.raid_message.specs.declared.letter.Letter.{Letter}
use Rattle.raid_sessions.proofs.Lists.{all_append}
use Rattle.raid_steps.specs.Fits.{knows_site}
use Rattle.raid_steps.specs.State.{Out}
use Rattle.raid_steps.specs.World.{link, set_link, post}
use Rattle.raid_letters.proofs.Runs.{set_all}
use Rattle.raid_versions.specs.Versions.{was_written}
use Rattle.raid_told.specs.Copiers.{Awaits, IsOff, Copies, Asks, Speaks, AskAlong, QueueTells, LinksTell}

module _ (w : Workload) (p : List Noted) where
  -- what the message has applied writes no item of which a copy waits
  abbrev pub Joins : Message → Type 0
  Joins (letters.Apply t number) = (x : Item) → was_written p x number ≡ true → (s : Site) (n : ℕ) → knows_site w s ≡ true → Awaits w p s n x → ⊥
  Joins other = ⊤

  off_joins : (m : Message) → Joins m → (x : Item) (s : Site) (n : ℕ) → knows_site w s ≡ true → Awaits w p s n x → IsOff p x m
  off_joins (letters.Apply t number) joins x s n known waits = go (was_written p x number) refl
    where
      go : (b : Bool) → was_written p x number ≡ b → b ≡ false
      go true wrote = absurd (joins x wrote s n known waits)
      go false wrote = refl
  off_joins other joins x s n known waits = tt

  copies_push : (here : Site) (to : ℕ) (x : Item) (target : Site) (n : ℕ) (behind : List Letter) (l : Letter) → Joins l.message → knows_site w target ≡ true → Copies w p here to x target n behind → Copies w p here to x target n (behind ++ l ∷ [])
  copies_push here to x target n behind l joins wanted old = record {
    past = old.past;
    target_past = old.target_past;
    unlocked = old.unlocked;
    off = λ waits. all_append (λ (l : Letter). IsOff p x l.message) behind (l ∷ []) (old.off waits) (off_joins l.message joins x target n wanted waits, tt);
  }

  asks_push : (here : Site) (to : ℕ) (m : Message) (behind : List Letter) (l : Letter) → Joins l.message → Asks w p here to m behind → Asks w p here to m (behind ++ l ∷ [])
  asks_push here to (letters.CopyDo x target n) behind l joins h = λ known wanted. copies_push here to x target n behind l joins wanted (h known wanted)
  asks_push here to other behind l joins h = tt

  along_push : (here : Site) (ls : List Letter) (l : Letter) → Joins l.message → Asks w p here l.to l.message [] → AskAlong w p here ls → AskAlong w p here (ls ++ l ∷ [])
  along_push here [] l joins asks a = (asks, tt)
  along_push here (k ∷ ls) l joins asks a = (asks_push here k.to k.message ls l joins a.0, along_push here ls l joins asks a.1)

  -- what the sequencer sends
  abbrev pub Sent : Out → Type 0
  Sent out = Joins out.2 × Asks w p (site (out.0 - 1)) out.1 out.2 []

  pub sequencer_posts : (clock : ℕ) (outs : List Out) (links : List (List (List Letter))) → AllByRecursion Sent outs → LinksTell w p links → LinksTell w p (fold (post 1 0 clock) links outs)
  sequencer_posts clock [] links a h = h
  sequencer_posts clock (out ∷ outs) links a h =
      let l : Letter = record { clock = clock; from = 0; to = out.1; message = out.2 } in
      sequencer_posts clock outs (post 1 0 clock links out) a.1
      (set_all (QueueTells w p) links out.0 1 (link links out.0 1 ++ l ∷ []) h (along_push (site (out.0 - 1)) (link links out.0 1) l a.0.0 a.0.1 (h out.0 1)))

  -- what the site at a place sends in a session
  abbrev pub SiteSent : ℕ → ℕ → Out → Type 0
  SiteSent j session out = Speaks w p (site (out.0 - 1)) (site (j + 1)) out.1 session out.2

  pub site_posts : (j session clock : ℕ) (outs : List Out) (links : List (List (List Letter))) → AllByRecursion (SiteSent j session) outs → LinksTell w p links → LinksTell w p (fold (post (suc (suc j)) session clock) links outs)
  site_posts j session clock [] links a h = h
  site_posts j session clock (out ∷ outs) links a h =
      let l : Letter = record { clock = clock; from = session; to = out.1; message = out.2 } in
      site_posts j session clock outs (post (suc (suc j)) session clock links out) a.1
      (set_all (QueueTells w p) links out.0 (suc (suc j)) (link links out.0 (suc (suc j)) ++ l ∷ []) h
      (all_append (λ (l : Letter). Speaks w p (site (out.0 - 1)) (site (j + 1)) l.to l.from l.message) (link links out.0 (suc (suc j))) (l ∷ []) (h out.0 (suc (suc j))) (a.0, tt)))

  -- what the monitor sends says nothing of copies
  pub monitor_posts : (session clock : ℕ) (outs : List Out) (links : List (List (List Letter))) → LinksTell w p links → LinksTell w p (fold (post 0 session clock) links outs)
  monitor_posts session clock [] links h = h
  monitor_posts session clock (out ∷ outs) links h =
      monitor_posts session clock outs (post 0 session clock links out) (set_all (QueueTells w p) links out.0 0 (link links out.0 0 ++ record { clock = clock; from = session; to = out.1; message = out.2 } ∷ []) h tt)

  -- the front of a link is taken
  pub front_taken : (links : List (List (List Letter))) (server from : ℕ) (l : Letter) (rest : List Letter) → link links server from ≡ l ∷ rest → LinksTell w p links → LinksTell w p (set_link links server from rest)
  front_taken links server from l rest front h = set_all (QueueTells w p) links server from rest h (go from (subst (QueueTells w p server from) front (h server from)))
    where
      go : (d : ℕ) → QueueTells w p server d (l ∷ rest) → QueueTells w p server d rest
      go zero a = tt
      go (suc zero) a = a.1
      go (suc (suc j)) a = a.1
