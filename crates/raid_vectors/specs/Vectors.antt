-- What an up site comes to know of the sessions of all sites, once it has heard the notes on their way.
use Rattle.std.specs.Prelude.{◌≡◌, ◌⊎◌, ℕ, ◌+◌, ◌==◌, true, false, List, [], ◌∷◌, Some, slice_get, if◌then◌else◌}
use Rattle.raid_base.specs.declared.entry.Noted.{Noted}
use Rattle.raid_base.specs.declared.names.Site.{Site}
use Rattle.raid_base.specs.Sites.{session, site}
use Rattle.raid_workload.specs.declared.workload.Workload.{Workload}
use Rattle.raid_rules.specs.History.{noted}
use Rattle.raid_rules.specs.Sessions.{with_session}
use Rattle.raid_legal.specs.Seen.{vector}
use Rattle.raid_message.specs.declared.letter.Message.{Message}
use Rattle.raid_message.specs.declared.letter.Message.TheVariants as letters
use Rattle.raid_message.specs.declared.letter.Letter.{Letter}
use Rattle.raid_steps.specs.State.{SiteState}
use Rattle.raid_steps.specs.World.{World, link}

-- the vector after a message: a Welcome brings one, a note of another site changes its session in it
abbrev pub told_by : List ℕ → Message → List ℕ
told_by v (letters.Welcome u next) = u
told_by v (letters.DownNote s) = with_session v s 0
told_by v (letters.UpNote s n) = with_session v s n
told_by v other = v

-- the vector after all letters that are meant for a session, front first
abbrev pub to_come : ℕ → List ℕ → List Letter → List ℕ
to_come m v [] = v
to_come m v (l ∷ ls) = to_come m (if l.to == m then told_by v l.message else v) ls

-- the site at a place, counted from 0, is up, and the history has it in that session
pub record IsTold (w : Workload) (p : List Noted) (k : ℕ) (s : SiteState) : Type 0 where
  pub up : s.up ≡ true
  pub told : session (vector w p) (site (k + 1)) ≡ s.session

-- the message is a Welcome, with a vector that has the site in the session
abbrev pub IsWelcome : Site → ℕ → Message → Type 0
IsWelcome here m (letters.Welcome v next) = session v here ≡ m
IsWelcome here m other = ⊥

-- of the letters that are meant for the session the first is such a Welcome
abbrev pub WelcomeFirst : Site → ℕ → List Letter → Type 0
WelcomeFirst here m [] = ⊥
WelcomeFirst here m (l ∷ ls) =
    ((l.to ≡ m) × IsWelcome here m l.message)
    ⊎ (((l.to == m) ≡ false) × WelcomeFirst here m ls)

-- what the site knows and is told comes to the vector of the history; and it was welcomed, so that
-- its vector has its own session, or its Welcome is the first that it hears
pub record Comes (w : Workload) (p : List Noted) (k : ℕ) (s : SiteState) (notes : List Letter)
    : Type 0 where
  pub comes : to_come s.session s.vector notes ≡ vector w p
  pub welcomed : (session s.vector (site (k + 1)) ≡ s.session)
      ⊎ WelcomeFirst (site (k + 1)) s.session notes

-- so it is at each site that the history has up in the site's session
abbrev pub VectorsCome : Workload → World → Type 0
VectorsCome w state =
    (k : ℕ) (s : SiteState) → slice_get state.servers.sites k ≡ Some s →
    IsTold w (noted state.servers.sequencer.history) k s →
    Comes w (noted state.servers.sequencer.history) k s (link state.links (k + 2) 1)

-- each such site knows the vector of the history
abbrev pub VectorsAgree : Workload → World → Type 0
VectorsAgree w state =
    (k : ℕ) (s : SiteState) → slice_get state.servers.sites k ≡ Some s →
    IsTold w (noted state.servers.sequencer.history) k s →
    s.vector ≡ vector w (noted state.servers.sequencer.history)
