-- Where two vectors agree.
use Rattle.std.specs.Prelude.{ℕ, ◌==◌, Bool, not, ◌||◌, List}
use Rattle.std.specs.List.{list_all}
use Rattle.raid_base.specs.declared.names.Site.{Site}
use Rattle.raid_base.specs.Sites.{session}
use Rattle.raid_rules.specs.Sessions.{is_site_up}

-- the site is down in the present vector, or has the same session in both
abbrev pub is_same : List ℕ → List ℕ → Site → Bool
is_same request present s = not (is_site_up present s) || session present s == session request s

-- each of the holders that is up in the present vector has the same session in both
abbrev pub agree : List ℕ → List ℕ → List Site → Bool
agree request present holders = list_all (is_same request present) holders
