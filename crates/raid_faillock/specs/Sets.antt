-- Sets of sites in tables.
use Rattle.std.specs.Prelude.{ℕ, Bool, List, [], slice_index_or}
use Rattle.std.specs.List.{list_any}
use Rattle.raid_base.specs.declared.names.Site.{Site}
use Rattle.raid_base.specs.Names.{has_site}
use Rattle.raid_base.specs.Sites.{all_sites}

-- the site is in the set at a place of the table; there is none past the end
abbrev pub has_at : List (List Site) → ℕ → Site → Bool
has_at table k s = has_site (slice_index_or table k []) s

-- the set has one of the sites that there can be
abbrev pub has_any : List Site → Bool
has_any set = list_any (has_site set) all_sites
