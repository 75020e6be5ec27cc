-- Which copies are under way, and what a table of their sources stands for.
use Rattle.std.specs.Prelude.{◌≡◌, ℕ, ◌+◌, ◌*◌, ◌-◌, ◌≤◌, Bool, ◌&&◌, ◌||◌, List, [], ◌∷◌, filter, slice_index_or, Option, Some, None, is_some, if◌then◌else◌}
use Rattle.raid_base.specs.declared.names.Item.{Item}
use Rattle.raid_base.specs.declared.names.Site.{Site}
use Rattle.raid_base.specs.Names.{is_item, is_site}
use Rattle.raid_steps.specs.State.{Copying}
use Rattle.raid_copier.specs.declared.copiers.Copiers.{Copiers}

-- the copy is one of the item to the site
abbrev pub is_to : Site → Item → Copying → Bool
is_to s x c = is_site s c.target && is_item x c.item

-- the place of a target and an item in the table: eight places for each item
abbrev pub place_of : Site → Item → ℕ
place_of s x = x.0 * 8 + (s.0 - 1)

-- the source of the copy of the item to the site, if the table has one
abbrev pub source_of : Copiers → Site → Item → Option Site
source_of c s x = slice_index_or c.sources.items (place_of s x) None

-- the table has a source for the copy of the item to the site
abbrev pub is_held : Copiers → Site → Item → Bool
is_held c s x = is_some (source_of c s x)

-- the copy of the item to the site from the source, if there is one
abbrev pub copies : Site → Item → Option Site → List Copying
copies s x None = []
copies s x (Some r) = record { target = s; item = x; source = r } ∷ []

-- of the list each site and item have the one copy of which the table has the source, and none where it has none
abbrev pub Stands : Copiers → List Copying → Type 0
Stands c out = (s : Site) (x : Item) → 1 ≤ s.0 → s.0 ≤ 8 → filter (is_to s x) out ≡ copies s x (source_of c s x)

-- the source of a copy to the target that is left after the loss of a site
abbrev pub left : Site → Site → Option Site → Option Site
left lost target None = None
left lost target (Some r) = if is_site lost target || is_site lost r then None else Some r
