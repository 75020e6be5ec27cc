-- The lines before the body: what each says, given the lines before it, or its first fault.
use Rattle.std.specs.Prelude.{ℕ, Bool, true, false, ◌&&◌, ◌||◌, ◌==◌, nat_le, if◌then◌else◌, List, [], ◌∷◌, ◌++◌, length, Option, Some, None, is_some, filter, Result, Ok, Err, codes, bytes_eq}
use Rattle.raid_base.specs.declared.names.Site.{Site}
use Rattle.raid_base.specs.Names.{is_site, has_site}
use Rattle.raid_base.specs.Sites.{site, all_sites}
use Rattle.raid_scan.specs.Words.{Word}
use Rattle.raid_tokens.specs.declared.fault.Fault.{Fault}
use Rattle.raid_tokens.specs.declared.fault.Fault.TheVariants as faults
use Rattle.raid_tokens.specs.Reading.{◌>>=◌}
use Rattle.raid_tokens.specs.Words.{keyword_at, name_at, number_of, number_at, value_at, end_at}
use Rattle.raid_text.specs.declared.state.State.{State}
use Rattle.raid_text.specs.declared.state.Place.{Place}
use Rattle.raid_text.specs.declared.state.Place.TheVariants as places
use Rattle.raid_text.specs.Choices.{kind_at, structure_at}
use Rattle.raid_text.specs.Names.{names_of, place_of}

-- the fault where the test holds
abbrev pub unless : Bool → Fault → Result (Unit {0}) Fault
unless true f = Err f
unless false f = Ok tt

abbrev pub is_empty : List Word → Bool
is_empty [] = true
is_empty (word ∷ words) = false

-- the version, where the words are `workload 1` or `workload 2`
unfoldable pub version_of : Word → List Word → Option ℕ
version_of word [] = None
version_of word (version ∷ words) =
    if bytes_eq word (codes "workload") && is_empty words
    then (if bytes_eq version (codes "1") then Some 1 else (if bytes_eq version (codes "2") then Some 2 else None))
    else None

abbrev pub with_version : State → Option ℕ → Result State Fault
with_version s None = Err faults.First
with_version s (Some version) = Ok (record s { place = places.Sites; version = version })

unfoldable pub version_line : State → Word → List Word → Result State Fault
version_line s word words = with_version s (version_of word words)

-- in version 2 the restarts stand between the sites and the items
abbrev pub after_sites : ℕ → Place
after_sites version = if version == 2 then places.Restarts else places.Items

unfoldable pub sites_line : State → List Word → Result State Fault
sites_line s words = do
  sites ← number_at 1 8 faults.Range words
  rest ← keyword_at (codes "together") sites.1
  together ← number_at 1 16 faults.Range rest
  none ← end_at together.1
  Ok (record s { place = after_sites s.version; sites = sites.0; together = together.0 })

unfoldable pub restarts_line : State → List Word → Result State Fault
restarts_line s words = do
  restarts ← number_at 0 3 faults.Range words
  none ← end_at restarts.1
  Ok (record s { place = places.Items; restarts = restarts.0 })

-- the sites with one more, ascending
abbrev pub with_site : List Site → Site → List Site
with_site sites s = filter (λ r. has_site sites r || is_site s r) all_sites

-- each word a site, and none twice
unfoldable pub sites_at : ℕ → List Site → List Word → Result (List Site) Fault
sites_at sites found [] = Ok found
sites_at sites found (word ∷ words) = do
  n ← number_of 1 sites faults.Site word
  fresh ← unless (has_site found (site n)) faults.Twice
  sites_at sites (with_site found (site n)) words

unfoldable pub holders_at : ℕ → List Word → Result (List Site) Fault
holders_at sites words = do
  some ← unless (is_empty words) faults.NoCopy
  sites_at sites [] words

unfoldable pub item_line : State → List Word → Result State Fault
item_line s words = do
  room ← unless (nat_le 1024 (length s.items)) faults.Many
  name ← name_at words
  fresh ← unless (is_some (place_of (names_of s.items) name.0)) faults.Twice
  value ← value_at name.1
  rest ← keyword_at (codes "at") value.1
  holders ← holders_at s.sites rest
  Ok (record s { items = s.items ++ record { name = name.0; value = value.0; holders = holders } ∷ [] })

unfoldable pub open_line : State → List Word → Result State Fault
open_line s words = do
  kind ← kind_at words
  structure ← structure_at kind.1
  none ← end_at structure.1
  Ok (record s { place = places.Body; kind = kind.0; latest_kind = kind.0; structure = structure.0 })
