-- The names of items, by which statements tell them.
use Rattle.std.specs.Prelude.{ℕ, List, Option, map, bytes_eq}
use Rattle.std.specs.List.{position_from}
use Rattle.raid_scan.specs.Words.{Word}
use Rattle.raid_workload.specs.declared.workload.ItemLine.{ItemLine}

abbrev pub names_of : List ItemLine → List Word
names_of items = map (λ (line : ItemLine). line.name) items

-- the place of a name, counted from 0
unfoldable pub place_of : List Word → Word → Option ℕ
place_of names name = position_from (bytes_eq name) 0 names
