-- What a report's lines say so far, and what one line more says.
use Rattle.std.specs.Prelude.{◌+◌, ◌==◌, nat_lt, Bool, true, false, ◌&&◌, if◌then◌else◌, List, [], ◌∷◌, ◌++◌, length, Option, Some, None, codes, bytes_eq, slice_get}
use Rattle.raid_base.specs.declared.names.Txn.{Txn}
use Rattle.raid_base.specs.declared.names.Item.{Item}
use Rattle.raid_base.specs.declared.names.Site.{Site}
use Rattle.raid_base.specs.declared.report.Report.{Report}
use Rattle.raid_workload.specs.declared.workload.Workload.{Workload}
use Rattle.raid_pieces.specs.Reading.{◌>>=◌}
use Rattle.raid_pieces.specs.Numbers.{number_of}
use Rattle.raid_report.specs.declared.draft.Draft.{Draft}
use Rattle.raid_report.specs.declared.draft.Place.{Place}
use Rattle.raid_report.specs.declared.draft.Place.TheVariants.{Start, Entries, Tail, Over}
use Rattle.raid_report.specs.Spelling.{Word}
use Rattle.raid_report.specs.Known.{places}
use Rattle.raid_report.specs.Forms.{txn_of}
use Rattle.raid_report.specs.Next.{end_at, number_at, value_at, site_at, item_at, entry_at}

-- before the first line
abbrev pub opening : Draft
opening = record { place = Start; entries = []; order = []; finals = []; copies = [] }

-- the step goes on where the test holds
abbrev pub where_true : Bool → Option (Unit {0})
where_true true = Some tt
where_true false = None

unfoldable pub version_line : Workload → Draft → List Word → Option Draft
version_line w d words = do
  n ← number_at 255 words
  right ← where_true (n.0 == w.version)
  none ← end_at n.1
  Some (record d { place = Entries })

unfoldable pub all_txns : Workload → List Word → Option (List Txn)
all_txns w [] = Some []
all_txns w (word ∷ words) = do
  t ← txn_of w word
  ts ← all_txns w words
  Some (t ∷ ts)

unfoldable pub no_txns : List Word → Option (List Txn)
no_txns words = do
  none ← end_at words
  Some []

unfoldable pub order_of : Workload → List Word → Option (List Txn)
order_of w [] = None
order_of w (word ∷ words) = if bytes_eq word (codes "-") then no_txns words else all_txns w (word ∷ words)

unfoldable pub order_line : Workload → Draft → List Word → Option Draft
order_line w d words = do
  ts ← order_of w words
  Some (record d { place = Tail; order = ts })

unfoldable pub numbered_line : Workload → Draft → Word → List Word → Option Draft
numbered_line w d word words = do
  n ← number_of 4294967295 word
  right ← where_true (n == length d.entries + 1)
  e ← entry_at w words
  Some (record d { entries = d.entries ++ e ∷ [] })

unfoldable pub final_line : Workload → Draft → List Word → Option Draft
final_line w d words = do
  x ← item_at w words
  right ← where_true (x.0.0 == length d.finals)
  z ← value_at x.1
  none ← end_at z.1
  Some (record d { finals = d.finals ++ (x.0, z.0) ∷ [] })

-- the place is that of this copy
abbrev pub is_place : Option (Site × Item) → Site → Item → Bool
is_place None s x = false
is_place (Some p) s x = p.0.0 == s.0 && p.1.0 == x.0

unfoldable pub copy_line : Workload → Draft → List Word → Option Draft
copy_line w d words = do
  s ← site_at w words
  x ← item_at w s.1
  right ← where_true (is_place (slice_get (places w) (length d.copies)) s.0 x.0)
  z ← value_at x.1
  v ← number_at 4294967295 z.1
  none ← end_at v.1
  Some (record d { copies = d.copies ++ record { site = s.0; item = x.0; value = z.0; version = v.0 } ∷ [] })

unfoldable pub done_line : Draft → List Word → Option Draft
done_line d words = do
  none ← end_at words
  Some (record d { place = Over })

-- a line behind the order
unfoldable pub tail_line : Workload → Draft → Word → List Word → Option Draft
tail_line w d word words =
    if nat_lt (length d.finals) (length w.items) then (if bytes_eq word (codes "final") then final_line w d words else None) else
    (if nat_lt (length d.copies) (length (places w)) then (if bytes_eq word (codes "copy") then copy_line w d words else None) else
    (if bytes_eq word (codes "done") then done_line d words else None))

unfoldable pub line_at : Workload → Place → Draft → Word → List Word → Option Draft
line_at w Start d word words = if bytes_eq word (codes "report") then version_line w d words else None
line_at w Entries d word words = if bytes_eq word (codes "order") then order_line w d words else numbered_line w d word words
line_at w Tail d word words = tail_line w d word words
line_at w Over d word words = None

unfoldable pub line_after : Workload → Draft → List Word → Option Draft
line_after w d [] = None
line_after w d (word ∷ words) = line_at w d.place d word words

-- the lines, one after another
abbrev pub lines_after : Workload → Option Draft → List (List Word) → Option Draft
lines_after w None lines = None
lines_after w (Some d) [] = Some d
lines_after w (Some d) (words ∷ lines) = lines_after w (line_after w d words) lines

abbrev pub report_of : Draft → Report
report_of d = record { entries = d.entries; order = d.order; finals = d.finals; copies = d.copies }
