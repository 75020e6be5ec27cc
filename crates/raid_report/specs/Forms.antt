-- What a word of a report is. Contracts tie these readers to the spelling: what they read is spelled as the
-- word, and each word that is spelled is read.
use Rattle.std.specs.Prelude.{ℕ, ℤ, zero, suc, ◌+◌, ◌*◌, ◌==◌, nat_lt, if◌then◌else◌, List, [], ◌∷◌, map, length, Option, Some, None, codes, bytes_eq}
use Rattle.raid_base.specs.declared.names.Txn.{Txn}
use Rattle.raid_base.specs.declared.names.Item.{Item}
use Rattle.raid_base.specs.declared.names.Site.{Site}
use Rattle.raid_base.specs.declared.verdict.Kind.{Kind}
use Rattle.raid_base.specs.declared.verdict.Kind.TheVariants as kinds
use Rattle.raid_base.specs.declared.verdict.Method.{Method}
use Rattle.raid_base.specs.declared.verdict.Method.TheVariants as methods
use Rattle.raid_base.specs.Sites.{site}
use Rattle.raid_workload.specs.declared.workload.Workload.{Workload}
use Rattle.raid_workload.specs.declared.workload.ItemLine.{ItemLine}
use Rattle.raid_pieces.specs.Reading.{◌>>=◌}
use Rattle.raid_pieces.specs.Pieces.{pieces}
use Rattle.raid_pieces.specs.Numbers.{number_of, value_of}
use Rattle.raid_pieces.specs.Names.{place_of}
use Rattle.raid_report.specs.Spelling.{Word}

abbrev pub nonzero : ℕ → Option ℕ
nonzero zero = None
nonzero (suc n) = Some (suc n)

-- a number of at least 1
unfoldable pub positive_of : ℕ → Word → Option ℕ
positive_of most word = do
  n ← number_of most word
  nonzero n

abbrev pub item : ℕ → Item
item k = record { 0 = k }

-- an attempt at a program
abbrev pub txn_at : Workload → ℕ → ℕ → Txn
txn_at w program attempt = record { 0 = attempt * length w.programs + program }

unfoldable pub txn_parts : Workload → List Word → Option Txn
txn_parts w [] = None
txn_parts w (program ∷ []) = do
  p ← positive_of (length w.programs) program
  Some (txn_at w p 0)
txn_parts w (program ∷ attempt ∷ []) = do
  p ← positive_of (length w.programs) program
  a ← positive_of w.restarts attempt
  Some (txn_at w p a)
txn_parts w (program ∷ attempt ∷ more ∷ others) = None

unfoldable pub txn_of : Workload → Word → Option Txn
txn_of w [] = None
txn_of w (b ∷ bytes) = if b == 116 then txn_parts w (pieces 46 bytes) else None

unfoldable pub site_of : Workload → Word → Option Site
site_of w [] = None
site_of w (b ∷ bytes) =
    if b == 115 then (do
      n ← positive_of w.sites bytes
      Some (site n)) else None

-- the names of the items
abbrev pub names_of : Workload → List Word
names_of w = map (λ (line : ItemLine). line.name) w.items

unfoldable pub item_of : Workload → Word → Option Item
item_of w word = do
  k ← place_of (names_of w) word
  Some (item k)

unfoldable pub pair_parts : Workload → List Word → Option (Item × ℤ)
pair_parts w [] = None
pair_parts w (name ∷ []) = None
pair_parts w (name ∷ value ∷ []) = do
  x ← item_of w name
  z ← value_of value
  Some (x, z)
pair_parts w (name ∷ value ∷ more ∷ others) = None

unfoldable pub pair_of : Workload → Word → Option (Item × ℤ)
pair_of w part = pair_parts w (pieces 61 part)

unfoldable pub all_pairs : Workload → List Word → Option (List (Item × ℤ))
all_pairs w [] = Some []
all_pairs w (part ∷ parts) = do
  pair ← pair_of w part
  pairs ← all_pairs w parts
  Some (pair ∷ pairs)

unfoldable pub pairs_of : Workload → Word → Option (List (Item × ℤ))
pairs_of w word = if bytes_eq word (codes "-") then Some [] else all_pairs w (pieces 44 word)

unfoldable pub session_of : Word → Option ℕ
session_of part = if bytes_eq part (codes "-") then Some 0 else positive_of 4294967295 part

unfoldable pub all_sessions : List Word → Option (List ℕ)
all_sessions [] = Some []
all_sessions (part ∷ parts) = do
  session ← session_of part
  sessions ← all_sessions parts
  Some (session ∷ sessions)

abbrev pub if_long : ℕ → List ℕ → Option (List ℕ)
if_long sites sessions = if length sessions == sites then Some sessions else None

unfoldable pub vector_of : Workload → Word → Option (List ℕ)
vector_of w word = do
  sessions ← all_sessions (pieces 44 word)
  if_long w.sites sessions

abbrev pub above : ℕ → Site → Option Site
above least s = if nat_lt least s.0 then Some s else None

-- a site above the number
abbrev pub site_above : Workload → ℕ → Word → Option Site
site_above w least part = do
  s ← site_of w part
  above least s

-- sites above the number, ascending
unfoldable pub sites_above : Workload → ℕ → List Word → Option (List Site)
sites_above w least [] = Some []
sites_above w least (part ∷ parts) = do
  s ← site_above w least part
  others ← sites_above w s.0 parts
  Some (s ∷ others)

unfoldable pub set_of : Workload → Word → Option (List Site)
set_of w word = if bytes_eq word (codes "-") then Some [] else sites_above w 0 (pieces 44 word)

unfoldable pub kind_of : Word → Option Kind
kind_of word =
    if bytes_eq word (codes "lock") then Some kinds.Lock else
    (if bytes_eq word (codes "stamp") then Some kinds.Stamp else
    (if bytes_eq word (codes "valid") then Some kinds.Valid else
    (if bytes_eq word (codes "graph") then Some kinds.Graph else None)))

unfoldable pub method_of : Word → Option Method
method_of word =
    if bytes_eq word (codes "generic") then Some methods.Generic else
    (if bytes_eq word (codes "convert") then Some methods.Convert else
    (if bytes_eq word (codes "suffix") then Some methods.Suffix else None))
