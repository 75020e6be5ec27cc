-- The one text of a report: its lines, each a list of words.
use Rattle.std.specs.Prelude.{ℕ, ℤ, zero, suc, ◌+◌, List, [], ◌∷◌, ◌++◌, map, flat_map, length, codes, slice_get}
use Rattle.std.specs.Option.{option_map_or}
use Rattle.std.specs.Fmt.{decimal, signed_decimal}
use Rattle.raid_base.specs.declared.names.Txn.{Txn}
use Rattle.raid_base.specs.declared.names.Item.{Item}
use Rattle.raid_base.specs.declared.names.Site.{Site}
use Rattle.raid_base.specs.declared.verdict.Kind.{Kind}
use Rattle.raid_base.specs.declared.verdict.Kind.TheVariants as kinds
use Rattle.raid_base.specs.declared.verdict.Method.{Method}
use Rattle.raid_base.specs.declared.verdict.Method.TheVariants as methods
use Rattle.raid_base.specs.declared.request.Request.{Request}
use Rattle.raid_base.specs.declared.entry.Entry.{Entry}
use Rattle.raid_base.specs.declared.entry.Entry.TheVariants.{Begin, Read, Wait, Commit, Abort, Ack, SwitchOn, SwitchEnd, Down, Up, Clear}
use Rattle.raid_base.specs.declared.entry.Act.{Act}
use Rattle.raid_base.specs.declared.entry.Act.TheVariants as acts
use Rattle.raid_base.specs.declared.entry.Cause.{Cause}
use Rattle.raid_base.specs.declared.entry.Cause.TheVariants as causes
use Rattle.raid_base.specs.declared.report.Report.{Report}
use Rattle.raid_base.specs.declared.report.CopyLine.{CopyLine}
use Rattle.raid_base.specs.Names.{program_of, attempt_of}
use Rattle.raid_workload.specs.declared.workload.Workload.{Workload}
use Rattle.raid_workload.specs.declared.workload.ItemLine.{ItemLine}

abbrev pub Word : Type 0
Word = List ℕ

-- ---- words

-- each piece with a comma before it
abbrev pub behind_commas : List Word → Word
behind_commas pieces = flat_map (λ piece. 44 ∷ piece) pieces

-- a hyphen where there is nothing, else the pieces with a comma between each two
abbrev pub listed : List Word → Word
listed [] = codes "-"
listed (piece ∷ pieces) = piece ++ behind_commas pieces

-- nothing for the first attempt, else a point and the attempt's number
abbrev pub attempt_part : ℕ → Word
attempt_part zero = []
attempt_part (suc n) = 46 ∷ decimal (suc n)

-- the number of its program, and of the attempt where it isn't the first
abbrev pub txn_word : Workload → Txn → Word
txn_word w t = 116 ∷ (decimal (program_of t (length w.programs)) ++ attempt_part (attempt_of t (length w.programs)))

abbrev pub site_word : Site → Word
site_word s = 115 ∷ decimal s.0

-- the name of an item
abbrev pub name_of : Workload → Item → Word
name_of w x = option_map_or (λ (line : ItemLine). line.name) (slice_get w.items x.0) []

-- an item and its value
abbrev pub pair_part : Workload → Item × ℤ → Word
pair_part w p = name_of w p.0 ++ (61 ∷ signed_decimal p.1)

abbrev pub pairs_word : Workload → List (Item × ℤ) → Word
pairs_word w pairs = listed (map (pair_part w) pairs)

-- a session, or a hyphen for a site that is down
abbrev pub session_part : ℕ → Word
session_part zero = codes "-"
session_part (suc n) = decimal (suc n)

abbrev pub vector_word : List ℕ → Word
vector_word v = listed (map session_part v)

abbrev pub set_word : List Site → Word
set_word sites = listed (map site_word sites)

abbrev pub kind_word : Kind → Word
kind_word kinds.Lock = codes "lock"
kind_word kinds.Stamp = codes "stamp"
kind_word kinds.Valid = codes "valid"
kind_word kinds.Graph = codes "graph"

abbrev pub method_word : Method → Word
method_word methods.Generic = codes "generic"
method_word methods.Convert = codes "convert"
method_word methods.Suffix = codes "suffix"

-- ---- parts of lines

abbrev pub request_words : Workload → Request → List Word
request_words w r = codes "reads" ∷ pairs_word w r.reads ∷ codes "writes" ∷ pairs_word w r.writes ∷ codes "under" ∷ vector_word r.under ∷ []

abbrev pub act_words : Workload → Act → List Word
act_words w acts.Nothing = []
act_words w (acts.Ended reads) = codes "reads" ∷ pairs_word w reads ∷ []
act_words w (acts.Read x) = codes "read" ∷ name_of w x ∷ []
act_words w (acts.Commit r) = codes "commit" ∷ request_words w r

abbrev pub cause_words : Cause → List Word
cause_words causes.Own = codes "own" ∷ []
cause_words causes.Overflow = codes "overflow" ∷ []
cause_words causes.Late = codes "late" ∷ []
cause_words causes.Invalid = codes "invalid" ∷ []
cause_words causes.Cycle = codes "cycle" ∷ []
cause_words causes.Deadlock = codes "deadlock" ∷ []
cause_words (causes.SwitchOff k) = codes "switchoff" ∷ decimal k ∷ []
cause_words causes.HomeDown = codes "homedown" ∷ []
cause_words (causes.Stale v) = codes "stale" ∷ vector_word v ∷ []
cause_words causes.NoCopy = codes "nocopy" ∷ []

-- ---- lines

-- an entry, without its number
abbrev pub entry_words : Workload → Entry → List Word
entry_words w (Begin t s) = codes "begin" ∷ txn_word w t ∷ codes "at" ∷ site_word s ∷ []
entry_words w (Read t x s) = codes "read" ∷ txn_word w t ∷ name_of w x ∷ codes "at" ∷ site_word s ∷ []
entry_words w (Wait t r) = codes "wait" ∷ txn_word w t ∷ request_words w r
entry_words w (Commit t r applied) = codes "commit" ∷ txn_word w t ∷ (request_words w r ++ (codes "applied" ∷ set_word applied ∷ []))
entry_words w (Abort t cause act) = codes "abort" ∷ txn_word w t ∷ (cause_words cause ++ act_words w act)
entry_words w (Ack t s) = codes "ack" ∷ txn_word w t ∷ site_word s ∷ []
entry_words w (SwitchOn k kind method) = codes "switchon" ∷ decimal k ∷ kind_word kind ∷ method_word method ∷ []
entry_words w (SwitchEnd k) = codes "switchend" ∷ decimal k ∷ []
entry_words w (Down s) = codes "down" ∷ site_word s ∷ []
entry_words w (Up s session) = codes "up" ∷ site_word s ∷ codes "session" ∷ decimal session ∷ []
entry_words w (Clear s x version) = codes "clear" ∷ site_word s ∷ name_of w x ∷ codes "at" ∷ decimal version ∷ []

-- the entries, each behind its number, the first of them having this number
abbrev pub entry_lines : Workload → ℕ → List Entry → List (List Word)
entry_lines w number [] = []
entry_lines w number (e ∷ es) = (decimal number ∷ entry_words w e) ∷ entry_lines w (number + 1) es

-- the transactions of the order, or a hyphen where there is none
abbrev pub txns_words : Workload → List Txn → List Word
txns_words w [] = codes "-" ∷ []
txns_words w (t ∷ ts) = txn_word w t ∷ map (txn_word w) ts

abbrev pub order_words : Workload → List Txn → List Word
order_words w ts = codes "order" ∷ txns_words w ts

abbrev pub final_words : Workload → Item × ℤ → List Word
final_words w p = codes "final" ∷ name_of w p.0 ∷ signed_decimal p.1 ∷ []

abbrev pub copy_words : Workload → CopyLine → List Word
copy_words w c = codes "copy" ∷ site_word c.site ∷ name_of w c.item ∷ signed_decimal c.value ∷ decimal c.version ∷ []

-- all lines of a report
unfoldable pub spelling : Workload → Report → List (List Word)
spelling w r =
    (codes "report" ∷ decimal w.version ∷ []) ∷ (entry_lines w 1 r.entries ++ (order_words w r.order ∷
    (map (final_words w) r.finals ++ (map (copy_words w) r.copies ++ ((codes "done" ∷ []) ∷ [])))))

-- ---- the text

-- the words behind the first of a line, a space before each
abbrev pub spaced : List Word → List ℕ
spaced words = flat_map (λ word. 32 ∷ word) words

-- a line's words with a space between each two, and a line feed at the end
abbrev pub line_text : List Word → List ℕ
line_text [] = 10 ∷ []
line_text (word ∷ words) = word ++ (spaced words ++ (10 ∷ []))

abbrev pub text_of : List (List Word) → List ℕ
text_of lines = flat_map line_text lines

-- the text of a report
abbrev pub print_of : Workload → Report → List ℕ
print_of w r = text_of (spelling w r)
